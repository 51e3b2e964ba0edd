use Rattle.std.proofs.Common.{refl, arith}
use Rattle.tl_inline.proofs.inline.vec.storage.ItemStorage.get_mut.Goals as goal

pub returns-in-Inline : goal.returns-in-Inline
returns-in-Inline g c =
    let e = rw c.in-Inline.is at c.get_mut.ensures in
    rw c.in-Inline.is (refl, record { writes_back = tt; variant = e.variant; value = e.value; item = e.item })

pub returns-in-Heap : goal.returns-in-Heap
returns-in-Heap g c =
    let e = rw c.in-Heap.is at c.get_mut-in-Heap.ensures in
    let counted = c.in-Heap.heap.ok.0 in
    rw c.in-Heap.is (
      refl,
      record {
        writes_back = tt;
        variant = ((λ some. let lt = e.variant.0 some in omega arith), λ lt. e.variant.1 (omega arith));
        value = e.value;
        item = e.item;
      },
    )
