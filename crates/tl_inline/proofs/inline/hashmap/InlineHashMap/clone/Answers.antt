use Rattle.std.proofs.Common.{◌≡◌, ◌∙◌, ap, sym, subst, true, false}
use Rattle.std.specs.List.{All, IsDistinct}
use Rattle.std.specs.Map.{keys_of, values_of}
use Rattle.tl_spec.specs.Tree.Inline.{InlineMap}
use Rattle.tl_inline.specs.Inner.PairStorage.{storage_view}
use Rattle.tl_inline.proofs.Maps.{all_pairs, clone_is, same_map}
use Rattle.tl_inline.proofs.inline.hashmap.InlineHashMap.clone.Goals as goal

pub invariant_of-result : goal.invariant_of-result
invariant_of-result g c =
    let at : storage_view c.self.inside.held ≡ c.args.self.now = c.self.view_is in
    let e = clone_is g.K.Clone.is_clone g.V.Clone.is_clone c.args.self.now c.in-Inline.inline.items _ false (rw c.in-Inline.is at at)
    c.requires.keys c.requires.values c.in_ok-clone-in-Inline.ensures.cases in
    subst (λ l. IsDistinct g.K.PartialEq.eq (keys_of l)) (sym e.0) (rw c.in-Inline.is at c.self.invariant)

pub returns-in_ok-clone-in-Inline-clause-ok : goal.returns-in_ok-clone-in-Inline-clause-ok
returns-in_ok-clone-in-Inline-clause-ok g c =
    let at : storage_view c.self.inside.held ≡ c.args.self.now = c.self.view_is in
    (clone_is g.K.Clone.is_clone g.V.Clone.is_clone c.args.self.now c.in-Inline.inline.items _ false (rw c.in-Inline.is at at)
    c.requires.keys c.requires.values c.in_ok-clone-in-Inline.ensures.cases).1

pub returns-in_ok-clone-in-Heap-clause-ok : goal.returns-in_ok-clone-in-Heap-clause-ok
returns-in_ok-clone-in-Heap-clause-ok g c =
    let at : storage_view c.self.inside.held ≡ c.args.self.now = c.self.view_is in
    ap (λ l. same_map l true) c.in_ok-clone-in-Heap.ensures ∙ rw c.in-Heap.is at at

pub returns-in_err-clone-in-Inline-clause-succeeds : goal.returns-in_err-clone-in-Inline-clause-succeeds
returns-in_err-clone-in-Inline-clause-succeeds g c =
    let at : storage_view c.self.inside.held ≡ c.args.self.now = c.self.view_is in
    let entries = sym (ap (λ (w : InlineMap _ _). w.entries) (rw c.in-Inline.is at at)) in
    λ inline keys values.
    absurd (c.in_err-clone-in-Inline.ensures.cases (all_pairs g.K.Clone.is_infallible g.V.Clone.is_infallible c.in-Inline.inline.items
    (subst (λ l. All g.K.Clone.is_infallible (keys_of l)) entries keys) (subst (λ l. All g.V.Clone.is_infallible (values_of l)) entries values)))
