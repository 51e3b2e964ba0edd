use Rattle.std.proofs.Common.{List, ap, arith, drop, get_or, if◌then◌else◌, length, refl, suc, sym, ℕ, ◌+◌, ◌-◌, ◌<◌, ◌∙◌, ◌≡◌, ◌∷◌}
use Rattle.std.proofs.Math.Seq.{drop-cons}
use Rattle.tl_tree_extract.specs.Inner.Slots.{first_across, is_across}
use Rattle.tl_tree_extract.proofs.Slots.{across_end, across_step}
use Rattle.tl_tree_extract.specs.declared.tables.Cell.{Cell}
use Rattle.tl_tree_extract.proofs.row_slots.put_cells.Goals as goal

pub loop-index-init : goal.loop-index-init
loop-index-init c = record {
  within = omega arith;
  size = refl;
  here = λ k lt. c.requires k lt ∙ across_end k (length c.args.open.now) c.args.open.now refl;
}

pub returns-clause-here : goal.returns-clause-here
returns-clause-here c = λ k lt.
    let none : c.loop-index.index ≡ 0 = omega (arith, c.loop-index-test.false) in
    let all : 0 + first_across k c.args.open.now ≡ first_across k c.args.open.now = omega arith in
    c.loop-index.invariant.here k lt ∙ ap (λ (n : ℕ). n + first_across k (drop n c.args.open.now)) none ∙ all

pub loop-index-preserved : goal.loop-index-preserved
loop-index-preserved c =
    let going : List Cell = c.args.open.now in
    let i : ℕ = c.loop-index.index - 1 in
    let none : Cell = record { node = 0; left = 0; right = 0; top = 0; bottom = 0 } in
    let cell : Cell = get_or going i none in
    let some : 0 < c.loop-index.index = c.loop-index-test.true in
    let more : c.loop-index.index ≡ suc i = omega (arith, some) in
    let size : length c.loop-index.slots ≡ length c.args.slots.now = c.loop-index.invariant.size in
    let within : i < length going = omega (arith, some, c.loop-index.invariant.within) in
    let left : drop i going ≡ cell ∷ drop (suc i) going = drop-cons going i none within in
    record {
      within = omega (arith, some, c.loop-index.invariant.within);
      size = c.put_cell.ensures.length ∙ size;
      here = λ k lt.
          let below : k < length c.loop-index.slots = omega (arith, size, lt) in
          c.put_cell.ensures.here k below
          ∙ ap (λ (v : ℕ). if is_across k cell then i else v) (c.loop-index.invariant.here k lt ∙ ap (λ (n : ℕ). n + first_across k (drop n going)) more)
          ∙ sym (across_step k i going cell left);
    }
