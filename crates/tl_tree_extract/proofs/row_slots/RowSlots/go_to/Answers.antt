use Rattle.std.proofs.Common.{List, arith, length, slice_get, subst, sym, ℕ, ◌<◌, ◌∙◌, ◌≡◌}
use Rattle.tl_tree_extract.proofs.Slots.{cell_found, slot_found}
use Rattle.tl_tree_extract.specs.Inner.Slots.{AreOpenAt, AreSlots, IsAhead}
use Rattle.tl_tree_extract.specs.declared.tables.Cell.{Cell}
use Rattle.tl_tree_extract.proofs.row_slots.RowSlots.go_to.Goals as goal

pub open_up_to-requires : goal.open_up_to-requires
open_up_to-requires c =
    let cells : List Cell = c.args.table.now.cells.items in
    let same : c.as_slice.result.now ≡ cells = c.as_slice.ensures.value in
    subst (λ (v : List Cell). AreOpenAt v c.args.row c.args.self.now.met c.keep_open.new.open.items) (sym same)
    (subst (λ (v : List Cell). AreOpenAt cells c.args.row c.args.self.now.met v) (sym c.keep_open.ensures) c.requires.before)

pub returns : goal.returns
returns c =
    let cells : List Cell = c.args.table.now.cells.items in
    let going : List Cell = c.open_up_to.new.open.items in
    let slots : List ℕ = c.lay_slots.new.slots.items in
    let next : ℕ = c.in_ok-self.field-0 in
    let same : c.as_slice.result.now ≡ cells = c.as_slice.ensures.value in
    let here : AreOpenAt cells c.args.row next going = subst (λ (v : List Cell). AreOpenAt v c.args.row next going) same c.in_ok-self.ensures.here in
    let ahead : IsAhead c.args.row (slice_get cells next) = subst (λ (v : List Cell). IsAhead c.args.row (slice_get v next)) same c.in_ok-self.ensures.ahead in
    let laid : AreSlots going slots = subst (λ (v : List Cell). AreSlots v slots) c.as_slice-2.ensures.value c.in_ok-lay_slots.ensures.cells in
    record {
      going = here;
      slots = λ column le.
          let within : column < length slots = omega (arith, le, c.in_ok-lay_slots.ensures.length, c.max-count.ensures) in
          cell_found going slots column laid within
          ∙ slot_found column c.args.row 0 (length c.args.table.now.rows.items) next cells going c.requires.rising here ahead;
    }
