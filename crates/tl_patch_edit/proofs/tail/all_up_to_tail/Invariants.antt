use Rattle.std.proofs.Common.{◌≡◌, List, length, map, take}
use Rattle.tl_html_spec.specs.Pieces.{Piece}
use Rattle.tl_patch_elements.specs.View.{elements_view}
use Rattle.tl_patch_spec.specs.Tail.{up_to_tail}
use Rattle.tl_patch_edit.specs.Inner.Tails.{IsTailFrom}
use Rattle.tl_patch_edit.proofs.tail.all_up_to_tail.Given as goal

abbrev pub invariant-loop-at : goal.invariant-loop-at
invariant-loop-at l = (ps : List Piece) → IsTailFrom 0 ps l.tail → length ps ≡ l.len →
    elements_view l.out.items ≡ map (up_to_tail ps) (elements_view (take l.at l.elements))
