use Rattle.std.proofs.Common.{rules, None, length, ◌<◌, ◌≡◌, ◌∙◌}
use Rattle.tl_patch_select.specs.Selected.{place_of}
use Rattle.tl_tree.specs.TreeView.{rows_in}
use Rattle.tl_patch_select.proofs.Places.{none_here}
use Rattle.tl_patch_select.proofs.selected.first_place.Goals as goal

pub loop-later-preserved : goal.loop-later-preserved
loop-later-preserved c =
    let tree = c.args.tree.now in
    let number = c.loop-later.later in
    let within : number < length (rows_in tree) = search rules in
    let none : place_of tree number ≡ None = search rules in
    c.loop-later.invariant ∙ none_here tree c.args.page_len number (length (rows_in tree)) within none
