use Rattle.std.proofs.Common.{rules, None, arith, length, ◌<◌, ◌≡◌, ◌∙◌}
use Rattle.tl_patch_select.specs.Selected.{place_of}
use Rattle.tl_tree.specs.TreeView.{rows_in}
use Rattle.tl_patch_select.proofs.Places.{none_here}
use Rattle.tl_patch_select.proofs.partly.place_from.Goals as goal

pub loop-later-preserved : goal.loop-later-preserved
loop-later-preserved c =
    let tree = c.args.tree.now in
    let number = c.loop-later.later in
    let own = c.requires.within in
    let before = c.loop-later-test.true in
    let within : number < length (rows_in tree) = omega (arith, own, before) in
    let none : place_of tree number ≡ None = search rules in
    c.loop-later.invariant ∙ none_here tree c.args.page_len number (length (rows_in tree)) within none
