use Rattle.std.proofs.Common.{◌≡◌, ◌-◌, length}
use Rattle.tl_patch_select.specs.Selected.{first_place}
use Rattle.tl_tree.specs.TreeView.{rows_in}
use Rattle.tl_patch_select.proofs.partly.place_from.Given as goal

-- none of the nodes so far has a place
abbrev pub invariant-loop-later : goal.invariant-loop-later
invariant-loop-later l =
    first_place l.tree l.page_len l.number (length (rows_in l.tree) - l.number)
    ≡ first_place l.tree l.page_len l.later (length (rows_in l.tree) - l.later)
