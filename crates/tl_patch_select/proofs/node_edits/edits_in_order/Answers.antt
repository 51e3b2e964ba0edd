use Rattle.std.proofs.Common.{rules, ◌≡◌, List, map, ℕ, subst}
use Rattle.std.specs.Prelude.{OnOk}
use Rattle.tl_patch_edit.specs.View.{patches_view}
use Rattle.tl_patch_spec.specs.Patches.{Patch}
use Rattle.tl_patch_select.specs.NodeEdits.{AreEditsInOrder, edit_of, placed_edits}
use Rattle.tl_patch_select.proofs.node_edits.edits_in_order.Goals as goal

pub returns : goal.returns
returns c =
    let own : List (ℕ × Patch) = placed_edits c.args.tree.now (map edit_of c.args.edits.now) in
    let same : patches_view c.in_ok-patches.patches.items ≡ own = search rules in
    let order : AreEditsInOrder (patches_view c.in_ok-patches.patches.items) (patches_view c.sort.new.patches.items) = search rules in
    subst (λ (edits : List (ℕ × Patch)). AreEditsInOrder edits (patches_view c.sort.new.patches.items)) same order
