use Rattle.std.proofs.Common.{rules, ◌≡◌, List, map, ℕ}
use Rattle.tl_patch_spec.specs.Patches.{Patch}
use Rattle.tl_patch_select.specs.NodeEdits.{edit_of, edited_number}
use Rattle.tl_patch_select.proofs.node_edits.numbers_in_order.Goals as goal

pub returns : goal.returns
returns c =
    let same : c.in_ok-numbers.numbers.items ≡ map edited_number (map edit_of c.args.edits.now) = search rules in
    record {
      rising = c.put_in_order.ensures.rising;
      kept = λ n h. c.put_in_order.ensures.kept n (rw same h);
      none_added = λ n h. rw same at (c.put_in_order.ensures.none_added n h);
    }
