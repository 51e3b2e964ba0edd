use Rattle.std.proofs.Common.{rules, ◌≡◌, length}
use Rattle.tl_patch.proofs.Same.{none_of, nothing_changed}
use Rattle.tl_patch.proofs.page.patch.Goals as goal

pub returns-then-is_empty-clause-patched : goal.returns-then-is_empty-clause-patched
returns-then-is_empty-clause-patched c =
    let empty : length c.args.patches.now ≡ 0 = search rules in
    let same : c.in_ok-to_vec.field-0.items ≡ c.args.page.now = search rules in
    nothing_changed c.args.patches.now c.args.page.now c.in_ok-to_vec.field-0.items (none_of c.args.patches.now empty) same
