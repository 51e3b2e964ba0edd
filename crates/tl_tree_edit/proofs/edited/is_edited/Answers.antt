use Rattle.std.proofs.Common.{Bool, [], arith, false, length, subst, sym, true, true≢false, ℕ, ◌+◌, ◌≡◌}
use Rattle.tl_tree.specs.TreeView.{rows_in}
use Rattle.tl_tree_edit.proofs.Following.{both_left, follows_then, if_ok, not_left}
use Rattle.tl_tree_edit.specs.Changes.{edited}
use Rattle.tl_tree_edit.specs.Events.{events}
use Rattle.tl_tree_edit.specs.Inner.Walk.{Follows, left, remaining}
use Rattle.tl_tree_edit.specs.View.{edits_of}
use Rattle.tl_tree_edit.proofs.edited.is_edited.Goals as goal

pub returns-then-not-branch : goal.returns-then-not-branch
returns-then-not-branch c =
    let rows = rows_in c.args.old.now in
    let all = edited (edits_of c.args.edits.now) rows in
    let said = events (rows_in c.args.new.now) in
    let met = rw c.if-not-branch.true at c.in_ok-row.ensures in
    let no = follows_then all (remaining rows c.loop-number.number c.loop-number.walk) (remaining rows (c.loop-number.number + 1) c.row.new.self) said (left c.loop-number.walk.rest) (left c.row.new.self.rest) false c.loop-number.invariant met in
    (λ t. absurd (true≢false (sym t)), λ e. absurd (not_left all [] said [] no e))

pub returns : goal.returns
returns c =
    let rows = rows_in c.args.old.now in
    let all = edited (edits_of c.args.edits.now) rows in
    let said = events (rows_in c.args.new.now) in
    let walk = c.loop-number.walk in
    let end : c.loop-number.number ≡ length rows = omega (arith, c.loop-number-test.false, c.len-number-end.ensures, c.loop-number.auto.number-end) in
    let over = both_left all (remaining rows (length rows) walk) said (left walk.rest) (subst (λ (n : ℕ). Follows all (remaining rows n walk) said (left walk.rest) true) end c.loop-number.invariant) in
    if_ok c.is_over.result _ _ (λ (is : Bool) h. (λ t. over.1 (h.0 t), λ e. h.1 (over.0 e))) c.is_over.ensures
