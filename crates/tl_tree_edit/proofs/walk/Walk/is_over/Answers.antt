use Rattle.std.proofs.Common.{None, [], sym, true≢false, ◌∙◌}
use Rattle.tl_tree.specs.TreeView.{rows_in}
use Rattle.tl_tree_edit.proofs.Ending.{rows_over}
use Rattle.tl_tree_edit.proofs.Following.{both_left, not_left}
use Rattle.tl_tree_edit.proofs.Reading.{none_next}
use Rattle.tl_tree_edit.specs.Events.{ended}
use Rattle.tl_tree_edit.specs.Inner.Walk.{edits_left, left, opens_of}
use Rattle.tl_tree_edit.proofs.walk.Walk.is_over.Goals as goal

pub returns-then-not-branch : goal.returns-then-not-branch
returns-then-not-branch c =
    let w = c.args.self.now in
    let met = rw c.if-not-branch.true at c.in_ok-close.ensures.met in
    let over = rows_over (rows_in c.args.old.now) (opens_of w) w.until (edits_left w) in (
      λ t. absurd (true≢false (sym t)),
      λ e. absurd (not_left (ended None (opens_of w)) [] (left w.rest) (left c.close.new.self.rest) met (e ∙ over)),
    )

pub returns : goal.returns
returns c =
    let w = c.args.self.now in
    let met = rw c.if-not-branch.false at c.in_ok-close.ensures.met in
    let over = rows_over (rows_in c.args.old.now) (opens_of w) w.until (edits_left w) in
    let all = both_left (ended None (opens_of w)) [] (left w.rest) (left c.close.new.self.rest) met in
    let none = none_next (rows_in c.close.new.self.rest.tree.now) (left c.close.new.self.rest) (left c.next.new.self) c.in_ok-next.field-0 c.is_none.result c.in_ok-next.ensures.next c.is_none.ensures in
    (λ t. all.1 (none.0 t) ∙ sym over, λ e. none.1 (all.0 (e ∙ over)))
