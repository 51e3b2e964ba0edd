use Rattle.std.proofs.Common.{Bool, Option, Some, add-one, ap, refl, ℕ, ◌+◌, ◌≡◌, ◌∙◌}
use Rattle.std.specs.Option.{option_map}
use Rattle.std.specs.Prelude.{if◌then◌else◌}
use Rattle.tl_tree.specs.TreeView.{rows_in}
use Rattle.tl_tree_edit.proofs.Ending.{row_not_ended, row_over, row_stepped, row_there, step_same, stepped_met, stepped_open}
use Rattle.tl_tree_edit.proofs.Following.{if_ok}
use Rattle.tl_tree_edit.specs.Changes.{Change, due, step_at}
use Rattle.tl_tree_edit.specs.Events.{left_open, opened}
use Rattle.tl_tree_edit.specs.Inner.Walk.{all_open, edits_left, left, opens_of, remaining, step_by}
use Rattle.tl_tree_edit.specs.View.{change_of}
use Rattle.tl_tree_edit.proofs.walk.Walk.row.Goals as goal

pub returns-then-number-self : goal.returns-then-number-self
returns-then-number-self c =
    let w = c.args.self.now in
    let rows = rows_in c.args.old.now in
    let it = row_there rows c.args.number c.requires in
    rw (add-one c.args.number) (row_over rows c.args.number it.row (opens_of w) w.until (edits_left w) (left w.rest) it.here c.if-number-self.true)

pub returns-then-not-branch : goal.returns-then-not-branch
returns-then-not-branch c =
    let w = c.args.self.now in
    let rows = rows_in c.args.old.now in
    let it = row_there rows c.args.number c.requires in
    let met = rw c.if-not-branch.true at c.in_ok-close.ensures.met in
    row_not_ended rows c.args.number it.row (opens_of w) w.until (edits_left w) (remaining rows (c.args.number + 1) c.close.new.self) (left w.rest) (left c.close.new.self.rest) it.here c.if-number-self.false met

pub returns : goal.returns
returns c =
    let w = c.args.self.now in
    let mid = c.edit_at-change.new.self in
    let new = c.begin.new.self in
    let rows = rows_in c.args.old.now in
    let n = c.args.number in
    let it = row_there rows n c.requires in
    let closed = c.in_ok-close.ensures in
    let met = rw c.if-not-branch.false at closed.met in
    let opens : opens_of c.close.new.self ≡ left_open (Some n) (opens_of w) = rw c.if-not-branch.false at closed.outer refl in
    let edit = c.edit_at-change.ensures in
    let edits : due n (edits_left c.close.new.self) ≡ due n (edits_left w) = ap (due n) closed.edits in
    let step = step_by (option_map change_of c.edit_at-change.result) it.row in
    let same = ap (λ (o : Option Change). step_by o it.row) edit.result ∙ (step_same n (due n (edits_left c.close.new.self)) it.row ∙ ap (λ es. step_at n es it.row) edits) in
    let opens-mid : opens_of mid ≡ left_open (Some n) (opens_of w) = ap all_open edit.outer ∙ opens in
    let until-mid = edit.until ∙ closed.until in
    if_ok c.begin.result _ _
    (λ (is : Bool) h.
    row_stepped rows n (n + 1) it.row (opens_of w) w.until (edits_left w) step (opens_of new) new.until (edits_left new) (left w.rest) (left c.close.new.self.rest) (left new.rest) is refl it.here c.if-number-self.false same (c.begin.ensures.edits ∙ (edit.edits ∙ edits)) met
    (λ e.
    let now = stepped_open step mid new (left mid.rest) (left new.rest) is h e in
    record {
      now-open = now.outer ∙ ap (opened step) opens-mid;
      now-until = now.until ∙ ap (λ (v : ℕ). if step.is_over then step.end else v) until-mid;
    })
    (rw edit.left at (stepped_met step mid new (left mid.rest) (left new.rest) is h)))
    (c.begin.ensures.met it.row it.here)
