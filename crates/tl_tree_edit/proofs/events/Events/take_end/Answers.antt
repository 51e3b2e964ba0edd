use Rattle.tl_tree.specs.TreeView.{rows_in}
use Rattle.tl_tree_edit.proofs.Reading.{end_taken}
use Rattle.tl_tree_edit.proofs.events.Events.take_end.Goals as goal

pub returns-clause-taken : goal.returns-clause-taken
returns-clause-taken c =
    λ is.
    rw c.requires
    (end_taken (rows_in c.args.self.now.tree.now) c.args.self.now.number c.args.self.now.ends.items c.pop_past.new.outer.items c.pop_past.result (rw c.next_row-next.ensures at c.pop_past.ensures) (rw c.is_some.ensures at is))
