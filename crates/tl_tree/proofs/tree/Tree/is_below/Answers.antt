use Rattle.tl_tree.proofs.Asks.{in-no-range, in-range}
use Rattle.tl_tree.specs.TreeView.{rows_in}
use Rattle.std.proofs.Common.{sym, ◌∙◌}
use Rattle.tl_tree.proofs.tree.Tree.is_below.Goals as goal

pub returns-then-outer-number : goal.returns-then-outer-number
returns-then-outer-number c =
    in-range (rows_in c.args.self.now) c.args.outer c.args.number _ (sym c.end.ensures ∙ c.in-Some.is) c.if-outer-number.true

pub returns-in-None : goal.returns-in-None
returns-in-None c =
    in-no-range (rows_in c.args.self.now) c.args.outer c.args.number (sym c.end.ensures ∙ c.in-None.is)
