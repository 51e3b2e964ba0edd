use Rattle.tl_tree.specs.TreeView.{rows_in}
use Rattle.tl_values.proofs.Others.{other_values}
use Rattle.tl_values.proofs.rewrite.Rewrite.values.Goals as goal

pub returns-in_default : goal.returns-in_default
returns-in_default c =
    rw (other_values c.args.self.now c.in_default.not-Pattern c.in_default.not-Absolute c.in_default.not-FromText c.args.key.now (rows_in c.args.tree.now) c.args.numbers.now)
    c.each_value.ensures
