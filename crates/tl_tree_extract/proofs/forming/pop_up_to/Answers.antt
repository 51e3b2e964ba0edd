use Rattle.std.proofs.Common.{◌≡◌, Some, arith}
use Rattle.std.proofs.lemmas.Grind.{common_steps}
use Rattle.tl_tree_extract.proofs.Cells.{popped}
use Rattle.tl_tree_extract.proofs.forming.pop_up_to.Goals as goal

pub returns : goal.returns
returns c =
    let is : c.pop.result ≡ Some c.in_ok-cell.field-0.now = grind (arith, common_steps) in
    popped c.args.ahead.now.items c.pop.new.self.items c.pop.result c.in_ok-cell.field-0.now c.args.column is c.pop.ensures.items (omega arith)
