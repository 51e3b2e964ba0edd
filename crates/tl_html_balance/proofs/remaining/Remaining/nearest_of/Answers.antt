use Rattle.std.proofs.Common.{arith}
use Rattle.tl_html_balance.proofs.Opened.{left-small}
use Rattle.tl_html_balance.proofs.remaining.Remaining.nearest_of.Goals as goal

pub overflow_add-result : goal.overflow_add-result
overflow_add-result c =
    let few = left-small c.args.self.now.tags.now c.args.self.now.closed in
    omega (arith, c.in-Some.ensures.within)
