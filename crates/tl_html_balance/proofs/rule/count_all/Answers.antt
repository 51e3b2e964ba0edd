use Rattle.std.proofs.Common.{length, ap, arith, length-drop}
use Rattle.tl_html_balance.specs.View.{names_left}
use Rattle.tl_html_balance.proofs.Opened.{left-small}
use Rattle.tl_html_balance.proofs.rule.count_all.Goals as goal

pub overflow_add-closed : goal.overflow_add-closed
overflow_add-closed c =
    let few = left-small c.args.left.now.tags.now c.args.left.now.closed in
    let left = ap (λ names. length names) c.skip.ensures in
    omega (arith, length-drop c.loop-names.closed (names_left c.args.left.now), c.count-closed.ensures.within)
