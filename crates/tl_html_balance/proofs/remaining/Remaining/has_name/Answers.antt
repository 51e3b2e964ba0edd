use Rattle.std.proofs.Common.{arith}
use Rattle.tl_html_balance.proofs.Opened.{place-fits}
use Rattle.tl_html_balance.proofs.remaining.Remaining.has_name.Goals as goal

pub overflow_add-self : goal.overflow_add-self
overflow_add-self c =
    let fits = place-fits c.args.self.now.tags.now c.args.self.now.closed c.args.depth c.requires in
    omega arith
