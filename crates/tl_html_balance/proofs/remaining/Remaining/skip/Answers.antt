use Rattle.tl_html_balance.proofs.Opened.{more-left}
use Rattle.tl_html_balance.proofs.remaining.Remaining.skip.Goals as goal

pub returns : goal.returns
returns c =
    more-left c.args.self.now.tags.now c.args.self.now.closed c.args.count c.saturating_add.result c.saturating_add.ensures
