use Rattle.tl_html_balance.proofs.Opened.{none-open}
use Rattle.tl_html_balance.proofs.open_tags.OpenTags.new.Goals as goal

pub returns : goal.returns
returns c = none-open _ c.new-2.ensures.items
