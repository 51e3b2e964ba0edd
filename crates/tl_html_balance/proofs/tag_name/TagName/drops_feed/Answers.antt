use Rattle.std.proofs.Common.{ap, ◌∙◌}
use Rattle.tl_html_balance.specs.View.{name_of}
use Rattle.tl_html_balance.proofs.Tests.{feed_dropper}
use Rattle.tl_html_balance.proofs.tag_name.TagName.drops_feed.Goals as goal

pub returns : goal.returns
returns c = c.is.ensures ∙ ap (λ test. test (name_of c.args.self.now)) feed_dropper
