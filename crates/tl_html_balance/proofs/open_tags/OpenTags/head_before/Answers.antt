use Rattle.tl_html_balance.specs.View.{name_of, open_names}
use Rattle.tl_html_balance.proofs.Rules.{head-is}
use Rattle.tl_html_balance.proofs.open_tags.OpenTags.head_before.Goals as goal

pub returns-clause-value : goal.returns-clause-value
returns-clause-value c =
    head-is (name_of c.args.name.now) (open_names c.args.self.now) c.closed_before_text.result c.is.result c.is.ensures c.closed_before_text.ensures.value
