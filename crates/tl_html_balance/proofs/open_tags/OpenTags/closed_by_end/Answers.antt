use Rattle.std.proofs.Common.{ap, ◌∙◌}
use Rattle.tl_html_balance.specs.Inner.Rules.{rule_of}
use Rattle.tl_html_balance.specs.View.{name_of, open_names}
use Rattle.tl_html_balance.proofs.Rules.{end-closes}
use Rattle.tl_html_balance.proofs.open_tags.OpenTags.closed_by_end.Goals as goal

pub returns-clause-value : goal.returns-clause-value
returns-clause-value c =
    let n = name_of c.args.name.now in
    c.count.ensures.value
    ∙ ap (rule_of c.end_reach.result n) c.all.ensures
    ∙ ap (λ reach. rule_of reach n (open_names c.args.self.now)) c.end_reach.ensures
    ∙ end-closes n (open_names c.args.self.now)
