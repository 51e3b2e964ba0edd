use Rattle.std.proofs.Common.{ap, ◌∙◌, sym, not}
use Rattle.tl_html_spec.specs.Balanced.{is_head, leading, when}
use Rattle.tl_html_balance.specs.Classes.{is}
use Rattle.tl_html_balance.specs.declared.class.TheConstants as class
use Rattle.tl_html_balance.specs.View.{open_names}
use Rattle.tl_html_balance.proofs.Tests as test
use Rattle.tl_html_balance.proofs.open_tags.OpenTags.closed_before_text.Goals as goal

pub returns-else-is_white-clause-value : goal.returns-else-is_white-clause-value
returns-else-is_white-clause-value c =
    let tags = open_names c.args.self.now in
    c.leading.ensures.value
    ∙ ap (leading (is class.HEAD)) c.all.ensures
    ∙ ap (λ found. leading found tags) test.head
    ∙ sym (ap (λ white. when (not white) (leading is_head) tags) c.if-is_white.false)
