use Rattle.tl_html_spec.proofs.Utf8Unescaped.{text_said, value_said}
use Rattle.tl_html_spec.proofs.laws.unescaped_is_utf8.Goals as goal

pub returns-clause-texts : goal.returns-clause-texts
returns-clause-texts c = text_said

pub returns-clause-values : goal.returns-clause-values
returns-clause-values c = value_said
