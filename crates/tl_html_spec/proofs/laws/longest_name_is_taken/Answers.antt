use Rattle.tl_html_spec.proofs.Longest.{longest}
use Rattle.tl_html_spec.proofs.laws.longest_name_is_taken.Goals as goal

pub returns : goal.returns
returns c = longest
