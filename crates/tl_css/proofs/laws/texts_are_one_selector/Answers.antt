use Rattle.tl_css.proofs.Complete.{one_at_most}
use Rattle.tl_css.proofs.laws.texts_are_one_selector.Goals as goal

pub returns : goal.returns
returns c = one_at_most
