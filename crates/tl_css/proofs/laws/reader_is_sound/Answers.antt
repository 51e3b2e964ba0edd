use Rattle.tl_css.proofs.Depth.{css_is}
use Rattle.tl_css.proofs.laws.reader_is_sound.Goals as goal

pub returns : goal.returns
returns c = css_is
