use Rattle.tl_css.proofs.Depth.{is_css}
use Rattle.tl_css.proofs.laws.reader_is_complete.Goals as goal

pub returns : goal.returns
returns c = is_css
