use Rattle.std.proofs.Common.{map, refl, ◌≡◌}
use Rattle.tl_dom_spec.specs.Adjusted.{svg_names}
use Rattle.tl_html_spec.specs.Balanced.{words}
use Rattle.tl_tree.specs.declared.foreign_words.TheConstants.{SVG_NAMES}
use Rattle.tl_tree.proofs.foreign_words.svg_names.Goals as goal

-- by computing
same : map (λ own. own.now) SVG_NAMES ≡ words svg_names
same = refl

pub returns : goal.returns
returns c = same
