use Rattle.std.proofs.Common.{map, refl, ◌≡◌}
use Rattle.tl_dom_spec.specs.Adjusted.{svg_keys}
use Rattle.tl_html_spec.specs.Balanced.{words}
use Rattle.tl_tree.specs.declared.foreign_words.TheConstants.{SVG_KEYS}
use Rattle.tl_tree.proofs.foreign_words.svg_keys.Goals as goal

-- by computing
same : map (λ own. own.now) SVG_KEYS ≡ words svg_keys
same = refl

pub returns : goal.returns
returns c = same
