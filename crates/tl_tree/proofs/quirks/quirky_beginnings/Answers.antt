use Rattle.std.proofs.Common.{map, refl, ◌≡◌}
use Rattle.tl_dom_spec.specs.Quirks.{quirky_beginnings}
use Rattle.tl_tree.specs.declared.quirks.TheConstants.{QUIRKY_BEGINNINGS}
use Rattle.tl_tree.proofs.quirks.quirky_beginnings.Goals as goal

-- by computing
same : map (λ own. own.now) QUIRKY_BEGINNINGS ≡ quirky_beginnings
same = refl

pub returns : goal.returns
returns c = same
