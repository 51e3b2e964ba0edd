use Rattle.std.proofs.Common.{map, refl, ◌≡◌}
use Rattle.tl_dom_spec.specs.Quirks.{transitional_beginnings}
use Rattle.tl_tree.specs.declared.quirks.TheConstants.{TRANSITIONAL_BEGINNINGS}
use Rattle.tl_tree.proofs.quirks.transitional_beginnings.Goals as goal

-- by computing
same : map (λ own. own.now) TRANSITIONAL_BEGINNINGS ≡ transitional_beginnings
same = refl

pub returns : goal.returns
returns c = same
