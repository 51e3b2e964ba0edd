use Rattle.std.proofs.Common.{map, refl, ◌≡◌}
use Rattle.tl_dom_spec.specs.Quirks.{quirky_ids}
use Rattle.tl_tree.specs.declared.quirks.TheConstants.{QUIRKY_IDS}
use Rattle.tl_tree.proofs.quirks.quirky_ids.Goals as goal

-- by computing
same : map (λ own. own.now) QUIRKY_IDS ≡ quirky_ids
same = refl

pub returns : goal.returns
returns c = same
