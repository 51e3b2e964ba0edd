use Rattle.std.proofs.Common.{◌∙◌, rules, tests}
use Rattle.std.proofs.lemmas.Iterator.{YieldsList-from_slice}
use Rattle.std.proofs.lemmas.Iterator.Adapters.{position_from-zero}
use Rattle.std.proofs.lemmas.Iterator.Search.{position_from_yields_List}
use Rattle.tl_spec.specs.Select.Search.{holds_alone}
use Rattle.tl_selector.specs.View.{selector}
use Rattle.tl_table.proofs.Places.{position-of_image}
use Rattle.tl_selector.proofs.matching.scan.first_match.Goals as goal

pub returns-clause-place : goal.returns-clause-place
returns-clause-place g c =
    let node = g.N.Element.node in
    let nodes = c.args.nodes.now in
    let passes = holds_alone (selector c.args.e.now) in
    position_from_yields_List (λ n. passes (node n)) _ _ c.position.result c.position.ensures.ran (YieldsList-from_slice nodes cc) (λ x b q k. search (rules, tests))
    ∙ position_from-zero (λ n. passes (node n)) nodes
    ∙ position-of_image node passes 0 nodes
