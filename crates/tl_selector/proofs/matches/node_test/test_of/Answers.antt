use Rattle.std.proofs.Common.{◌≡◌, ◌∙◌, sym, map, false}
use Rattle.tl_spec.specs.Select.Meaning.{has_combinator}
use Rattle.tl_selector.specs.View.{selector}
use Rattle.tl_selector.proofs.Marked.{without_tells}
use Rattle.tl_selector.proofs.matches.node_test.test_of.Goals as goal

pub returns-clause-tells : goal.returns-clause-tells
returns-clause-tells g c =
    let none : has_combinator (selector c.args.selector) ≡ false = sym c.has_combinator.ensures ∙ c.if-has_combinator.false in
    without_tells (selector c.args.selector) none (map g.N.Element.node c.args.nodes.now)
