use Rattle.std.proofs.Common.{rules, ◌≡◌, false, map}
use Rattle.tl_spec.specs.Select.Meaning.{has_combinator}
use Rattle.tl_selector.specs.View.{selector}
use Rattle.tl_selector.proofs.Marked.{none_without}
use Rattle.tl_selector.proofs.node_set.matches_nowhere.Goals as goal

pub returns-in-None : goal.returns-in-None
returns-in-None g c is =
    let none : has_combinator (selector c.args.e.now) ≡ false = search rules in
    none_without (selector c.args.e.now) none (map g.N.Element.node c.args.nodes.now) c.in-None.ensures.first
