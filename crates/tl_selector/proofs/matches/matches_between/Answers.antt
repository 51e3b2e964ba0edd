use Rattle.std.proofs.Common.{ℕ, ◌-◌, subst, sym, map}
use Rattle.tl_spec.specs.Select.Meaning.{AreMatches}
use Rattle.tl_selector.specs.NodeTest.{found_numbers, is_found}
use Rattle.tl_selector.specs.View.{selector}
use Rattle.tl_selector.proofs.Numbers.{numbers_are}
use Rattle.tl_selector.proofs.matches.matches_between.Goals as goal

pub returns-clause-found : goal.returns-clause-found
returns-clause-found g c =
    let nodes = map g.N.Element.node c.args.nodes.now in
    let e = selector c.args.selector in
    let p = is_found c.in_ok-test.test nodes in
    subst (λ (end : ℕ). AreMatches nodes e c.args.from c.args.to (found_numbers p c.args.from (end - c.args.from))) (sym c.min.ensures)
    (numbers_are g.N.Element.node c.args.nodes.now e p c.in_ok-test.ensures.tells c.args.from c.args.to)
