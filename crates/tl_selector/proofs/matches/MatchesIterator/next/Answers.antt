use Rattle.std.proofs.Common.{◌∙◌, map, subst, sym, arith, rules}
use Rattle.tl_selector.specs.NodeTest.{is_found, IsFirst}
use Rattle.tl_selector.proofs.Numbers.{numbers_first, numbers_none}
use Rattle.tl_selector.proofs.matches.MatchesIterator.next.Goals as goal

pub returns-in_default-clause-steps : goal.returns-in_default-clause-steps
returns-in_default-clause-steps g c =
    let seen = c.self.inside in
    let found = is_found seen.test (map g.N.Element.node seen.nodes.now) in
    let first = subst (IsFirst found seen.place seen.end) c.in_default.is c.first_found.ensures in
    (sym c.self.view_is ∙ numbers_none found seen.place seen.end first, numbers_none found seen.end seen.end (λ n low high. absurd (omega arith)))

pub returns-clause-steps : goal.returns-clause-steps
returns-clause-steps g c =
    let seen = c.self.inside in
    sym c.self.view_is ∙ numbers_first (is_found seen.test (map g.N.Element.node seen.nodes.now)) seen.place seen.end c.in-Some.place c.in-Some.ensures

pub returns-clause-goes : goal.returns-clause-goes
returns-clause-goes g c =
    let next = returns-clause-steps g c in
    search rules
