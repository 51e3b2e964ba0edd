use Rattle.std.proofs.Common.{◌≡◌, ◌-◌, ◌∙◌, [], map, subst, sym, arith, rules}
use Rattle.tl_selector.specs.NodeTest.{is_found, IsFirst}
use Rattle.tl_selector.specs.declared.matches.node_test.Test.TheVariants.{Alone}
use Rattle.tl_selector.specs.declared.selector.Selector.TheBlock.{All}
use Rattle.tl_selector.proofs.Numbers.{numbers_alike, numbers_from_first, numbers_none, numbers_some}
use Rattle.tl_selector.proofs.matches.MatchesClone.clone.Goals as goal

pub returns-in-None : goal.returns-in-None
returns-in-None g c =
    let seen = c.self.inside in
    let nodes = map g.N.Element.node seen.nodes.now in
    let found = is_found seen.test nodes in
    let first = subst (IsFirst found seen.place seen.end) c.in-None.is c.first_found.ensures in
    let none = sym c.self.view_is ∙ numbers_none found seen.place seen.end first in
    record { cases = numbers_none (is_found (Alone All) nodes) seen.end seen.end (λ n low high. absurd (omega arith)) ∙ sym none }

pub returns-in_ok-clone-in-Some : goal.returns-in_ok-clone-in-Some
returns-in_ok-clone-in-Some g c =
    let seen = c.self.inside in
    let nodes = map g.N.Element.node seen.nodes.now in
    let found = is_found seen.test nodes in
    let alike = numbers_alike (is_found c.in_ok-clone-in-Some.field-0 nodes) found (c.in_ok-clone-in-Some.ensures.cases nodes) in
    record { cases = alike c.in-Some.place (seen.end - c.in-Some.place) ∙ sym (numbers_from_first found seen.place seen.end c.in-Some.place c.in-Some.ensures) ∙ c.self.view_is }

pub returns-in_err-clone-in-Some : goal.returns-in_err-clone-in-Some
returns-in_err-clone-in-Some g c =
    let seen = c.self.inside in
    let found = is_found seen.test (map g.N.Element.node seen.nodes.now) in
    let some : ¬ (c.args.self.now ≡ []) = λ none. numbers_some found seen.place seen.end c.in-Some.place c.in-Some.ensures (c.self.view_is ∙ none) in
    search (rules, some)
