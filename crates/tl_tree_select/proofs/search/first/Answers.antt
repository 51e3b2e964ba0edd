use Rattle.std.proofs.Common.{◌≡◌, ◌<◌, ◌≤◌, None, Option, Some, arith, rules, subst, ℕ}
use Rattle.std.specs.Prelude.{MatchOption}
use Rattle.tl_tree_select.specs.Inner.Finding.{IsFoundFrom, IsNext}
use Rattle.tl_tree_select.specs.Page.{page_of}
use Rattle.tl_tree_select.specs.declared.passing.Place.{Place}
use Rattle.tl_tree_select.proofs.Contents.{found_nowhere, is_first, none_ends}
use Rattle.tl_tree_select.proofs.search.first.Goals as goal

pub returns-in_default : goal.returns-in_default
returns-in_default c =
    let page = page_of c.args.tree.now in
    let e = c.args.selector.now in
    let is : c.in_ok-next.next ≡ None = search rules in
    found_nowhere page e c.len.result c.len.ensures
    (subst (λ (o : Option Place). MatchOption o ((n : ℕ) → 0 ≤ n → n < c.len.result → IsFoundFrom page e 0 n → ⊥) (IsNext page e 0 0 c.len.result)) is
    (c.in_ok-next.ensures.next e 0 c.in_ok-finder.ensures (c.look.ensures page e c.in_ok-finder.ensures) (omega arith, none_ends page 0)))

pub returns : goal.returns
returns c =
    let page = page_of c.args.tree.now in
    let e = c.args.selector.now in
    let is : c.in_ok-next.next ≡ Some c.in-Some.at = search rules in
    is_first page e c.len.result c.in-Some.at
    (subst (λ (o : Option Place). MatchOption o ((n : ℕ) → 0 ≤ n → n < c.len.result → IsFoundFrom page e 0 n → ⊥) (IsNext page e 0 0 c.len.result)) is
    (c.in_ok-next.ensures.next e 0 c.in_ok-finder.ensures (c.look.ensures page e c.in_ok-finder.ensures) (omega arith, none_ends page 0)))
