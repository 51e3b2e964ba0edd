use Rattle.std.proofs.Common.{◌≡◌, true, false, None, Some, map, subst, arith, rules, tests}
use Rattle.std.proofs.lemmas.Iterator.{first_from_Range}
use Rattle.tl_spec.specs.Lookup.Scan.{IsFirstPlace}
use Rattle.tl_spec.specs.Select.Search.{holds_alone}
use Rattle.tl_selector.specs.NodeSet.{is_at}
use Rattle.tl_selector.specs.View.{selector}
use Rattle.tl_selector.proofs.Parts.{first_of_part, none_of_part}
use Rattle.tl_selector.proofs.matches.node_test.first_found.Goals as goal

pub returns-in_err-first_alone-in-Alone : goal.returns-in_err-first_alone-in-Alone
returns-in_err-first_alone-in-Alone g c =
    let part = c.in_ok-get-in-Alone.ensures.lookup.0 in
    let p = holds_alone (selector c.in-Alone.e) in
    let node = g.N.Element.node in
    let first = subst (λ xs. IsFirstPlace p (map node xs) None) part.2 c.in_err-first_alone-in-Alone.ensures.first in
    let none = none_of_part node c.args.nodes.now p c.args.from c.args.to part.0 part.1 first in
    rw (c.from_residual-in_err-first_alone-in-Alone.ensures, c.in-Alone.is) none

pub returns-in_ok-first_alone-in-Alone : goal.returns-in_ok-first_alone-in-Alone
returns-in_ok-first_alone-in-Alone g c =
    let part = c.in_ok-get-in-Alone.ensures.lookup.0 in
    let p = holds_alone (selector c.in-Alone.e) in
    let node = g.N.Element.node in
    let place = c.in_ok-first_alone-in-Alone.field-0 in
    let first = subst (λ xs. IsFirstPlace p (map node xs) (Some place)) part.2 c.in_ok-first_alone-in-Alone.ensures.first in
    let within = c.in_ok-first_alone-in-Alone.ensures.within in
    let l = part.3 in
    rw c.in-Alone.is (first_of_part node c.args.nodes.now p c.args.from c.args.to part.0 part.1 place (omega arith) first)

pub returns-in-Marked : goal.returns-in-Marked
returns-in-Marked g c =
    rw c.in-Marked.is (first_from_Range _ _ _ _ (λ n. is_at c.in-Marked.marked.items n ≡ true) (λ n. is_at c.in-Marked.marked.items n ≡ false) c.find.ensures.ran
    (λ x q k. search (rules, tests))
    (λ x q k. search (rules, tests)))
