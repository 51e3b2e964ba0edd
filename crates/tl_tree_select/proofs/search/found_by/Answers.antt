use Rattle.std.proofs.Common.{◌≡◌, ◌<◌, ◌≤◌, ◌+◌, [], List, None, Option, Some, arith, rules, subst, sym, ℕ}
use Rattle.std.specs.Prelude.{IfSome, MatchOption}
use Rattle.tl_tree_select.specs.Inner.Finding.{AreBelow, IsFoundFrom, IsNext}
use Rattle.tl_tree_select.specs.Page.{seen}
use Rattle.tl_tree_select.specs.declared.passing.Place.{Place}
use Rattle.tl_tree_select.proofs.Contents.{none_ends}
use Rattle.tl_tree_select.proofs.Numbers.{none_between, none_from, one_below}
use Rattle.tl_tree_select.proofs.search.found_by.Goals as goal

pub found-init : goal.found-init
found-init c =
    let page = seen c.args.page.now in
    let empty : c.new-numbers.result.items ≡ [] = search rules in
    let within = c.requires in
    record {
      within = (omega arith, within);
      found = λ e finds look. (
        (omega arith, none_ends page c.args.start),
        subst (λ (ns : List ℕ). AreBelow (IsFoundFrom page e c.args.start) c.args.start ns) (sym empty) (none_from page e c.args.start),
      );
    }

pub found-preserved : goal.found-preserved
found-preserved c =
    let page = seen c.args.page.now in
    let inv = c.found.invariant in
    let from = inv.within.0 in
    let at = c.in-Some.at in
    let is : c.in_ok-next.next ≡ Some at = search rules in
    let within = subst (λ (o : Option Place). IfSome o (λ at. (c.found.place.number ≤ at.number) × (at.number < c.args.end))) is c.in_ok-next.ensures.within in
    let low = within.0 in
    let high = within.1 in
    record {
      within = (omega (arith, from, low), omega (arith, high));
      found = λ e finds look.
          let old = inv.found e finds look in
          let next : IsNext page e c.args.start c.found.place.number c.args.end at =
          subst (λ (o : Option Place). MatchOption o ((n : ℕ) → c.found.place.number ≤ n → n < c.args.end → IsFoundFrom page e c.args.start n → ⊥)
          (IsNext page e c.args.start c.found.place.number c.args.end)) is (c.in_ok-next.ensures.next e c.args.start finds look old.0) in
          let le = next.place.0 in (
            (omega (arith, le), c.end_of_contents.ensures c.args.start next.place.0 next.place.1),
            subst (λ (ns : List ℕ). AreBelow (IsFoundFrom page e c.args.start) (at.number + 1) ns) (sym c.in_ok-push.ensures.items)
                (one_below (IsFoundFrom page e c.args.start) at.number c.found.numbers.items next.found
                (none_between (IsFoundFrom page e c.args.start) c.found.place.number at.number c.found.numbers.items low next.first old.1)),
          );
    }

pub returns-in_default : goal.returns-in_default
returns-in_default c e finds look =
    let page = seen c.args.page.now in
    let inv = c.found.invariant in
    let old = inv.found e finds look in
    let is : c.in_ok-next.next ≡ None = search rules in
    none_between (IsFoundFrom page e c.args.start) c.found.place.number c.args.end c.found.numbers.items inv.within.1
    (subst (λ (o : Option Place). MatchOption o ((n : ℕ) → c.found.place.number ≤ n → n < c.args.end → IsFoundFrom page e c.args.start n → ⊥)
    (IsNext page e c.args.start c.found.place.number c.args.end)) is (c.in_ok-next.ensures.next e c.args.start finds look old.0))
    old.1

pub overflow_add-place : goal.overflow_add-place
overflow_add-place c =
    let is : c.in_ok-next.next ≡ Some c.in-Some.at = search rules in
    let within = subst (λ (o : Option Place). IfSome o (λ at. (c.found.place.number ≤ at.number) × (at.number < c.args.end))) is c.in_ok-next.ensures.within in
    let high = within.1 in
    let fits = c.ranges.end.fits in
    omega (arith, high, fits)

pub found-smaller : goal.found-smaller
found-smaller c =
    let is : c.in_ok-next.next ≡ Some c.in-Some.at = search rules in
    let within = subst (λ (o : Option Place). IfSome o (λ at. (c.found.place.number ≤ at.number) × (at.number < c.args.end))) is c.in_ok-next.ensures.within in
    let low = within.0 in
    let high = within.1 in
    omega (arith, low, high)
