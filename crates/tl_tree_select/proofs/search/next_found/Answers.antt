use Rattle.std.proofs.Common.{◌≡◌, ◌∙◌, ◌<◌, false, arith, inl, inr, rules, subst, sym, true}
use Rattle.std.proofs.lemmas.Bool.{cases_lt, false≢true}
use Rattle.tl_tree_select.specs.Inner.Finding.{IsFoundFrom}
use Rattle.tl_tree_select.specs.Page.{seen}
use Rattle.tl_tree_select.proofs.search.next_found.Goals as goal

pub rows-init : goal.rows-init
rows-init c = record {
  within = c.pass-place.ensures.within;
  shown = c.pass-place.ensures.seen;
  none = λ e start finds look at. (c.pass-place.ensures.place start at, λ n ge lt found. c.pass-place.ensures.none n ge lt (look.sees n found.0));
}

pub rows-preserved : goal.rows-preserved
rows-preserved c =
    let page = seen c.args.page.now in
    let n = c.rows.place.number in
    let inv = c.rows.invariant in
    let from = inv.within.0 in
    let more = c.pass-place-in-rows.ensures.within.0 in
    let last = c.pass-place-in-rows.ensures.within.1 in
    let fails : c.in_ok-found.found ≡ false = search rules in
    let here : n < c.args.end = omega arith in
    record {
      within = (omega (arith, from, more), last);
      shown = c.pass-place-in-rows.ensures.seen;
      none = λ e start finds look at.
          let old = inv.none e start finds look at in
          let le = old.0.0 in
          let isnt : IsFoundFrom page e start n → ⊥ = λ h. false≢true (sym fails ∙ (c.in_ok-found.ensures e start finds (look.answers n (inv.shown here)) old.0).1 h) in (
            c.pass-place-in-rows.ensures.place start (omega (arith, le), c.end_of_contents-behind.ensures start old.0.0 old.0.1),
            λ k ge lt found. elim (cases_lt k n) [
              | inl less ↦ old.1 k ge less found
              | inr past ↦ elim (cases_lt n k) [
                | inl behind ↦ c.pass-place-in-rows.ensures.none k (omega (arith, behind)) lt (look.sees k found.0)
                | inr up ↦ isnt (subst (IsFoundFrom page e start) (let same : k ≡ n = omega (arith, past, up) in same) found)
              ]
            ],
          );
    }

pub returns-then-found-clause-within : goal.returns-then-found-clause-within
returns-then-found-clause-within c = (c.rows.invariant.within.0, omega arith)

pub returns-then-found-clause-next : goal.returns-then-found-clause-next
returns-then-found-clause-next c e start finds look at =
    let n = c.rows.place.number in
    let inv = c.rows.invariant in
    let from = inv.within.0 in
    let old = inv.none e start finds look at in
    let passes : c.in_ok-found.found ≡ true = search rules in
    let here : n < c.args.end = omega arith in
    record {
      within = (omega (arith, from), omega arith);
      found = (c.in_ok-found.ensures e start finds (look.answers n (inv.shown here)) old.0).0 passes;
      first = old.1;
      place = old.0;
    }

pub returns-clause-next : goal.returns-clause-next
returns-clause-next c e start finds look at =
    let old = c.rows.invariant.none e start finds look at in
    λ n ge lt found. old.1 n ge (omega (arith, lt)) found
