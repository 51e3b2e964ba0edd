use Rattle.std.proofs.Common.{◌≡◌, ◌∙◌, false, arith, inl, inr, rules, subst, sym}
use Rattle.std.proofs.lemmas.Bool.{cases_lt, false≢true}
use Rattle.tl_tree_select.specs.Inner.Looking.{IsSeen}
use Rattle.tl_tree_select.specs.Page.{seen}
use Rattle.tl_tree_select.proofs.passing.pass_unmarked.Goals as goal

pub rows-preserved : goal.rows-preserved
rows-preserved c =
    let page = seen c.args.page.now in
    let n = c.rows.number in
    let inv = c.rows.invariant in
    let from = inv.within.0 in
    let fails : c.sees.result ≡ false = search rules in
    record {
      within = (omega (arith, from), omega arith);
      none = λ k le lt. elim (cases_lt k n) as (λ _. IsSeen page c.args.look k → ⊥) [
        | inl less ↦ inv.none k le less
        | inr ge ↦ (let same : k ≡ n = omega (arith, lt, ge) in λ h. false≢true (sym fails ∙ c.sees.ensures.may (subst (IsSeen page c.args.look) same h)))
      ];
      place = λ start at. (let old = inv.place start at in (let le = old.0 in omega (arith, le), c.end_of_contents-behind.ensures start old.0 old.1));
    }
