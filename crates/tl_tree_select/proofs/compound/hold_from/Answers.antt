use Rattle.std.proofs.Common.{◌≡◌, ◌∙◌, ℕ, false, true, refl, arith, inl, inr, rules, subst, sym}
use Rattle.std.proofs.lemmas.Bool.{cases_lt, false≢true}
use Rattle.tl_tree_select.specs.Page.{seen}
use Rattle.tl_tree_select.specs.Inner.Compound.{HoldsAt}
use Rattle.tl_tree_select.proofs.Compounds.{past}
use Rattle.tl_tree_select.proofs.compound.hold_from.Goals as goal

pub loop-place-init : goal.loop-place-init
loop-place-init c = record { from = omega arith; hold = λ k le lt. absurd (omega (arith, le, lt)) }

pub loop-place-preserved : goal.loop-place-preserved
loop-place-preserved c =
    let place = c.loop-place.place in
    let inv = c.loop-place.invariant in
    let from = inv.from in
    let passes : c.in_ok-holds.holds ≡ true = search rules in
    record {
      from = omega (arith, from);
      hold = λ k le lt. elim (cases_lt k place) as (λ _. HoldsAt (seen c.args.page.now) c.args.steps.now k c.args.number) [
        | inl less ↦ inv.hold k le less
        | inr ge ↦ (let same : place ≡ k = omega (arith, lt, ge) in subst (λ (k : ℕ). HoldsAt (seen c.args.page.now) c.args.steps.now k c.args.number) same (c.in_ok-holds.ensures.0 passes))
      ];
    }

pub returns-then-not-holds : goal.returns-then-not-holds
returns-then-not-holds c =
    let fails : c.in_ok-holds.holds ≡ false = search rules in (
      λ f. absurd (false≢true f),
      λ h. absurd (false≢true (sym fails ∙ c.in_ok-holds.ensures.1 (h c.loop-place.place c.loop-place.invariant.from))),
    )

pub returns : goal.returns
returns c = (
  λ f k le. elim (cases_lt k c.loop-place.place) as (λ _. HoldsAt (seen c.args.page.now) c.args.steps.now k c.args.number) [
    | inl lt ↦ c.loop-place.invariant.hold k le lt
    | inr ge ↦ past (seen c.args.page.now) c.args.steps.now k c.args.number (omega (arith, ge))
  ],
  λ h. refl,
)
