-- Compounds by the tests of their steps.
use Rattle.std.proofs.Common.{◌≡◌, ◌<◌, ◌≤◌, ◌↔◌, ◌∷◌, [], ℕ, zero, suc, List, true, length, sym, ap, arith, inl, inr, subst, refl, Option, None, Some, IfSome, option_and_then, slice_get}
use Rattle.std.proofs.lemmas.Bool.{false≢true, cases_lt}
use Rattle.std.proofs.lemmas.Option.{slice_get_past}
use Rattle.tl_tree_select.specs.Page.{Page}
use Rattle.tl_tree_select.specs.Meaning.{Holds}
use Rattle.tl_css.specs.Program.{after_steps, selector_of, waiting_after, last_waiting}
use Rattle.tl_css.specs.Selector.{Css, Is, Both}
use Rattle.tl_css.specs.View.{test}
use Rattle.tl_css.specs.declared.selector.Step.{Step}
use Rattle.tl_css.specs.declared.selector.Step.TheVariants.{Ask, Keep, Turn, Meet, Unite, Shift, Count}
use Rattle.tl_css.specs.declared.selector.Test.{Test}
use Rattle.tl_tree_select.specs.Inner.Compound.{HoldsAt, IsCompound, fits, test_in}

-- Steps

abbrev AreKept : List Step → Type 0
AreKept steps = (place : ℕ) → IfSome (slice_get steps place) (λ step. fits (suc place) step ≡ true)

fits_before : (place : ℕ) (step : Step) → fits (suc (suc place)) step ≡ true → fits (suc place) step ≡ true
fits_before place (Ask t) h = h
fits_before place (Keep t) h = h
fits_before place Turn h = h
fits_before place Meet h = h
fits_before place Unite h = h
fits_before place (Shift way link reach) h = h
fits_before place (Count way link formula) h = h

kept_before : (o : Option Step) (place : ℕ) → IfSome o (λ step. fits (suc (suc place)) step ≡ true) → IfSome o (λ step. fits (suc place) step ≡ true)
kept_before None place h = tt
kept_before (Some step) place h = fits_before place step h

module _ (page : Page) (n : ℕ) where
  abbrev All : List Step → Type 0
  All steps = (place : ℕ) → HoldsAt page steps place n

  -- a selector, and the tests that are kept after it
  record Kept (steps : List Step) (e : Css) : Type 0 where
    left : Css
    are : after_steps steps (e ∷ []) ≡ left ∷ []
    holds : Holds page left n ↔ Holds page e n × All steps

  first_and : (t : Test) (step : Step) (steps : List Step) → test_in step ≡ Some t → Holds page (Is (test t)) n → All steps → All (step ∷ steps)
  first_and t step steps e h all zero = subst (λ (o : Option Test). IfSome o (λ (u : Test). Holds page (Is (test u)) n)) (sym e) h
  first_and t step steps e h all (suc place) = all place

  kept : (steps : List Step) (e : Css) → AreKept steps → Kept steps e
  kept [] e h = record { left = e; are = refl; holds = (λ k. (k, λ place. tt), λ k. k.0) }
  kept (Ask t ∷ steps) e h = absurd (false≢true (h 0))
  kept (Keep t ∷ steps) e h =
      let more = kept steps (Both e (Is (test t))) (λ place. kept_before (slice_get steps place) place (h (suc place))) in
      record {
        left = more.left;
        are = more.are;
        holds = (
          λ k. (let m = more.holds.0 k in (m.0.0, first_and t (Keep t) steps refl m.0.1 m.1)),
          λ k. more.holds.1 ((k.0, k.1 0), λ place. k.1 (suc place)),
        );
      }
  kept (Turn ∷ steps) e h = absurd (false≢true (h 0))
  kept (Meet ∷ steps) e h = absurd (false≢true (h 0))
  kept (Unite ∷ steps) e h = absurd (false≢true (h 0))
  kept (Shift way link reach ∷ steps) e h = absurd (false≢true (h 0))
  kept (Count way link formula ∷ steps) e h = absurd (false≢true (h 0))

  -- a compound holds where all its tests pass
  pub all_hold : (steps : List Step) → IsCompound steps → Holds page (selector_of steps) n ↔ All steps
  unfolding waiting_after
  all_hold [] c = absurd (let w = c.some in omega (arith, w))
  all_hold (Ask t ∷ steps) c =
      let more = kept steps (Is (test t)) (λ place. c.each (suc place)) in
      let is : last_waiting (after_steps steps (Is (test t) ∷ [])) ≡ more.left = ap last_waiting more.are in (
        λ h. (let m = more.holds.0 (subst (λ (e : Css). Holds page e n) is h) in first_and t (Ask t) steps refl m.0 m.1),
        λ all. subst (λ (e : Css). Holds page e n) (sym is) (more.holds.1 (all 0, λ place. all (suc place))),
      )
  all_hold (Keep t ∷ steps) c = absurd (false≢true (c.each 0))
  all_hold (Turn ∷ steps) c = absurd (false≢true (c.each 0))
  all_hold (Meet ∷ steps) c = absurd (false≢true (c.each 0))
  all_hold (Unite ∷ steps) c = absurd (false≢true (c.each 0))
  all_hold (Shift way link reach ∷ steps) c = absurd (false≢true (c.each 0))
  all_hold (Count way link formula ∷ steps) c = absurd (false≢true (c.each 0))

-- no test stands behind the last one
pub past : (page : Page) (steps : List Step) (place number : ℕ) → length steps ≤ place → HoldsAt page steps place number
past page steps place number h = subst (λ (o : Option Step). IfSome (option_and_then test_in o) (λ (t : Test). Holds page (Is (test t)) number)) (sym (slice_get_past steps place h)) tt

-- steps that fit below a place where they end are a compound
pub compound_of : (steps : List Step) (place : ℕ) → 0 < length steps → length steps ≤ place
    → ((k : ℕ) → k < place → IfSome (slice_get steps k) (λ step. fits k step ≡ true)) → IsCompound steps
compound_of steps place some long h = record {
  some = some;
  each = λ k. elim (cases_lt k place) [
    | inl lt ↦ h k lt
    | inr ge ↦ subst (λ (o : Option Step). IfSome o (λ step. fits k step ≡ true)) (sym (slice_get_past steps k (omega (arith, ge, long)))) tt
  ];
}
