-- What was given, as an outcome.
use Rattle.std.proofs.Common.{◌≡◌, ◌≢◌, ◌<◌, ℕ, Bool, true, false, List, [], refl, subst, sym, ◌∙◌, arith, if◌then◌else◌}
use Rattle.std.specs.Prelude.{IfOk, Result, Ok, Err}
use Rattle.tl_page.specs.Outcome.{Gives, Outcome, not_understood, refused, success}
use Rattle.tl_page.specs.declared.failure.Failure.{Failure}
use Rattle.tl_page.specs.declared.failure.Failure.TheVariants.{Refused, NotUnderstood, OutOfMemory, Fault}
use Rattle.tl_c.specs.Puts.{Puts, is_too_long}

module _ {A : Type 0} (view : A → List ℕ) where
  -- the outcome that is given; where memory ran out it may be any
  abbrev pub outcome_given : Result A Failure → Outcome (List ℕ)
  outcome_given (Ok value) = success (view value)
  outcome_given (Err Refused) = refused
  outcome_given (Err NotUnderstood) = not_understood
  outcome_given (Err OutOfMemory) = refused
  outcome_given (Err Fault) = refused

  pub given-gives : (given : Result A Failure) → given ≢ Err Fault → Gives view (outcome_given given) given
  given-gives (Ok value) there = refl
  given-gives (Err Refused) there = refl
  given-gives (Err NotUnderstood) there = refl
  given-gives (Err OutOfMemory) there = tt
  given-gives (Err Fault) there = absurd (there refl)

  -- what holds of the value holds of the outcome's
  pub given-success : (given : Result A Failure) (P : List ℕ → Type 0) → IfOk given (λ value. P (view value))
      → (text : List ℕ) → outcome_given given ≡ success text → P text
  given-success (Ok value) P holds text e = let same : view value ≡ text = cc in subst P same holds
  given-success (Err Refused) P holds text e = absurd (cc)
  given-success (Err NotUnderstood) P holds text e = absurd (cc)
  given-success (Err OutOfMemory) P holds text e = absurd (cc)
  given-success (Err Fault) P holds text e = absurd (cc)

  no_status : (is_long : Bool) (status : ℕ) → ◌≡◌ {A = ℕ} 0 (if is_long then 4 else status) → 0 < status → ⊥
  no_status true status e above = omega (arith, e)
  no_status false status e above = omega (arith, e, above)

  -- where it was put and the status is 0, there is a value
  pub given-done : (given : Result A Failure) (old new : List ℕ) (needed status : ℕ) → Puts (outcome_given given) old new needed status
      → status ≡ 0 → (Q : Type 0) → IfOk given (λ _. Q) → Q
  given-done (Ok value) old new needed status puts e Q holds = holds
  given-done (Err Refused) old new needed status puts e Q holds =
      let other : status ≢ 3 = λ is_three. omega (arith, e, is_three) in
      absurd (no_status (is_too_long [] old) 1 (sym e ∙ puts.answered other) (omega arith))
  given-done (Err NotUnderstood) old new needed status puts e Q holds =
      let other : status ≢ 3 = λ is_three. omega (arith, e, is_three) in
      absurd (no_status (is_too_long [] old) 2 (sym e ∙ puts.answered other) (omega arith))
  given-done (Err OutOfMemory) old new needed status puts e Q holds =
      let other : status ≢ 3 = λ is_three. omega (arith, e, is_three) in
      absurd (no_status (is_too_long [] old) 1 (sym e ∙ puts.answered other) (omega arith))
  given-done (Err Fault) old new needed status puts e Q holds =
      let other : status ≢ 3 = λ is_three. omega (arith, e, is_three) in
      absurd (no_status (is_too_long [] old) 1 (sym e ∙ puts.answered other) (omega arith))
