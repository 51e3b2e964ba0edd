-- What is put into room.
use denote.Enum.Declared.{tag_of}
use Rattle.std.proofs.Common.{◌≡◌, ◌≢◌, ◌↔◌, ◌+◌, ◌++◌, ℕ, Bool, true, false, List, [], length, take, drop, refl, sym, ap₂, ◌∙◌, subst, if◌then◌else◌, arith}
use Rattle.std.proofs.Math.Seq.{take-append_seam}
use Rattle.std.proofs.lemmas.Bool.{le-ltb}
use Rattle.std.specs.Prelude.{IfOk, IsOkAnd, Result, Ok, Err}
use Rattle.tl_page.specs.Outcome.{Fails, Outcome, not_understood, refused, success}
use Rattle.tl_page.specs.contracts.failure.Failure.{the_type}
use Rattle.tl_page.specs.declared.failure.Failure.{Failure}
use Rattle.tl_page.specs.declared.failure.Failure.TheVariants.{Refused, NotUnderstood, OutOfMemory, Fault}
use Rattle.tl_c.specs.Puts.{Puts, is_too_long}

-- the number of a failure
abbrev pub number_of : Failure → ℕ
number_of failure = tag_of the_type failure + 1

-- 3 is the number of want of memory alone
pub number_of-memory : (failure : Failure) → (number_of failure ≡ 3) ↔ (failure ≡ OutOfMemory)
number_of-memory Refused = (λ e. absurd (omega (arith, e)), λ e. absurd (cc))
number_of-memory NotUnderstood = (λ e. absurd (omega (arith, e)), λ e. absurd (cc))
number_of-memory OutOfMemory = (λ e. refl, λ e. refl)
number_of-memory Fault = (λ e. absurd (omega (arith, e)), λ e. absurd (cc))

-- and 1 that of what is refused alone
pub number_of-refused : (failure : Failure) → (number_of failure ≡ 1) ↔ (failure ≡ Refused)
number_of-refused Refused = (λ e. refl, λ e. refl)
number_of-refused NotUnderstood = (λ e. absurd (omega (arith, e)), λ e. absurd (cc))
number_of-refused OutOfMemory = (λ e. absurd (omega (arith, e)), λ e. absurd (cc))
number_of-refused Fault = (λ e. absurd (omega (arith, e)), λ e. absurd (cc))

module _ {X : Type 0} where
  has_room : (out : List X) → is_too_long [] out ≡ false
  has_room out = le-ltb (length out) 0 (omega arith)

  pub puts_refused : (out : List X) → Puts refused out out 0 1
  puts_refused out = record {
    answered = λ _. rw (has_room out) refl;
    counted = λ _. refl;
    filled = λ _. rw (has_room out) refl;
    unneeded = λ _. refl;
    untouched = λ _. refl;
  }

  puts_not_understood : (out : List X) → Puts not_understood out out 0 2
  puts_not_understood out = record {
    answered = λ _. rw (has_room out) refl;
    counted = λ _. refl;
    filled = λ _. rw (has_room out) refl;
    unneeded = λ _. refl;
    untouched = λ _. refl;
  }

  puts_nothing : (outcome : Outcome (List X)) (out : List X) → Puts outcome out out 0 3
  puts_nothing outcome out = record {
    answered = λ other. absurd (other refl);
    counted = λ other. absurd (other refl);
    filled = λ other. absurd (other refl);
    unneeded = λ _. refl;
    untouched = λ _. refl;
  }

  -- a failure is put
  pub puts_failure : (outcome : Outcome (List X)) (failure : Failure) (out : List X) → Fails outcome failure → Puts outcome out out 0 (number_of failure)
  puts_failure outcome Refused out fails = subst (λ (o : Outcome (List X)). Puts o out out 0 1) (sym fails) (puts_refused out)
  puts_failure outcome NotUnderstood out fails = subst (λ (o : Outcome (List X)). Puts o out out 0 2) (sym fails) (puts_not_understood out)
  puts_failure outcome OutOfMemory out fails = puts_nothing outcome out
  puts_failure outcome Fault out fails = absurd fails

  front_by : (items old new : List X) (needed : ℕ) (is_long : Bool) → ◌≡◌ {A = ℕ} 0 (if is_long then 4 else 0) → needed ≡ length items
      → new ≡ (if is_long then old else items ++ drop (length items) old) → take needed new ≡ items
  front_by items old new needed true e f g = absurd (omega (arith, e))
  front_by items old new needed false e f g = ap₂ take f g ∙ take-append_seam items (drop (length items) old)

  -- what is put stands at the front
  pub put_front : (items old new : List X) (needed status : ℕ) → Puts (success items) old new needed status → status ≡ 0 → take needed new ≡ items
  put_front items old new needed status puts e =
      let other : status ≢ 3 = λ is_three. omega (arith, e, is_three) in
      front_by items old new needed (is_too_long items old) (sym e ∙ puts.answered other) (puts.counted other) (puts.filled other)

-- what holds of the value that is given holds of the bytes that were put
pub of_given : {A : Type 0} (view : A → List ℕ) (given : Result A Failure) (P : List ℕ → Type 0) (bytes : List ℕ) → IsOkAnd given (λ value. bytes ≡ view value)
    → IfOk given (λ value. P (view value)) → P bytes
of_given view (Ok value) P bytes e holds = subst P (sym e) holds
of_given view (Err failure) P bytes e holds = absurd e
