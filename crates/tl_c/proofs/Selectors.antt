-- Selectors of CSS, and what they find.
use Rattle.std.proofs.Common.{◌≡◌, ◌≢◌, ◌↔◌, ℕ, Bool, true, false, List, Option, None, Some, Result, Ok, Err, refl, ap, subst, sym, if◌then◌else◌}
use Rattle.std.specs.Prelude.{IsSome}
use Rattle.std.specs.Result.{result_err}
use Rattle.std.specs.Str.{is_utf8}
use Rattle.tl_css.specs.Reading.{css_at}
use Rattle.tl_css.specs.Selector.{Css}
use Rattle.tl_css.specs.declared.error.Cause.{Cause}
use Rattle.tl_page.specs.Outcome.{Fails, Outcome, not_understood, refused, success}
use Rattle.tl_page.specs.declared.failure.Failure.{Failure}
use Rattle.tl_page.specs.declared.failure.Failure.TheVariants.{Refused, NotUnderstood, OutOfMemory, Fault}
use Rattle.tl_page.proofs.Outcomes.{fails_success}
use Rattle.tl_c.specs.Css.{answer_by, css_by, css_in, found_or_refused, outcome_of_css, read_by, wrong_by, wrong_in}
use Rattle.tl_c.specs.Queries.{outcome_of_some}
use Rattle.tl_c.specs.declared.css.Reading.{Reading}

module _ (reading : Reading) (bytes text : List ℕ) (utf8 : is_utf8 bytes ≡ true) (same : text ≡ bytes) where
  read : (r : Result Css (ℕ × Cause)) → read_by reading text ≡ r → read_by reading bytes ≡ r
  read r e = subst (λ (t : List ℕ). read_by reading t ≡ r) same e

  -- a text that is a selector
  pub css_by-right : (e : Css) → read_by reading text ≡ Ok e → css_by reading bytes ≡ success e
  css_by-right e found = rw utf8 (ap outcome_of_css (read (Ok e) found))

  pub wrong_by-right : (e : Css) → read_by reading text ≡ Ok e → wrong_by reading bytes ≡ None
  wrong_by-right e found = rw utf8 (ap result_err (read (Ok e) found))

  -- and one that is none
  pub css_by-wrong : (wrong : ℕ × Cause) → read_by reading text ≡ Err wrong → css_by reading bytes ≡ refused
  css_by-wrong wrong found = rw utf8 (ap outcome_of_css (read (Err wrong) found))

  pub wrong_by-wrong : (wrong : ℕ × Cause) → read_by reading text ≡ Err wrong → wrong_by reading bytes ≡ Some wrong
  wrong_by-wrong wrong found = rw utf8 (ap result_err (read (Err wrong) found))

-- what is no selector has no answer
pub answer_by-unread : {X A : Type 0} (css : Outcome Css) (place : Option X) (answer : A) (failure : Failure) → Fails css failure → Fails (answer_by css place answer) failure
answer_by-unread (success e) place answer failure fails = fails_success e (outcome_of_some (λ _. success answer) place) failure fails
answer_by-unread refused place answer Refused fails = refl
answer_by-unread refused place answer NotUnderstood fails = absurd (cc)
answer_by-unread refused place answer OutOfMemory fails = tt
answer_by-unread refused place answer Fault fails = absurd fails
answer_by-unread not_understood place answer Refused fails = absurd (cc)
answer_by-unread not_understood place answer NotUnderstood fails = refl
answer_by-unread not_understood place answer OutOfMemory fails = tt
answer_by-unread not_understood place answer Fault fails = absurd fails

found_fails : (outcome : Outcome (Option ℕ)) (failure : Failure) → Fails outcome failure → Fails (found_or_refused outcome) failure
found_fails (success number) failure fails = fails_success number (outcome_of_some success number) failure fails
found_fails refused Refused fails = refl
found_fails refused NotUnderstood fails = absurd (cc)
found_fails refused OutOfMemory fails = tt
found_fails refused Fault fails = absurd fails
found_fails not_understood Refused fails = absurd (cc)
found_fails not_understood NotUnderstood fails = refl
found_fails not_understood OutOfMemory fails = tt
found_fails not_understood Fault fails = absurd fails

-- nor has it a number that is found
pub found_unread : {X : Type 0} (css : Outcome Css) (place : Option X) (number : Option ℕ) (failure : Failure) → Fails css failure
    → Fails (found_or_refused (answer_by css place number)) failure
found_unread css place number failure fails =
    found_fails (answer_by css place number) failure (answer_by-unread css place number failure fails)

-- an answer is one where both say whether the same holds
pub one_answer : (a b : Bool) (P : Type 0) → (a ≡ true) ↔ P → (b ≡ true) ↔ P → a ≡ b
one_answer true true P h g = refl
one_answer true false P h g = sym (g.1 (h.0 refl))
one_answer false true P h g = h.1 (g.0 refl)
one_answer false false P h g = refl

right_cases : (b : Bool) (r : Result Css (ℕ × Cause)) (e : Css) → (if b then outcome_of_css r else not_understood) ≡ success e
    → ◌≡◌ {A = Option (ℕ × Cause)} (if b then result_err r else None) None
right_cases true (Ok own) e is = refl
right_cases true (Err wrong) e is = absurd (cc)
right_cases false r e is = refl

-- a selector has nothing wrong
pub right_in : (text : List ℕ) (e : Css) → css_in text ≡ success e → wrong_in text ≡ None
right_in text e is = right_cases (is_utf8 text) (css_at text) e is

refused_cases : (b : Bool) (r : Result Css (ℕ × Cause)) → IsSome {T = ℕ × Cause} (if b then result_err r else None) → (if b then outcome_of_css r else not_understood) ≡ refused
refused_cases true (Ok e) some = absurd (cc)
refused_cases true (Err wrong) some = refl
refused_cases false r some = absurd (cc)

-- and what has is refused
refused_in : (text : List ℕ) → IsSome (wrong_in text) → css_in text ≡ refused
refused_in text some = refused_cases (is_utf8 text) (css_at text) some

only_refused : (failure : Failure) → Fails {X = Css} refused failure → failure ≢ OutOfMemory → failure ≡ Refused
only_refused Refused fails other = refl
only_refused NotUnderstood fails other = absurd (cc)
only_refused OutOfMemory fails other = absurd (other refl)
only_refused Fault fails other = absurd fails

pub wrong_failure : (text : List ℕ) (failure : Failure) → IsSome (wrong_in text) → Fails (css_in text) failure → failure ≢ OutOfMemory → failure ≡ Refused
wrong_failure text failure some fails other =
    only_refused failure (subst (λ (outcome : Outcome Css). Fails outcome failure) (refused_in text some) fails) other

none_cases : (b : Bool) (r : Result Css (ℕ × Cause)) → ◌≡◌ {A = Option (ℕ × Cause)} (if b then result_err r else None) None
    → (if b then outcome_of_css r else not_understood) ≡ refused → ⊥
none_cases true (Ok e) none is = absurd (cc)
none_cases true (Err wrong) none is = absurd (cc)
none_cases false r none is = absurd (cc)

-- what has nothing wrong is not refused
pub none_refused : (text : List ℕ) → wrong_in text ≡ None → css_in text ≡ refused → ⊥
none_refused text none is = none_cases (is_utf8 text) (css_at text) none is

lost_cases : (b : Bool) (r : Result Css (ℕ × Cause)) → (if b then outcome_of_css r else not_understood) ≡ not_understood → b ≡ false
lost_cases true (Ok e) is = absurd (cc)
lost_cases true (Err wrong) is = absurd (cc)
lost_cases false r is = refl

-- what is not understood is no text
pub lost_text : (text : List ℕ) → css_in text ≡ not_understood → is_utf8 text ≡ false
lost_text text is = lost_cases (is_utf8 text) (css_at text) is

pub right_none : (text : List ℕ) (e : Css) → css_in text ≡ success e → IsSome (wrong_in text) → ⊥
right_none text e is some =
    let none : ◌≡◌ {A = Bool} false true = subst (λ (wrong : Option (ℕ × Cause)). IsSome wrong) (right_in text e is) some in
    absurd (cc)
