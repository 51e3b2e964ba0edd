-- What comes of what was asked, one after the other.
use Rattle.std.proofs.Common.{◌≡◌, ℕ, List, [], ◌∷◌, ◌++◌, Result, Ok, Err, refl, ap, sym, ◌∙◌, subst, append_assoc, append-nil}
use Rattle.std.specs.Result.{result_err}
use Rattle.tl_spec.specs.Walk.{TreeFault}
use Rattle.tl_table.specs.TreeFault.{IsRefusal}
use Rattle.tl_table.specs.declared.errors.TreeError.{TreeError}
use Rattle.tl_table.specs.declared.errors.TreeError.TheVariants.{Dangling as DanglingError, Cycle as CycleError, OutOfMemory as TreeMemory}
use Rattle.tl_page.specs.Failure.{failure_of_tree}
use Rattle.tl_page.specs.Outcome.{Fails, Outcome, followed_by, not_understood, outcome_map, outcome_of, refused, success}
use Rattle.tl_page.specs.declared.failure.Failure.{Failure}
use Rattle.tl_page.specs.declared.failure.Failure.TheVariants.{Refused, NotUnderstood, OutOfMemory, Fault}

-- what has a value fails by want of memory alone
pub fails_success : {X Y : Type 0} (value : Y) (outcome : Outcome X) (failure : Failure) → Fails (success value) failure → Fails outcome failure
fails_success value outcome Refused fails = absurd (cc)
fails_success value outcome NotUnderstood fails = absurd (cc)
fails_success value outcome OutOfMemory fails = tt
fails_success value outcome Fault fails = absurd fails

-- what fails does so whatever is made of a value
pub fails_mapped : {X Y : Type 0} (make : X → Y) (outcome : Outcome X) (failure : Failure) → Fails outcome failure → Fails (outcome_map make outcome) failure
fails_mapped make (success value) failure fails = fails_success value (success (make value)) failure fails
fails_mapped make refused Refused fails = refl
fails_mapped make refused NotUnderstood fails = absurd (cc)
fails_mapped make refused OutOfMemory fails = tt
fails_mapped make refused Fault fails = absurd fails
fails_mapped make not_understood Refused fails = absurd (cc)
fails_mapped make not_understood NotUnderstood fails = refl
fails_mapped make not_understood OutOfMemory fails = tt
fails_mapped make not_understood Fault fails = absurd fails

module _ {X : Type 0} where
  pub followed_by-nothing : (outcome : Outcome (List X)) → followed_by (success []) outcome ≡ outcome
  followed_by-nothing (success list) = refl
  followed_by-nothing refused = refl
  followed_by-nothing not_understood = refl

  pub followed_by_assoc : (a b c : Outcome (List X)) → followed_by (followed_by a b) c ≡ followed_by a (followed_by b c)
  followed_by_assoc refused b c = refl
  followed_by_assoc not_understood b c = refl
  followed_by_assoc (success a) refused c = refl
  followed_by_assoc (success a) not_understood c = refl
  followed_by_assoc (success a) (success b) refused = refl
  followed_by_assoc (success a) (success b) not_understood = refl
  followed_by_assoc (success a) (success b) (success c) = ap success (append_assoc a b c)

  -- one more is there, and the others follow
  pub followed_on : (old new : List X) (one later whole : Outcome (List X)) → followed_by (success old) one ≡ success new
      → followed_by (success old) (followed_by one later) ≡ whole → followed_by (success new) later ≡ whole
  followed_on old new one later whole e f =
      ap (λ (o : Outcome (List X)). followed_by o later) (sym e) ∙ (followed_by_assoc (success old) one later ∙ f)

  -- none is left
  pub all_followed : (list : List X) (whole : Outcome (List X)) → followed_by (success list) (success []) ≡ whole → whole ≡ success list
  all_followed list whole e = sym e ∙ ap success (append-nil list)

  fails_first : (old : List X) (one later : Outcome (List X)) (failure : Failure) → Fails one failure → Fails (followed_by (success old) (followed_by one later)) failure
  fails_first old refused later failure fails = fails
  fails_first old not_understood later failure fails = fails
  fails_first old (success list) later failure fails = fails_success list (followed_by (success old) (followed_by (success list) later)) failure fails

  -- what fails makes the whole fail
  pub fails_within : (old : List X) (one later whole : Outcome (List X)) (failure : Failure)
      → followed_by (success old) (followed_by one later) ≡ whole → Fails one failure → Fails whole failure
  fails_within old one later whole failure e fails = subst (λ (o : Outcome (List X)). Fails o failure) e (fails_first old one later failure fails)

  pub ruleset followed = (followed_by-nothing, followed_on, all_followed, fails_within)

-- readings of a tree

pub fails-outcome : {X : Type 0} (reading : Result X TreeFault) (error : TreeError) → IsRefusal (result_err reading) error → Fails (outcome_of reading) (failure_of_tree error)
fails-outcome (Ok value) (DanglingError h) refusal = absurd (cc)
fails-outcome (Ok value) (CycleError h) refusal = absurd (cc)
fails-outcome (Err fault) (DanglingError h) refusal = refl
fails-outcome (Err fault) (CycleError h) refusal = refl
fails-outcome (Ok value) TreeMemory refusal = tt
fails-outcome (Err fault) TreeMemory refusal = tt

module _ {X Y : Type 0} (make : X → Y) where
  pub fails-reading : (reading : Result X TreeFault) (error : TreeError) → IsRefusal (result_err reading) error → Fails (outcome_map make (outcome_of reading)) (failure_of_tree error)
  fails-reading reading error refusal = fails_mapped make (outcome_of reading) (failure_of_tree error) (fails-outcome reading error refusal)

  pub gives-reading : (reading : Result X TreeFault) (value : X) → reading ≡ Ok value → outcome_map make (outcome_of reading) ≡ success (make value)
  gives-reading reading value e = ap (λ (r : Result X TreeFault). outcome_map make (outcome_of r)) e

pub ruleset readings = (fails-reading, gives-reading)
