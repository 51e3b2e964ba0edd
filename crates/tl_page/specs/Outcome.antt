-- What comes of what was asked.
use Rattle.std.specs.Prelude.{◌≡◌, ℕ, List, [], ◌∷◌, ◌++◌, Option, None, Some, Result, Ok, Err, ⊤}
use Rattle.tl_spec.specs.Walk.{TreeFault}
use Rattle.tl_page.specs.declared.failure.Failure.{Failure}
use Rattle.tl_page.specs.declared.failure.Failure.TheVariants.{Refused, NotUnderstood, OutOfMemory, Fault}

-- a value, or it is refused, or not understood
pub data Outcome (X : Type 0) : Type 0 where
  success : X → Outcome X
  refused : Outcome X
  not_understood : Outcome X

-- the status of a program that ends with it
abbrev pub status_of : {X : Type 0} → Outcome X → ℕ
status_of (success value) = 0
status_of refused = 1
status_of not_understood = 2

-- what is written of it: all of a value, and nothing of what is none
abbrev pub written_of : {X : Type 0} → Outcome (List X) → List X
written_of (success list) = list
written_of refused = []
written_of not_understood = []

-- a failure says this outcome, or is want of memory
abbrev pub Fails : {X : Type 0} → Outcome X → Failure → Type 0
Fails outcome Refused = outcome ≡ refused
Fails outcome NotUnderstood = outcome ≡ not_understood
Fails outcome OutOfMemory = ⊤
Fails outcome Fault = ⊥

-- the value, as it is seen, or the failure are this outcome, or memory ran out
abbrev pub Gives : {A X : Type 0} → (A → X) → Outcome X → Result A Failure → Type 0
Gives view outcome (Ok value) = outcome ≡ success (view value)
Gives view outcome (Err failure) = Fails outcome failure

-- a fault of the tree is refused
abbrev pub outcome_of : {X : Type 0} → Result X TreeFault → Outcome X
outcome_of (Ok value) = success value
outcome_of (Err fault) = refused

-- what is made of a value
abbrev pub outcome_map : {X Y : Type 0} → (X → Y) → Outcome X → Outcome Y
outcome_map f (success value) = success (f value)
outcome_map f refused = refused
outcome_map f not_understood = not_understood

-- a list and the one after it, or the first that is none
abbrev pub followed_by : {X : Type 0} → Outcome (List X) → Outcome (List X) → Outcome (List X)
followed_by (success list) later = outcome_map (λ more. list ++ more) later
followed_by refused later = refused
followed_by not_understood later = not_understood

-- lists joined in order, or the first that is none
abbrev pub joined : {X : Type 0} → List (Outcome (List X)) → Outcome (List X)
joined [] = success []
joined (list ∷ later) = followed_by list (joined later)

-- what `next` gives of values that are left: the first of them, and the others are left
abbrev pub YieldsOutcome : {A X : Type 0} → (A → X) → List (Outcome X) → Option (Result A Failure) →
    List (Outcome X) → Type 0
YieldsOutcome view before None after = (before ≡ []) × (after ≡ [])
YieldsOutcome view [] (Some value) after = ⊥
YieldsOutcome view (outcome ∷ later) (Some value) after = Gives view outcome value × (after ≡ later)
