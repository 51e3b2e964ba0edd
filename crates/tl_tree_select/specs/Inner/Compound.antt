-- Compounds: selectors whose steps are tests of one element.
use Rattle.std.specs.Prelude.{◌≡◌, ◌<◌, ◌≤◌, ℕ, zero, suc, Bool, true, false, List, length, Option, None, Some, IfSome, option_and_then, slice_get}
use Rattle.tl_css.specs.declared.selector.Step.{Step}
use Rattle.tl_css.specs.declared.selector.Step.TheVariants.{Ask, Keep, Turn, Meet, Unite, Shift, Count}
use Rattle.tl_css.specs.declared.selector.Test.{Test}
use Rattle.tl_css.specs.Selector.{Is}
use Rattle.tl_css.specs.View.{test}
use Rattle.tl_tree_select.specs.Meaning.{Holds}
use Rattle.tl_tree_select.specs.Page.{Page}

-- the test of a step that is one
abbrev pub test_in : Step → Option Test
test_in (Ask t) = Some t
test_in (Keep t) = Some t
test_in Turn = None
test_in Meet = None
test_in Unite = None
test_in (Shift way link reach) = None
test_in (Count way link formula) = None

-- the test of the first step
abbrev pub first_test : List Step → Option Test
first_test steps = option_and_then test_in (slice_get steps 0)

-- a step asks for a test, or keeps it

abbrev pub is_asked : Step → Bool
is_asked (Ask t) = true
is_asked _ = false

abbrev pub is_kept : Step → Bool
is_kept (Keep t) = true
is_kept _ = false

-- a step stands at its place in a compound: the first test is asked, the others are kept
abbrev pub fits : ℕ → Step → Bool
fits zero step = is_asked step
fits (suc place) step = is_kept step

-- steps that are a compound
pub record IsCompound (steps : List Step) : Type 0 where
  pub some : 0 < length steps
  pub each : (place : ℕ) → IfSome (slice_get steps place) (λ step. fits place step ≡ true)

-- the test at a place, if there is one, passes at the element of a number
abbrev pub HoldsAt : Page → List Step → ℕ → ℕ → Type 0
HoldsAt page steps place n =
    IfSome (option_and_then test_in (slice_get steps place)) (λ t. Holds page (Is (test t)) n)

-- the tests from a place on pass at the element of a number
abbrev pub HoldFrom : Page → List Step → ℕ → ℕ → Type 0
HoldFrom page steps from n = (place : ℕ) → from ≤ place → HoldsAt page steps place n

-- the tests below a place pass
abbrev pub HoldBelow : Page → List Step → ℕ → ℕ → Type 0
HoldBelow page steps n end = (place : ℕ) → place < end → HoldsAt page steps place n
