-- Selectors as programs over a stack: the form that is held and carried out, without recursion.
use Rattle.std.specs.Prelude.{ℕ, ◌-◌, nat_lt, if◌then◌else◌, List, [], ◌∷◌}
use Rattle.tl_css.specs.declared.selector.Step.{Step}
use Rattle.tl_css.specs.declared.selector.Step.TheVariants.{Ask, Keep, Turn, Meet, Unite, Shift, Count}
use Rattle.tl_css.specs.Selector.{Any, Css, Is, Not, Both, Either, At, Nth}
use Rattle.tl_css.specs.View.{test}

-- Where there are not two, there is nothing to put together.

abbrev pub meet : List Css → List Css
meet [] = []
meet (b ∷ []) = b ∷ []
meet (b ∷ a ∷ es) = Both a b ∷ es

abbrev pub unite : List Css → List Css
unite [] = []
unite (b ∷ []) = b ∷ []
unite (b ∷ a ∷ es) = Either a b ∷ es

-- how many there are after that
abbrev pub fewer : ℕ → ℕ
fewer n = if nat_lt 1 n then n - 1 else n

-- the last selector becomes another
abbrev pub change : (Css → Css) → List Css → List Css
change f [] = []
change f (e ∷ es) = f e ∷ es

-- the selectors that wait after a step, the last one first
abbrev pub after_step : Step → List Css → List Css
after_step (Ask t) es = Is (test t) ∷ es
after_step (Keep t) es = meet (Is (test t) ∷ es)
after_step Turn es = change Not es
after_step Meet es = meet es
after_step Unite es = unite es
after_step (Shift way link reach) es = change (At way link reach) es
after_step (Count way link formula) es = change (Nth way link formula) es

-- those that wait after a program, where these waited before
abbrev pub after_steps : List Step → List Css → List Css
after_steps [] es = es
after_steps (p ∷ ps) es = after_steps ps (after_step p es)

-- those that wait after a program alone
unfoldable pub waiting_after : List Step → List Css
waiting_after steps = after_steps steps []

-- the last one; a program of no step asks for nothing
abbrev pub last_waiting : List Css → Css
last_waiting [] = Is Any
last_waiting (e ∷ es) = e

-- the selector that a program leaves
abbrev pub selector_of : List Step → Css
selector_of steps = last_waiting (waiting_after steps)
