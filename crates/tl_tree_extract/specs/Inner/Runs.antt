-- Bytes of a line.
use Rattle.std.specs.Prelude.{Bool, List, [], false, get_or, not, true, ℕ, ◌&&◌, ◌++◌, ◌-◌, ◌<◌, ◌==◌, ◌||◌, ◌∷◌, ◌≡◌, ◌≤◌}
use Rattle.tl_tree_extract.specs.Flowing.{ahead, in_line, is_white, with_space}
use Rattle.tl_tree_extract.specs.declared.text.flow.Flow.{Flow}

-- what is written as it is, and ends no line
abbrev pub is_plain : Bool → ℕ → Bool
is_plain true b = not (b == 10)
is_plain false b = not (is_white b)

abbrev pub run_written : Flow → List ℕ → List ℕ
run_written flow [] = []
run_written flow (b ∷ run) = ahead flow ++ b ∷ run

abbrev pub after_run : Flow → List ℕ → Flow
after_run flow [] = flow
after_run flow (b ∷ run) = in_line flow

-- two spaces side by side, or one at the end
abbrev pub has_idle_space : List ℕ → Bool
has_idle_space [] = false
has_idle_space (b ∷ []) = b == 32
has_idle_space (b ∷ c ∷ s) = (b == 32 && c == 32) || has_idle_space (c ∷ s)

-- white space that stands behind a space, or is no space
abbrev pub is_rough : ℕ → ℕ → Bool
is_rough before b = (before == 32 && b == 32) || b == 10 || b == 9 || b == 13

-- the bytes from a place up to another, each with that before it
abbrev pub AreSmooth : List ℕ → ℕ → ℕ → Type 0
AreSmooth text start end =
    (place : ℕ) → start ≤ place → place < end
    → is_rough (get_or text (place - 1) 32) (get_or text place 32) ≡ false

abbrev pub apart : Flow → Flow
apart flow = record { lines = flow.lines; gap = with_space flow.gap; seam = flow.seam }

-- white space was there
abbrev pub past_white : Flow → List ℕ → Flow
past_white flow [] = flow
past_white flow (b ∷ white) =
    apart flow
