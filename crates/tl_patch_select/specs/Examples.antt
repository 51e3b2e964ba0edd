-- Words for worked rows. No contract cites them.
use Rattle.std.specs.List.{slice_get}
use Rattle.std.specs.Option.{option_and_then}
use Rattle.std.specs.Prelude.{List, None, Option, Some, [], ℕ, ◌∷◌}
use Rattle.tl_patch_edit.specs.declared.reach.Stretch.{Stretch}

-- the places of rows, one after the other
abbrev pub places_in : List (Option ℕ) → ℕ → Option ℕ
places_in places row = option_and_then (λ (place : Option ℕ). place) (slice_get places row)

abbrev pub from_to : ℕ → ℕ → Stretch
from_to start end = record { start = start; end = end }

-- `<svg><p>x</p></svg>y`: `html`, `head`, `body`, `svg`, and behind it `p`, the texts
abbrev pub paragraph_in_svg : List (Option ℕ)
paragraph_in_svg = None ∷ None ∷ None ∷ Some 0 ∷ Some 5 ∷ Some 8 ∷ Some 19 ∷ []

-- `<table><tr>x<td>y</table>`: `html`, `head`, `body`, the first text, and behind it `table`,
-- `tbody`, `tr`, `td`, the other text
abbrev pub text_in_row : List (Option ℕ)
text_in_row =
    None ∷ None ∷ None ∷ Some 11 ∷ Some 0 ∷ None ∷ Some 7 ∷ Some 12 ∷ Some 16 ∷ []
