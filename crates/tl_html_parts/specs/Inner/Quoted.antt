-- Where a value in quotes ends.
use Rattle.std.specs.Prelude.{◌≡◌, ◌≤◌, ◌<◌, ◌⊎◌, ◌+◌, ◌-◌, ℕ, true, List, drop, get_or, length, take}
use Rattle.std.specs.List.{list_all}
use Rattle.tl_html_parts.specs.Inner.Tail.{is_other}
use Rattle.tl_html_parts.specs.declared.value.ValuePlace.{ValuePlace}

-- with its quote, or with the text
abbrev pub EndsAtQuote : ℕ → List ℕ → ValuePlace → Type 0
EndsAtQuote quote text found =
    (found.value.end < length text) × (get_or text found.value.end 0 ≡ quote)
    × (found.end ≡ found.value.end + 1)

abbrev pub EndsWithText : List ℕ → ValuePlace → Type 0
EndsWithText text found = (found.value.end ≡ length text) × (found.end ≡ found.value.end)

-- the value that stands from a place on, which the quote ends
pub record IsQuoted (quote : ℕ) (text : List ℕ) (from : ℕ) (found : ValuePlace) : Type 0 where
  pub order : from ≤ found.value.end
  pub inside : list_all (is_other quote) (take (found.value.end - from) (drop from text)) ≡ true
  pub ends : EndsAtQuote quote text found ⊎ EndsWithText text found
