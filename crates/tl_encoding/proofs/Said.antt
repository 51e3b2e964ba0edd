-- What is said at the first place that says something, one place after the other.
use Rattle.std.proofs.Common.{◌≡◌, ℕ, List, [], ◌∷◌, Option, true, false, ◌==◌, drop, inl, inr, length, refl, sym}
use Rattle.std.specs.Prelude.{IsUtf8}
use Rattle.std.specs.Str.{is_utf8}
use Rattle.std.proofs.lemmas.Bool.{cases_Bool}
use Rattle.std.proofs.lemmas.Str.{IsUtf8-from_is_utf8, is_utf8-from_IsUtf8}
use Rattle.std.specs.Option.{option_or}
use Rattle.tl_encoding.specs.Content.{first_said}
use Rattle.tl_encoding.specs.Runs.{begins, from_word}

pub one_more : (at : List ℕ → Option (List ℕ)) (s : List ℕ) → (length s == 0) ≡ false → first_said at s ≡ option_or (at s) (first_said at (drop 1 s))
one_more at [] h = cc
one_more at (b ∷ s) h = refl

pub word_goes_on : (word s : List ℕ) → (length s == 0) ≡ false → begins word s ≡ false → from_word word s ≡ from_word word (drop 1 s)
word_goes_on word [] h n = cc
word_goes_on word (b ∷ s) h n = rw n refl

pub word_stands : (word s : List ℕ) → (length s == 0) ≡ false → begins word s ≡ true → from_word word s ≡ s
word_stands word [] h y = cc
word_stands word (b ∷ s) h y = rw y refl

pub ruleset words = (word_goes_on, word_stands)

-- whether bytes are UTF-8
pub is_text : (page : List ℕ) → IsUtf8 page → true ≡ is_utf8 page
is_text page is = sym (is_utf8-from_IsUtf8 page is)

pub is_no_text : (page : List ℕ) → ¬ (IsUtf8 page) → false ≡ is_utf8 page
is_no_text page none = elim (cases_Bool (is_utf8 page)) [
  | inl y ↦ absurd (none (IsUtf8-from_is_utf8 page y))
  | inr n ↦ sym n
]
