-- Lent words, gone through one by one.
use Rattle.std.proofs.Common.{◌≡◌, ℕ, ◌+◌, ◌<◌, Bool, true, false, ◌||◌, List, ◌∷◌, length, drop, get_or, map, true≢false, refl, ap, sym, ◌∙◌, add-one, drop-cons}
use Rattle.std.specs.Borrow.{Bor}
use Rattle.std.specs.List.{list_any}
use Rattle.std.specs.Char.{to_ascii_lowercase}
use Rattle.std.specs.Str.{str_eq_ignore_ascii_case}
use Rattle.std.proofs.lemmas.Bool.{false_from_ne_true}
use Rattle.std.proofs.lemmas.Slice.Eq.{bytes_eq-Decides}

abbrev pub Lent : Type 0
Lent = Bor (List ℕ)

abbrev pub words_of : List Lent → List (List ℕ)
words_of words = map (λ own. own.now) words

rest_of : (words : List Lent) (i : ℕ) (d : Lent) → i < length words → drop i words ≡ get_or words i d ∷ drop (i + 1) words
rest_of words i d h = rw (add-one, drop-cons words i d) refl

pub any_here : (test : List ℕ → Bool) (words : List Lent) (i : ℕ) (d : Lent) → i < length words → test (get_or words i d).now ≡ true → list_any test (words_of (drop i words)) ≡ true
any_here test words i d h e = ap (λ ws. list_any test (words_of ws)) (rest_of words i d h) ∙ ap (λ b. b || list_any test (words_of (drop (i + 1) words))) e

pub any_later : (test : List ℕ → Bool) (words : List Lent) (i : ℕ) (d : Lent) → i < length words → test (get_or words i d).now ≡ false →
    list_any test (words_of (drop i words)) ≡ list_any test (words_of (drop (i + 1) words))
any_later test words i d h e = ap (λ ws. list_any test (words_of ws)) (rest_of words i d h) ∙ ap (λ b. b || list_any test (words_of (drop (i + 1) words))) e

-- what a test of two words in any case tells
pub case_test : (r : Bool) (a b : List ℕ) → (r ≡ true → map to_ascii_lowercase a ≡ map to_ascii_lowercase b) × (map to_ascii_lowercase a ≡ map to_ascii_lowercase b → r ≡ true) →
    str_eq_ignore_ascii_case a b ≡ r
case_test true a b h = (bytes_eq-Decides (map to_ascii_lowercase a) (map to_ascii_lowercase b)).1 (h.0 refl)
case_test false a b h =
    false_from_ne_true _ (λ e. true≢false (sym (h.1 ((bytes_eq-Decides (map to_ascii_lowercase a) (map to_ascii_lowercase b)).0 e))))
