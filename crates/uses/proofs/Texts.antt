-- What holds of each byte of a text, and of each that an escape is made of, holds of the text with fields.
use Rattle.std.proofs.Common.{◌≡◌, ℕ, zero, suc, ◌+◌, Bool, true, false, cond, not, ◌&&◌, ◌==◌, if◌then◌else◌, List, [], ◌∷◌, ◌++◌, take, drop, position, Option, Some, None, codes, refl, ap, ◌∙◌, flat_map}
use Rattle.std.specs.List.{list_all, onto_first, slice_split}
use Rattle.std.proofs.lemmas.Bool.{and_parts, and_from}
use Rattle.std.proofs.lemmas.List.Folds.{list_all-append}
use Rattle.tl_spec.specs.Lex.ByteClass.{less, quote}
use Rattle.uses.specs.Split.{pieces}
use Rattle.uses.specs.Fields.{Fields, ampersand, closing, escape, escape_of, opening, part_from, part_to, part_with, parts_with, text_with, value_of}

module _ (p : ℕ → Bool) where
  both : (xs ys : List ℕ) → list_all p xs ≡ true → list_all p ys ≡ true → list_all p (xs ++ ys) ≡ true
  both xs ys h k = list_all-append p xs ys ∙ and_from _ _ h k

  of-drop : (n : ℕ) (s : List ℕ) → list_all p s ≡ true → list_all p (drop n s) ≡ true
  of-drop zero s h = h
  of-drop (suc n) [] h = refl
  of-drop (suc n) (b ∷ s) h = of-drop n s (and_parts (p b) (list_all p s) h).1

  -- of each part
  abbrev OfParts : List (List ℕ) → Type 0
  OfParts [] = Unit {0}
  OfParts (part ∷ parts) = (list_all p part ≡ true) × OfParts parts

  of-onto : (b : ℕ) (parts : List (List ℕ)) → p b ≡ true → OfParts parts → OfParts (onto_first b parts)
  of-onto b [] e h = (and_from _ _ e refl, tt)
  of-onto b (part ∷ parts) e h = (and_from _ _ e h.0, h.1)

  of-split : (test : ℕ → Bool) (s : List ℕ) → list_all p s ≡ true → OfParts (slice_split test s)
  of-split test [] h = (refl, tt)
  of-split test (b ∷ s) h = by (test b) (and_parts (p b) (list_all p s) h).0 (of-split test s (and_parts (p b) (list_all p s) h).1)
    where
      by : (cut : Bool) → p b ≡ true → OfParts (slice_split test s) → OfParts (cond cut ([] ∷ slice_split test s) (onto_first b (slice_split test s)))
      by true e rest = (refl, rest)
      by false e rest = of-onto b (slice_split test s) e rest

  module _ (fields : Fields) (opens : p opening ≡ true) (escapes : (b : ℕ) → list_all p (escape_of b) ≡ true) where
    of-escape : (s : List ℕ) → list_all p (escape s) ≡ true
    of-escape [] = refl
    of-escape (b ∷ s) = both (escape_of b) (escape s) (escapes b) (of-escape s)

    of-from : (part : List ℕ) (end : ℕ) (value : Option (List ℕ)) → list_all p part ≡ true → list_all p (part_from part end value) ≡ true
    of-from part end None h = and_from _ _ opens h
    of-from part end (Some value) h = both (escape value) (drop (end + 1) part) (of-escape value) (of-drop (end + 1) part h)

    of-to : (part : List ℕ) (end : Option ℕ) → list_all p part ≡ true → list_all p (part_to fields part end) ≡ true
    of-to part None h = and_from _ _ opens h
    of-to part (Some end) h = of-from part end (value_of fields (take end part)) h

    of-later : (parts : List (List ℕ)) → OfParts parts → list_all p (flat_map (part_with fields) parts) ≡ true
    of-later [] h = refl
    of-later (part ∷ parts) h =
        both (part_with fields part) (flat_map (part_with fields) parts) (of-to part (position (λ byte. byte == closing) part) h.0) (of-later parts h.1)

    of-parts : (parts : List (List ℕ)) → OfParts parts → list_all p (parts_with fields parts) ≡ true
    of-parts [] h = refl
    of-parts (first ∷ later) h = both first (flat_map (part_with fields) later) h.0 (of-later later h.1)

    pub of-text : (s : List ℕ) → list_all p s ≡ true → list_all p (text_with fields s) ≡ true
    of-text s h = of-parts (pieces opening s) (of-split (λ byte. byte == opening) s h)

no_less_by : (b : ℕ) (and is is_quote : Bool) → (b == less) ≡ is → list_all (λ c. not (c == less)) (if and then codes "&amp;" else if is then codes "&lt;" else if is_quote then codes "&quot;" else b ∷ []) ≡ true
no_less_by b true is is_quote e = refl
no_less_by b false true is_quote e = refl
no_less_by b false false true e = refl
no_less_by b false false false e = ap (λ is. not is && true) e

pub no_less : (b : ℕ) → list_all (λ c. not (c == less)) (escape_of b) ≡ true
no_less b = no_less_by b (b == ampersand) (b == less) (b == quote) refl

no_quote_by : (b : ℕ) (and is_less is : Bool) → (b == quote) ≡ is → list_all (λ c. not (c == quote)) (if and then codes "&amp;" else if is_less then codes "&lt;" else if is then codes "&quot;" else b ∷ []) ≡ true
no_quote_by b true is_less is e = refl
no_quote_by b false true is e = refl
no_quote_by b false false true e = refl
no_quote_by b false false false e = ap (λ is. not is && true) e

pub no_quote : (b : ℕ) → list_all (λ c. not (c == quote)) (escape_of b) ≡ true
no_quote b = no_quote_by b (b == ampersand) (b == less) (b == quote) refl
