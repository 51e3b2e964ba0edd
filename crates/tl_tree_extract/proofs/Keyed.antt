-- Keys by their first bytes.
use Rattle.std.proofs.Common.{Bool, List, [], ap, false, refl, slice_index_or, slice_set, suc, sym, true, zero, ℕ, ◌&&◌, ◌∙◌, ◌≡◌, ◌∷◌}
use Rattle.std.proofs.lemmas.Bool.{and_parts, cond-false, false_from_ne_true, true≢false}
use Rattle.std.proofs.lemmas.Slice.Eq.{bytes_eq-Decides}
use Rattle.std.specs.Option.{option_map}
use Rattle.std.specs.Str.{bytes_eq}
use Rattle.tl_dom_spec.specs.Tags as dom
use Rattle.tl_tree.specs.Asked.{has_no_space, value_of}
use Rattle.tl_tree_extract.specs.Inner.Keys.{place_of}

marked : (xs : List Bool) (i : ℕ) → slice_index_or (slice_set xs i true) i true ≡ true
marked [] i = refl
marked (x ∷ xs) zero = refl
marked (x ∷ xs) (suc i) = marked xs i

-- what has no mark had none before
pub unmarked_before : (xs : List Bool) (i j : ℕ) → slice_index_or (slice_set xs i true) j true ≡ false → slice_index_or xs j true ≡ false
unmarked_before [] i j e = e
unmarked_before (x ∷ xs) zero zero e = absurd (true≢false e)
unmarked_before (x ∷ xs) zero (suc j) e = e
unmarked_before (x ∷ xs) (suc i) zero e = e
unmarked_before (x ∷ xs) (suc i) (suc j) e = unmarked_before xs i j e

-- a key without a mark is none that has given one
pub another_key : (key : List ℕ) (found : List Bool) (a : dom.Attribute) (rest : List dom.Attribute) → slice_index_or (slice_set found (place_of a.key) true) (place_of key) true ≡ false → value_of key (a ∷ rest) ≡ value_of key rest
another_key key found a rest e =
    let is : Bool = has_no_space a.space && bytes_eq a.key key in
    let no : is ≡ false = false_from_ne_true is (λ t.
    let parts = and_parts (has_no_space a.space) (bytes_eq a.key key) t in
    let same : a.key ≡ key = (bytes_eq-Decides a.key key).0 parts.1 in
    true≢false (sym (marked found (place_of a.key)) ∙ ap (λ k. slice_index_or (slice_set found (place_of a.key) true) (place_of k) true) same ∙ e)) in
    ap (option_map (λ (b : dom.Attribute). b.value)) (cond-false is _ _ no)
