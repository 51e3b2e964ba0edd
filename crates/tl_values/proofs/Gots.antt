-- Values that nodes get, one more.
use Rattle.std.proofs.Common.{List, Option, [], ap, append-nil, flat_map, get_or, length, sym, take, ℕ, ◌+◌, ◌++◌, ◌<◌, ◌∙◌, ◌≡◌, ◌∷◌}
use Rattle.std.proofs.lemmas.List.{take_more}
use Rattle.std.proofs.lemmas.List.Concat.{flat_map-append}
use Rattle.std.specs.Option.{option_map, option_to_list}
use Rattle.tl_values.specs.NewValues.{each_got}

flat_map_next : (f : ℕ → List (ℕ × List ℕ)) (xs : List ℕ) (i : ℕ) → i < length xs
    → flat_map f (take i xs) ++ f (get_or xs i 0) ≡ flat_map f (take (i + 1) xs)
flat_map_next f xs i within =
    sym (ap (λ (ys : List ℕ). flat_map f ys) (take_more xs i 0 within) ∙ flat_map-append f (take i xs) (get_or xs i 0 ∷ [])
    ∙ ap (λ (one : List (ℕ × List ℕ)). flat_map f (take i xs) ++ one) (append-nil (f (get_or xs i 0))))

-- a node more, which gets a value or none
pub each_more : (f : ℕ → Option (List ℕ)) (numbers : List ℕ) (i : ℕ) (old new : List (ℕ × List ℕ)) (value : Option (List ℕ)) → i < length numbers
    → value ≡ f (get_or numbers i 0)
    → old ≡ each_got f (take i numbers)
    → new ≡ old ++ option_to_list (option_map (λ (v : List ℕ). (get_or numbers i 0, v)) value)
    → new ≡ each_got f (take (i + 1) numbers)
each_more f numbers i old new value within is so_far more =
    let n : ℕ = get_or numbers i 0 in
    let one : ℕ → List (ℕ × List ℕ) = λ m. option_to_list (option_map (λ (v : List ℕ). (m, v)) (f m)) in
    more ∙ ap (λ (v : Option (List ℕ)). old ++ option_to_list (option_map (λ (w : List ℕ). (n, w)) v)) is
    ∙ ap (λ (o : List (ℕ × List ℕ)). o ++ one n) so_far ∙ flat_map_next one numbers i within
