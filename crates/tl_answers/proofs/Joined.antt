-- Lines of a list, one more.
use Rattle.std.proofs.Common.{List, [], ap, append-nil, flat_map, get_or, length, sym, take, ℕ, ◌+◌, ◌++◌, ◌<◌, ◌∙◌, ◌≡◌, ◌∷◌}
use Rattle.std.proofs.lemmas.List.{take_more}
use Rattle.std.proofs.lemmas.List.Concat.{flat_map-append}

pub flat_map_next : (f : ℕ → List ℕ) (xs : List ℕ) (i : ℕ) → i < length xs
    → flat_map f (take i xs) ++ f (get_or xs i 0) ≡ flat_map f (take (i + 1) xs)
flat_map_next f xs i within =
    sym (ap (λ (ys : List ℕ). flat_map f ys) (take_more xs i 0 within) ∙ flat_map-append f (take i xs) (get_or xs i 0 ∷ [])
    ∙ ap (λ (line : List ℕ). flat_map f (take i xs) ++ line) (append-nil (f (get_or xs i 0))))
