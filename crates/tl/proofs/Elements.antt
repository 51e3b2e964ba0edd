-- What stands at a key among pairs, however they are held.
use Rattle.std.proofs.Common.{◌≡◌, ℕ, suc, ◌-◌, Bool, true, false, cond, List, [], ◌∷◌, length, map, slice_get, Option, Some, None, refl, sym, ap, ◌∙◌, sub-one}
use Rattle.std.specs.Option.{option_map}
use Rattle.std.specs.List.{find, last_or}
use Rattle.std.specs.Map.{lookup}
use Rattle.std.specs.Str.{bytes_eq}
use Rattle.tl_bytes.specs.Held.{Kept}
use Rattle.tl_attributes.specs.AttributesView.{bytes_view, value_view, pair_view}

-- the value of the pair that is found
pub lookup-shown : (key : List ℕ) (es : List (Kept × Option Kept))
    → option_map (λ (e : Kept × Option Kept). value_view e.1) (find (λ (e : Kept × Option Kept). bytes_eq key (bytes_view e.0)) es) ≡ lookup (bytes_eq key) (map pair_view es)
lookup-shown key [] = refl
lookup-shown key (e ∷ es) = by (bytes_eq key (bytes_view e.0)) (lookup-shown key es)
  where
    by : (b : Bool) → option_map (λ (x : Kept × Option Kept). value_view x.1) (find (λ (x : Kept × Option Kept). bytes_eq key (bytes_view x.0)) es) ≡ lookup (bytes_eq key) (map pair_view es)
        → option_map (λ (x : Kept × Option Kept). value_view x.1) (cond b (Some e) (find (λ (x : Kept × Option Kept). bytes_eq key (bytes_view x.0)) es)) ≡ cond b (Some (value_view e.1)) (lookup (bytes_eq key) (map pair_view es))
    by true later = refl
    by false later = later

-- the last item, by its place
pub last_at_end : {A : Type 0} (xs : List A) → slice_get xs (length xs - 1) ≡ last_or None xs
last_at_end [] = refl
last_at_end (x ∷ []) = refl
last_at_end (x ∷ y ∷ xs) = ap (slice_get (x ∷ y ∷ xs)) (sub-one (suc (suc (length xs)))) ∙ ap (slice_get (y ∷ xs)) (sym (sub-one (suc (length xs)))) ∙ last_at_end (y ∷ xs)
