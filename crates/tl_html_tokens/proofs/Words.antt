-- Words in any case.
use Rattle.std.proofs.Common.{◌≡◌, ◌<◌, ℕ, zero, suc, Bool, true, false, ◌==◌, ◌&&◌, List, [], ◌∷◌, length, take, map, refl, ap, sym, ◌∙◌, arith}
use Rattle.std.specs.Char.{to_ascii_lowercase}
use Rattle.std.specs.Str.{bytes_eq}
use Rattle.tl_html_spec.specs.HtmlTokenizer.{begins}

lower_take : (n : ℕ) (w : List ℕ) → map to_ascii_lowercase (take n w) ≡ take n (map to_ascii_lowercase w)
lower_take zero w = refl
lower_take (suc n) [] = refl
lower_take (suc n) (c ∷ w) = ap (λ t. to_ascii_lowercase c ∷ t) (lower_take n w)

lower_length : (w : List ℕ) → length (map to_ascii_lowercase w) ≡ length w
lower_length [] = refl
lower_length (c ∷ w) = ap (λ n. suc n) (lower_length w)

pub begins_is : (w r : List ℕ) → map to_ascii_lowercase w ≡ w → bytes_eq (map to_ascii_lowercase r) (map to_ascii_lowercase (take (length r) w)) ≡ begins w r
begins_is w r h =
    ap (bytes_eq (map to_ascii_lowercase r)) (lower_take (length r) w ∙ ap (take (length r)) h ∙ ap (λ n. take n w) (sym (lower_length r)))

and_false : (a b : Bool) → b ≡ false → (a && b) ≡ false
and_false true b h = h
and_false false b h = refl

pub begins_not : (w r : List ℕ) → length w < length r → begins w r ≡ false
begins_not w [] h = absurd (omega arith)
begins_not [] (x ∷ r) h = refl
begins_not (c ∷ w) (x ∷ r) h = and_false (to_ascii_lowercase x == c) _ (begins_not w r (omega arith))
