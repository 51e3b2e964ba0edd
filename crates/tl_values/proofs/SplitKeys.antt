-- A key that is compared part by part.
use Rattle.std.proofs.Common.{Bool, List, [], ap, arith, false, length, refl, true, ℕ, ◌++◌, ◌<◌, ◌∙◌, ◌≡◌, ◌∷◌}
use Rattle.std.specs.Char.{to_ascii_lowercase}
use Rattle.std.specs.Prelude.{nat_eq, ◌&&◌}
use Rattle.std.specs.Str.{str_eq_ignore_ascii_case}

and-assoc : (a b c : Bool) → (a && (b && c)) ≡ ((a && b) && c)
and-assoc true b c = refl
and-assoc false b c = refl

and-false : (a : Bool) → (a && false) ≡ false
and-false true = refl
and-false false = refl

pub parts : (front prefix back key : List ℕ) → length front ≡ length prefix →
    str_eq_ignore_ascii_case (front ++ back) (prefix ++ key) ≡ (str_eq_ignore_ascii_case front prefix && str_eq_ignore_ascii_case back key)
parts [] [] back key len = refl
parts [] (p ∷ prefix) back key len = absurd (omega (arith, len))
parts (f ∷ front) [] back key len = absurd (omega (arith, len))
parts (f ∷ front) (p ∷ prefix) back key len =
    let same : Bool = nat_eq (to_ascii_lowercase f) (to_ascii_lowercase p) in
    ap (λ b. same && b) (parts front prefix back key (omega (arith, len)))
    ∙ and-assoc same (str_eq_ignore_ascii_case front prefix) (str_eq_ignore_ascii_case back key)

pub too-short : (key prefix own : List ℕ) → length key < length prefix → str_eq_ignore_ascii_case key (prefix ++ own) ≡ false
too-short key [] own short = absurd (omega (arith, short))
too-short [] (p ∷ prefix) own short = refl
too-short (k ∷ key) (p ∷ prefix) own short =
    let same : Bool = nat_eq (to_ascii_lowercase k) (to_ascii_lowercase p) in
    ap (λ b. same && b) (too-short key prefix own (omega (arith, short))) ∙ and-false same
