-- Lists of which each has a first item.
use Rattle.std.proofs.Common.{List, ap, drop, sym, ◌≡◌, ◌↔◌, ◌∙◌, ◌∷◌}
use Rattle.std.proofs.lemmas.Option.{same_Some}
use Rattle.std.specs.Prelude.{slice_get}

cons : {A : Type 0} (x y : A) (xs ys : List A) → x ≡ y → xs ≡ ys → x ∷ xs ≡ y ∷ ys
cons x y xs ys e f = ap (λ z. z ∷ xs) e ∙ ap (λ zs. y ∷ zs) f

pub rest_same : {A : Type 0} (whole other : List A) (x y : A) (xs ys : List A) (P : Type 0) → whole ≡ x ∷ xs → other ≡ y ∷ ys → x ≡ y → (whole ≡ other) ↔ P → (xs ≡ ys) ↔ P
rest_same whole other x y xs ys P w o e h =
    (λ same. h.0 (w ∙ (cons x y xs ys e same ∙ sym o)), λ p. ap (λ (zs : List _). drop 1 zs) (sym w ∙ (h.1 p ∙ o)))

pub firsts_differ : {A : Type 0} (whole other : List A) (x y : A) (xs ys : List A) → whole ≡ x ∷ xs → other ≡ y ∷ ys → whole ≡ other → x ≡ y
firsts_differ whole other x y xs ys w o e =
    same_Some x y (ap (λ (zs : List _). slice_get zs 0) (sym w ∙ (e ∙ o)))
