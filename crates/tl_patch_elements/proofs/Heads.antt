-- Whether a head is the innermost open tag.
use Rattle.std.proofs.Common.{◌≡◌, ℕ, false, ◌||◌, List, [], ◌∷◌, Some, None, slice_get, codes, refl, ap, ◌∙◌}
use Rattle.tl_html_spec.specs.Balanced.{Names, is_head, leading}
use Rattle.std.specs.Str.{bytes_eq}

pub other_head : (tags : Names) (name : List ℕ) → slice_get tags 0 ≡ Some name → bytes_eq name (codes "head") ≡ false → leading is_head tags ≡ 0
other_head [] name e n = refl
other_head (t ∷ tags) name e n =
    let same : t ≡ name = cc in
    let no : is_head t ≡ false = ap (λ x. bytes_eq x (codes "head") || false) same ∙ ap (λ v. v || false) n in
    rw no refl

pub no_head : (tags : Names) → slice_get tags 0 ≡ None → leading is_head tags ≡ 0
no_head [] e = refl
no_head (t ∷ tags) e = cc
