-- What is escaped is read back.
use Rattle.std.proofs.Common.{◌≡◌, ℕ, true, false, ◌==◌, List, [], ◌∷◌, ◌++◌, refl, ap, sym, ◌∙◌, inl, inr, append_assoc}
use Rattle.std.proofs.lemmas.Bool.{cases_Bool, eqb-true}
use Rattle.tl_html_spec.specs.Escapes.{escaped_text, escaped_value, text_escape, value_escape}
use Rattle.tl_html_spec.specs.Unescaped.{unescaped_text, unescaped_value}
use Rattle.tl_html_spec.proofs.Looked.{byte-plain}

pub text_byte : (b : ℕ) (r : List ℕ) → unescaped_text (text_escape b ++ r) ≡ b ∷ unescaped_text r
text_byte b r = elim (cases_Bool (b == 38)) [
  | inl y ↦ rw y (ap (λ c. c ∷ unescaped_text r) (sym (eqb-true b 38 y)))
  | inr n ↦ rw n (elim (cases_Bool (b == 60)) [
    | inl y ↦ rw y (ap (λ c. c ∷ unescaped_text r) (sym (eqb-true b 60 y)))
    | inr m ↦ rw m (byte-plain false b r n)
  ])
]

pub value_byte : (b : ℕ) (r : List ℕ) → unescaped_value (value_escape b ++ r) ≡ b ∷ unescaped_value r
value_byte b r = elim (cases_Bool (b == 38)) [
  | inl y ↦ rw y (ap (λ c. c ∷ unescaped_value r) (sym (eqb-true b 38 y)))
  | inr n ↦ rw n (elim (cases_Bool (b == 34)) [
    | inl y ↦ rw y (ap (λ c. c ∷ unescaped_value r) (sym (eqb-true b 34 y)))
    | inr m ↦ rw m (byte-plain true b r n)
  ])
]

pub text_back : (s r : List ℕ) → unescaped_text (escaped_text s ++ r) ≡ s ++ unescaped_text r
text_back [] r = refl
text_back (b ∷ s) r =
    ap unescaped_text (append_assoc (text_escape b) (escaped_text s) r)
    ∙ text_byte b (escaped_text s ++ r) ∙ ap (λ t. b ∷ t) (text_back s r)

pub value_back : (s r : List ℕ) → unescaped_value (escaped_value s ++ r) ≡ s ++ unescaped_value r
value_back [] r = refl
value_back (b ∷ s) r =
    ap unescaped_value (append_assoc (value_escape b) (escaped_value s) r)
    ∙ value_byte b (escaped_value s ++ r) ∙ ap (λ t. b ∷ t) (value_back s r)
