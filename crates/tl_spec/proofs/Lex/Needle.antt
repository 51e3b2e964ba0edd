-- Where a word first stands in a text.
use Rattle.std.proofs.Common.{◌≡◌, ℕ, ◌<◌, ◌≤◌, ◌==◌, Bool, true, false, List, [], ◌∷◌, ◌++◌, length, drop, Some, None, refl, ap, sym, ◌∙◌, arith, true≢false, append_assoc, length-append, append-nil, unwrap_or}
use Rattle.std.specs.List.{starts_with}
use Rattle.std.proofs.lemmas.Bool.{false_from_ne_true}
use Rattle.std.proofs.lemmas.Bool.Decides.{Decides-eqb}
use Rattle.std.proofs.lemmas.Slice.Eq.{starts_is}
use Rattle.tl_spec.specs.Lex.Grammar.{Begins, EndsWithFirst, IsNowhere}
use Rattle.tl_spec.specs.Lex.Runs.{after_needle}
use Rattle.tl_spec.proofs.Print.Comments.{after_append, from_here}

module _ (w : List ℕ) where
  pub begins-yes : (s : List ℕ) → Begins w s → starts_with ◌==◌ s w ≡ true
  begins-yes s h = (starts_is Decides-eqb s w (starts_with ◌==◌ s w) refl).1 h.0 h.1

  pub begins-parts : (s : List ℕ) → starts_with ◌==◌ s w ≡ true → s ≡ w ++ drop (length w) s
  begins-parts s h = (starts_is Decides-eqb s w (starts_with ◌==◌ s w) refl).0 h

  pub yes-begins : (s : List ℕ) → starts_with ◌==◌ s w ≡ true → Begins w s
  yes-begins s h = (drop (length w) s, begins-parts s h)

  pub begins-no : (s : List ℕ) → (Begins w s → ⊥) → starts_with ◌==◌ s w ≡ false
  begins-no s h = false_from_ne_true (starts_with ◌==◌ s w) (λ e. h (yes-begins s e))

  pub no-begins : (s : List ℕ) → starts_with ◌==◌ s w ≡ false → Begins w s → ⊥
  no-begins s e h = true≢false (sym (begins-yes s h) ∙ e)

  -- the word stands nowhere in the empty text
  not_in_nothing : 0 < length w → (xs ys : List ℕ) → [] ≡ xs ++ w ++ ys → ⊥
  not_in_nothing pos xs ys e = omega (arith, ap length e, length-append (xs ++ w) ys, length-append xs w)

  later : (b : ℕ) (s : List ℕ) → starts_with ◌==◌ (b ∷ s) w ≡ false → (xs ys : List ℕ) → b ∷ s ≡ xs ++ w ++ ys → (zs : List ℕ) × (xs ≡ b ∷ zs) × (s ≡ zs ++ w ++ ys)
  later b s fails [] ys e = absurd (no-begins (b ∷ s) fails (ys, e))
  later b s fails (x ∷ xs) ys e = (xs, cc, cc)

  -- nowhere, and not found

  pub nowhere-none : (s : List ℕ) → IsNowhere w s → after_needle w s ≡ None
  nowhere-none [] h = refl
  nowhere-none (b ∷ s) h =
      let fails = begins-no (b ∷ s) (λ f. h [] f.0 f.1) in
      ap (from_here w (b ∷ s) s) fails ∙ nowhere-none s (λ xs ys e. h (b ∷ xs) ys (ap (λ s. b ∷ s) e))

  pub none-nowhere : 0 < length w → (s : List ℕ) → after_needle w s ≡ None → IsNowhere w s
  none-nowhere pos [] h xs ys e = not_in_nothing pos xs ys e
  none-nowhere pos (b ∷ s) h xs ys e =
      let step : (v : Bool) → starts_with ◌==◌ (b ∷ s) w ≡ v → from_here w (b ∷ s) s v ≡ None → ⊥ = elim [
        | true ↦ λ _ h. cc
        | false ↦ λ fails h. let l = later b s fails xs ys e in none-nowhere pos s h l.0 ys l.2
      ] in
      step (starts_with ◌==◌ (b ∷ s) w) refl h

  -- the first, and what is found

  first-found : 0 < length w → (s xs : List ℕ) → s ≡ xs ++ w → ((xs ys : List ℕ) → s ≡ xs ++ w ++ ys → ys ≡ []) → after_needle w s ≡ Some []
  first-found pos [] xs e h = absurd (omega (arith, ap length e, length-append xs w))
  first-found pos (b ∷ s) xs e h =
      let step : (v : Bool) → starts_with ◌==◌ (b ∷ s) w ≡ v → from_here w (b ∷ s) s v ≡ Some [] = elim [
        | true ↦ λ yes. ap (λ x. Some x) (h [] (drop (length w) (b ∷ s)) (begins-parts (b ∷ s) yes))
        | false ↦ λ fails.
            let l = later b s fails xs [] (e ∙ sym (append-nil (xs ++ w))) in
            first-found pos s l.0 (l.2 ∙ append-nil (l.0 ++ w)) (λ xs ys e. h (b ∷ xs) ys (ap (λ s. b ∷ s) e))
      ] in
      step (starts_with ◌==◌ (b ∷ s) w) refl

  pub first-after : 0 < length w → (body rest : List ℕ) → EndsWithFirst w body → after_needle w (body ++ rest) ≡ Some rest
  first-after pos body rest h = after_append w body rest [] (first-found pos body h.ends.0 h.ends.1 h.first)

  -- s is a body that ends with the first, and rest
  abbrev pub FirstEnds : List ℕ → List ℕ → Type 0
  FirstEnds s rest = (body : List ℕ) × (s ≡ body ++ rest) × EndsWithFirst w body

  itself : EndsWithFirst w w
  itself = record {
    ends = ([], refl);
    first = λ xs ys e. is_empty ys (omega (arith, ap length e, length-append (xs ++ w) ys, length-append xs w));
  }
    where
      is_empty : (ys : List ℕ) → length ys ≤ 0 → ys ≡ []
      is_empty [] le = refl
      is_empty (y ∷ ys) le = absurd (omega arith)

  longer : (b : ℕ) (s rest : List ℕ) → starts_with ◌==◌ (b ∷ s) w ≡ false → FirstEnds s rest → FirstEnds (b ∷ s) rest
  longer b s rest fails h =
      let body : List ℕ = h.0 in
      let whole : b ∷ s ≡ (b ∷ body) ++ rest = ap (λ s. b ∷ s) h.1 in
      let not_here : starts_with ◌==◌ (b ∷ body) w ≡ false = begins-no (b ∷ body) (λ f. no-begins (b ∷ s) fails (f.0 ++ rest, whole ∙ ap (λ s. s ++ rest) f.1 ∙ append_assoc w f.0 rest)) in (
        b ∷ body,
        whole,
        record {
          ends = (b ∷ h.2.ends.0, ap (λ s. b ∷ s) h.2.ends.1);
          first = λ xs ys e. let l = later b body not_here xs ys e in h.2.first l.0 ys l.2;
        },
      )

  pub after-first : (s rest : List ℕ) → after_needle w s ≡ Some rest → FirstEnds s rest
  after-first [] rest e = cc
  after-first (b ∷ s) rest e =
      let step : (v : Bool) → starts_with ◌==◌ (b ∷ s) w ≡ v → from_here w (b ∷ s) s v ≡ Some rest → FirstEnds (b ∷ s) rest = elim [
        | true ↦ λ yes e. (w, begins-parts (b ∷ s) yes ∙ ap (λ r. w ++ r) (ap (λ o. unwrap_or o rest) e), itself)
        | false ↦ λ fails e. longer b s rest fails (after-first s rest e)
      ] in
      step (starts_with ◌==◌ (b ∷ s) w) refl e
