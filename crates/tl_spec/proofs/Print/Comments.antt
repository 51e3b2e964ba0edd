-- A comment, as it is read, is read again whatever follows.
use Rattle.std.proofs.Common.{◌≡◌, ℕ, ◌-◌, ◌≤◌, ◌==◌, Bool, true, false, List, [], ◌∷◌, ◌++◌, length, drop, take, Option, Some, None, refl, ap, ◌∙◌, arith, length-append, length-take, append_assoc, if◌then◌else◌}
use Rattle.std.specs.Prelude.{codes}
use Rattle.std.specs.List.{list_all, starts_with}
use Rattle.std.proofs.lemmas.List.{take-append-le, drop-append-le}
use Rattle.std.proofs.Math.Seq.{take-append_seam}
use lib.Pointwise.{pointwise, pointwise_long}
use Rattle.tl_spec.specs.Lex.Attribute.{skip_blanks}
use Rattle.tl_spec.specs.Lex.ByteClass.{is_blank}
use Rattle.tl_spec.specs.Lex.Runs.{after_needle, before_rest}
use Rattle.tl_spec.specs.Lex.Token.{Comment, comment_token, markup, next_token}
use Rattle.tl_spec.proofs.Lex.Bytes.{drop_while-append}

module _ (needle : List ℕ) where
  pub starts_same : (s r : List ℕ) → length needle ≤ length s → starts_with ◌==◌ (s ++ r) needle ≡ starts_with ◌==◌ s needle
  starts_same s r h = ap (pointwise ◌==◌ needle) (take-append-le (length needle) s r h)

  pub starts_long : (s : List ℕ) → starts_with ◌==◌ s needle ≡ true → length needle ≤ length s
  starts_long s h =
      let same = pointwise_long ◌==◌ needle (take (length needle) s) h in
      let cut = length-take (length needle) s in
      omega arith

  abbrev pub from_here : List ℕ → List ℕ → Bool → Option (List ℕ)
  from_here whole s v = elim v as (λ _. Option (List ℕ)) [ true ↦ Some (drop (length needle) whole) | false ↦ after_needle needle s ]

  pub after_long : (s rest : List ℕ) → after_needle needle s ≡ Some rest → length needle ≤ length s
  after_long [] rest e = cc
  after_long (b ∷ s) rest e =
      let step : (v : Bool) → starts_with ◌==◌ (b ∷ s) needle ≡ v → from_here (b ∷ s) s v ≡ Some rest → length needle ≤ length (b ∷ s) = elim [
        | true ↦ λ h _. starts_long (b ∷ s) h
        | false ↦ λ _ e. let le = after_long s rest e in omega arith
      ] in
      step (starts_with ◌==◌ (b ∷ s) needle) refl e

  pub after_append : (s r rest : List ℕ) → after_needle needle s ≡ Some rest → after_needle needle (s ++ r) ≡ Some (rest ++ r)
  after_append [] r rest e = cc
  after_append (b ∷ s) r rest e =
      let long = after_long (b ∷ s) rest e in
      let step : (v : Bool) → from_here (b ∷ s) s v ≡ Some rest → from_here ((b ∷ s) ++ r) (s ++ r) v ≡ Some (rest ++ r) = elim [
        | true ↦ λ e. ap (λ x. Some x) (drop-append-le (length needle) (b ∷ s) r long) ∙ ap (λ (o : Option (List ℕ)). elim o as (λ _. Option (List ℕ)) [ None ↦ None | Some x ↦ Some (x ++ r) ]) e
        | false ↦ λ e. after_append s r rest e
      ] in
      ap (from_here ((b ∷ s) ++ r) (s ++ r)) (starts_same (b ∷ s) r long) ∙ step (starts_with ◌==◌ (b ∷ s) needle) e

-- the bytes before r
pub front-append : (bytes r : List ℕ) → before_rest r (bytes ++ r) ≡ bytes
front-append bytes r =
    let len : length (bytes ++ r) - length r ≡ length bytes = let both = length-append bytes r in omega arith in
    ap (λ n. take n (bytes ++ r)) len ∙ take-append_seam bytes r

pub comment_again : (blanks body r : List ℕ) → list_all is_blank blanks ≡ true → starts_with ◌==◌ body (codes "--") ≡ true → after_needle (codes "-->") body ≡ Some [] →
    next_token ((0x3C ∷ (blanks ++ 0x21 ∷ body)) ++ r) ≡ Some (Comment (0x3C ∷ (blanks ++ 0x21 ∷ body)), r)
comment_again blanks body r all dashes ends =
    let bytes : List ℕ = 0x3C ∷ (blanks ++ 0x21 ∷ body) in
    let after_lt : skip_blanks ((blanks ++ 0x21 ∷ body) ++ r) ≡ 0x21 ∷ (body ++ r) = ap skip_blanks (append_assoc blanks (0x21 ∷ body) r) ∙ drop_while-append is_blank blanks (0x21 ∷ (body ++ r)) all refl in
    let opens : starts_with ◌==◌ (body ++ r) (codes "--") ≡ true = starts_same (codes "--") body r (starts_long (codes "--") body dashes) ∙ dashes in
    let found : after_needle (codes "-->") (body ++ r) ≡ Some r = after_append (codes "-->") body r [] ends in
    ap (λ s. Some (markup (bytes ++ r) s)) after_lt
    ∙ ap (λ x. Some x) (if_yes _ _ _ opens ∙ ap (comment_token (bytes ++ r)) found ∙ ap (λ b. (Comment b, r)) (front-append bytes r))
  where
    if_yes : {A : Type 0} (b : Bool) (x y : A) → b ≡ true → (if b then x else y) ≡ x
    if_yes b x y e = rw e refl
