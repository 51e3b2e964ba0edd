-- What stands after a part is no longer than what that part stands at the front of.
use Rattle.std.proofs.Common.{◌≡◌, ℕ, zero, suc, ◌<◌, ◌≤◌, ◌||◌, ◌==◌, Bool, true, false, not, List, [], ◌∷◌, length, drop, Option, Some, None, refl, ap, arith, if◌then◌else◌, unwrap_or}
use Rattle.std.specs.Prelude.{codes}
use Rattle.std.specs.List.{starts_with, before_first, take_while}
use Rattle.std.specs.Str.{str_eq_ignore_ascii_case}
use Rattle.tl_spec.specs.Lex.Attribute.{Pair, attribute, attributes, next_attribute, optional_value, skip_blanks, skip_end, value}
use Rattle.tl_spec.specs.Lex.ByteClass.{ends_value, is_blank, is_closing, is_ident, is_name}
use Rattle.tl_spec.specs.Lex.Runs.{after_needle, read_many, drop_while}
use Rattle.tl_spec.specs.Lex.Token.{Nothing, Text, Token, token_after_attributes, comment_token, declaration, doctype, markup, next_token, token_after_slash, start_tag}
use Rattle.tl_spec.proofs.Lex.Bytes.{drop-le, drop_while-le, drop_while-lt, drop_while-no}
use Rattle.tl_spec.proofs.Lex.Many.{Shrinks, many_more}
use Rattle.tl_spec.proofs.Lex.Names.{ident-name}

-- what holds of both holds of the choice
pub if_both : {A : Type 0} (P : A → Type 0) (b : Bool) (x y : A) → (b ≡ true → P x) → (b ≡ false → P y) → P (if b then x else y)
if_both P true x y f g = f refl
if_both P false x y f g = g refl

pub value-le : (s : List ℕ) → length (value s).1 ≤ length s
value-le [] = omega arith
value-le (b ∷ s) = if_both (λ (v : List ℕ × List ℕ). length v.1 ≤ length (b ∷ s)) ((b == 0x22) || (b == 0x27)) _ _
    (λ _. let le = drop_while-le (λ c. not (c == b)) s in omega arith) (λ _. drop_while-le (λ c. not (ends_value c)) (b ∷ s))

pub optional_value-le : (s : List ℕ) → length (optional_value s).1 ≤ length s
optional_value-le [] = omega arith
optional_value-le (b ∷ s) = if_both (λ (v : Option (List ℕ) × List ℕ). length v.1 ≤ length (b ∷ s)) (b == 0x3D) _ _
    (λ _. let one = value-le (skip_blanks s) in let two = drop_while-le is_blank s in omega arith) (λ _. omega arith)

pub skip_end-le : (s : List ℕ) → length (skip_end s) ≤ length s
skip_end-le [] = omega arith
skip_end-le (b ∷ s) = if_both (λ v. length v ≤ length (b ∷ s)) ((b == 0x3E) || is_ident b) _ _ (λ _. omega arith) (λ _. omega arith)

-- an attribute that begins with neither `/` nor `>` takes something
pub attribute-lt : (b : ℕ) (s : List ℕ) → is_closing b ≡ false → length (attribute (b ∷ s)).1 < length (b ∷ s)
attribute-lt b s open_ =
    let passed : (r : List ℕ) → length (skip_end (optional_value r).1) ≤ length r = λ r.
    let one = skip_end-le (optional_value r).1 in let two = optional_value-le r in omega arith in
    let by_name : (v : Bool) → is_name b ≡ v → length (attribute (b ∷ s)).1 < length (b ∷ s) = elim [
      | true ↦ λ e. let key = drop_while-lt is_name b s e in let blanks = drop_while-le is_blank (drop_while is_name (b ∷ s)) in let one = passed (skip_blanks (drop_while is_name (b ∷ s))) in omega arith
      | false ↦ λ e. rw (drop_while-no is_name (b ∷ s) e) (
          let by_blank : (w : Bool) → is_blank b ≡ w → length (skip_end (optional_value (skip_blanks (b ∷ s))).1) < length (b ∷ s) = elim [
            | true ↦ λ f. let blanks = drop_while-lt is_blank b s f in let one = passed (skip_blanks (b ∷ s)) in omega arith
            | false ↦ λ f. rw (drop_while-no is_blank (b ∷ s) f) (if_both (λ (v : Option (List ℕ) × List ℕ). length (skip_end v.1) < length (b ∷ s)) (b == 0x3D) _ _
                (λ _. let one = skip_end-le (value (skip_blanks s)).1 in let two = value-le (skip_blanks s) in let three = drop_while-le is_blank s in omega arith)
                (λ g. if_both (λ (v : List ℕ). length v < length (b ∷ s)) ((b == 0x3E) || is_ident b) _ _ (λ h. absurd (let none = ident-name b open_ e in grind arith)) (λ h. omega arith)))
          ] in
          by_blank (is_blank b) refl)
    ] in
    by_name (is_name b) refl

pub next_attribute-shrinks : Shrinks next_attribute
next_attribute-shrinks [] found e = cc
next_attribute-shrinks (b ∷ s) found e =
    let step : (v : Bool) → is_closing b ≡ v → (if v then None else (let a = attribute (b ∷ s) in Some (a.0, skip_blanks a.1))) ≡ Some found → length found.1 < length (b ∷ s) = elim [
      | true ↦ λ f e. cc
      | false ↦ λ f e. let is : skip_blanks (attribute (b ∷ s)).1 ≡ found.1 = ap (λ (o : Option (Pair × List ℕ)). (unwrap_or o found).1) e in
          let one = attribute-lt b s f in let two = drop_while-le is_blank (attribute (b ∷ s)).1 in rw (← is) (omega arith)
    ] in
    step (is_closing b) refl e

-- what is left after a row of items is no longer
pub many-le : {A : Type 0} (first : List ℕ → Option (A × List ℕ)) → Shrinks first → (n : ℕ) (s : List ℕ) → length (read_many first n s).1 ≤ length s
many-le first h zero s = omega arith
many-le {A} first h (suc n) s =
    let step : (r : Option (A × List ℕ)) → first s ≡ r → length (many_more first n s r).1 ≤ length s = elim [
      | None ↦ λ _. omega arith
      | Some found ↦ λ e. let less = h s found e in let rest = many-le first h n found.1 in omega arith
    ] in
    step (first s) refl

pub attributes-le : (s : List ℕ) → length (attributes s).1 ≤ length s
attributes-le s = many-le next_attribute next_attribute-shrinks (length s) s

pub token_after_slash-le : (name : List ℕ) (pairs : List Pair) (s : List ℕ) → length (token_after_slash name pairs s).1 ≤ length s
token_after_slash-le name pairs [] = omega arith
token_after_slash-le name pairs (b ∷ s) = if_both (λ (v : Token × List ℕ). length v.1 ≤ length (b ∷ s)) (b == 0x3E) _ _ (λ _. omega arith) (λ _. omega arith)

pub closed-le : (name : List ℕ) (pairs : List Pair) (s : List ℕ) → length (token_after_attributes name pairs s).1 ≤ length s
closed-le name pairs [] = omega arith
closed-le name pairs (b ∷ s) = if_both (λ (v : Token × List ℕ). length v.1 ≤ length (b ∷ s)) (b == 0x3E) _ _ (λ _. omega arith) (λ _. let le = token_after_slash-le name pairs s in omega arith)

pub start_tag-le : (s : List ℕ) → length (start_tag s).1 ≤ length s
start_tag-le s =
    let one = closed-le (take_while is_name s) (attributes (skip_blanks (drop_while is_name s))).0 (attributes (skip_blanks (drop_while is_name s))).1 in
    let two = attributes-le (skip_blanks (drop_while is_name s)) in
    let three = drop_while-le is_blank (drop_while is_name s) in
    let four = drop_while-le is_name s in
    omega arith

-- what stands after a needle is no longer
abbrev pub IsLe : ℕ → Option (List ℕ) → Type 0
IsLe n None = Unit {0}
IsLe n (Some s) = length s ≤ n

pub IsLe-more : (n : ℕ) (o : Option (List ℕ)) → IsLe n o → IsLe (suc n) o
IsLe-more n None h = tt
IsLe-more n (Some s) h = omega arith

pub after-le : (needle s : List ℕ) → IsLe (length s) (after_needle needle s)
after-le needle [] = tt
after-le needle (b ∷ s) =
    let step : (v : Bool) → IsLe (length (b ∷ s)) (elim v as (λ _. Option (List ℕ)) [ true ↦ Some (drop (length needle) (b ∷ s)) | false ↦ after_needle needle s ]) = elim [
      | true ↦ drop-le (length needle) (b ∷ s)
      | false ↦ IsLe-more (length s) (after_needle needle s) (after-le needle s)
    ] in
    step (starts_with ◌==◌ (b ∷ s) needle)

pub comment_token-le : (n : ℕ) (whole : List ℕ) (o : Option (List ℕ)) → IsLe n o → length (comment_token whole o).1 ≤ n
comment_token-le n whole None h = omega arith
comment_token-le n whole (Some s) h = h

pub doctype-le : (s : List ℕ) → length (doctype s).1 ≤ length s
doctype-le s =
    let one = drop-le 1 (skip_blanks (drop_while is_ident s)) in let two = drop_while-le is_blank (drop_while is_ident s) in let three = drop_while-le is_ident s in omega arith

pub declaration-le : (whole s : List ℕ) → length (declaration whole s).1 ≤ length s
declaration-le whole s =
    let word_of = skip_blanks (drop_while is_ident s) in
    let two = drop_while-le is_blank (drop_while is_ident s) in let three = drop_while-le is_ident s in
    if_both (λ (v : Token × List ℕ). length v.1 ≤ length s) _ _ _
    (λ _. comment_token-le (length s) whole _ (after-le (codes "-->") s))
    (λ _. if_both (λ (v : Token × List ℕ). length v.1 ≤ length s) (str_eq_ignore_ascii_case (take_while is_ident s) (codes "doctype")) (doctype word_of) (Nothing, word_of) (λ _. let four = doctype-le word_of in omega arith) (λ _. omega arith))

pub markup-le : (whole s : List ℕ) → length (markup whole s).1 ≤ length s
markup-le whole [] = omega arith
markup-le whole (b ∷ s) =
    if_both (λ (v : Token × List ℕ). length v.1 ≤ length (b ∷ s)) (b == 0x2F) _ _
    (λ _. let le = drop_while-le (λ c. not (c == 0x3E)) s in let two = drop-le 1 (drop_while (λ c. not (c == 0x3E)) s) in omega arith)
    (λ _. if_both (λ (v : Token × List ℕ). length v.1 ≤ length (b ∷ s)) (b == 0x21) _ _ (λ _. let le = declaration-le whole s in omega arith) (λ _. start_tag-le (b ∷ s)))

abbrev token_at : ℕ → List ℕ → Token × List ℕ
token_at b s =
    if b == 0x3C then markup (b ∷ s) (skip_blanks s)
    else (Text (before_first (λ c. c == 0x3C) (b ∷ s)), drop_while (λ c. not (c == 0x3C)) (b ∷ s))

pub token_at-lt : (b : ℕ) (s : List ℕ) → length (token_at b s).1 < length (b ∷ s)
token_at-lt b s =
    if_both (λ (v : Token × List ℕ). length v.1 < length (b ∷ s)) (b == 0x3C) _ _
    (λ _. let one = markup-le (b ∷ s) (skip_blanks s) in let two = drop_while-le is_blank s in omega arith)
    (λ e. drop_while-lt (λ c. not (c == 0x3C)) b s (ap not e))

pub next_token-shrinks : Shrinks next_token
next_token-shrinks [] found e = cc
next_token-shrinks (b ∷ s) found e =
    let is : (token_at b s).1 ≡ found.1 = ap (λ (o : Option (Token × List ℕ)). (unwrap_or o found).1) e in
    rw (← is) (token_at-lt b s)
