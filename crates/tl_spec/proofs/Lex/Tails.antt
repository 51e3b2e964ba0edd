-- What stands after a part is a tail of what that part stands at the front of.
use Rattle.std.proofs.Common.{◌≡◌, ℕ, zero, suc, ◌+◌, ◌-◌, ◌≤◌, ◌||◌, ◌==◌, Bool, true, false, not, List, [], ◌∷◌, length, drop, Option, Some, None, refl, ap, sym, ◌∙◌, arith, length-drop, drop-drop, if◌then◌else◌, unwrap_or, drop_of_length-le}
use Rattle.std.specs.Prelude.{codes}
use Rattle.std.specs.List.{prefix_len, starts_with, take_while}
use Rattle.std.specs.Str.{str_eq_ignore_ascii_case}
use Rattle.std.proofs.lemmas.List.Sums.{prefix_len-le-length}
use Rattle.tl_spec.specs.Lex.Attribute.{Pair, attribute, attributes, next_attribute, optional_value, skip_blanks, skip_end, value}
use Rattle.tl_spec.specs.Lex.ByteClass.{ends_value, is_blank, is_closing, is_ident, is_name}
use Rattle.tl_spec.specs.Lex.Runs.{after_needle, read_many, drop_while}
use Rattle.tl_spec.specs.Lex.Token.{Nothing, Token, token_after_attributes, comment_token, declaration, doctype, markup, next_token, token_after_slash, start_tag}
use Rattle.tl_spec.proofs.Lex.Many.{many_more}
use Rattle.tl_spec.proofs.Lex.Shrinks.{if_both}

-- r is what is left of s after some bytes
abbrev pub IsTail : List ℕ → List ℕ → Type 0
IsTail r s = (n : ℕ) × (n ≤ length s) × (r ≡ drop n s)

pub same : (s : List ℕ) → IsTail s s
same s = (0, omega arith, refl)

pub then_tail : (a b c : List ℕ) → IsTail a b → IsTail b c → IsTail a c
then_tail a b c x y =
    let shorter : length b ≡ length c - y.0 = rw y.2 (length-drop y.0 c) in
    (y.0 + x.0, omega arith, x.2 ∙ ap (drop x.0) y.2 ∙ drop-drop x.0 y.0 c)

pub tail : (b : ℕ) (s : List ℕ) → IsTail s (b ∷ s)
tail b s = (1, omega arith, refl)

pub at_end : (s : List ℕ) → IsTail [] s
at_end s = (length s, omega arith, sym (drop_of_length-le s (omega arith)))

pub drop-tail : (n : ℕ) (s : List ℕ) → IsTail (drop n s) s
drop-tail zero s = (0, omega arith, refl)
drop-tail (suc n) [] = (0, omega arith, refl)
drop-tail (suc n) (b ∷ s) = then_tail (drop n s) s (b ∷ s) (drop-tail n s) (tail b s)

pub drop_while-tail : (p : ℕ → Bool) (s : List ℕ) → IsTail (drop_while p s) s
drop_while-tail p s = (prefix_len p s, prefix_len-le-length p s, refl)

pub value-tail : (s : List ℕ) → IsTail (value s).1 s
value-tail [] = same []
value-tail (b ∷ s) = if_both (λ (v : List ℕ × List ℕ). IsTail v.1 (b ∷ s)) ((b == 0x22) || (b == 0x27)) _ _
    (λ _. then_tail _ _ _ (drop_while-tail (λ c. not (c == b)) s) (tail b s)) (λ _. drop_while-tail (λ c. not (ends_value c)) (b ∷ s))

pub optional_value-tail : (s : List ℕ) → IsTail (optional_value s).1 s
optional_value-tail [] = same []
optional_value-tail (b ∷ s) = if_both (λ (v : Option (List ℕ) × List ℕ). IsTail v.1 (b ∷ s)) (b == 0x3D) _ _
    (λ _. then_tail _ _ _ (then_tail _ _ _ (value-tail (skip_blanks s)) (drop_while-tail is_blank s)) (tail b s)) (λ _. same (b ∷ s))

pub skip_end-tail : (s : List ℕ) → IsTail (skip_end s) s
skip_end-tail [] = same []
skip_end-tail (b ∷ s) = if_both (λ (v : List ℕ). IsTail v (b ∷ s)) ((b == 0x3E) || is_ident b) _ _ (λ _. same (b ∷ s)) (λ _. tail b s)

pub attribute-tail : (s : List ℕ) → IsTail (attribute s).1 s
attribute-tail s =
    then_tail _ _ _ (skip_end-tail (optional_value (skip_blanks (drop_while is_name s))).1) (then_tail _ _ _ (optional_value-tail (skip_blanks (drop_while is_name s)))
    (then_tail _ _ _ (drop_while-tail is_blank (drop_while is_name s)) (drop_while-tail is_name s)))

-- what holds of a tail that an item leaves holds of what a row of items leaves
abbrev pub LeavesTail : {A : Type 0} → (List ℕ → Option (A × List ℕ)) → Type 0
LeavesTail {A} first = (s : List ℕ) (found : A × List ℕ) → first s ≡ Some found → IsTail found.1 s

pub next_attribute-tail : LeavesTail next_attribute
next_attribute-tail [] found e = cc
next_attribute-tail (b ∷ s) found e =
    let step : (v : Bool) → (if v then None else (let a = attribute (b ∷ s) in Some (a.0, skip_blanks a.1))) ≡ Some found → IsTail found.1 (b ∷ s) = elim [
      | true ↦ λ e. cc
      | false ↦ λ e. let is : skip_blanks (attribute (b ∷ s)).1 ≡ found.1 = ap (λ (o : Option (Pair × List ℕ)). (unwrap_or o found).1) e in
          rw (← is) (then_tail _ _ _ (drop_while-tail is_blank (attribute (b ∷ s)).1) (attribute-tail (b ∷ s)))
    ] in
    step (is_closing b) e

pub many-tail : {A : Type 0} (first : List ℕ → Option (A × List ℕ)) → LeavesTail first → (n : ℕ) (s : List ℕ) → IsTail (read_many first n s).1 s
many-tail first h zero s = same s
many-tail {A} first h (suc n) s =
    let step : (r : Option (A × List ℕ)) → first s ≡ r → IsTail (many_more first n s r).1 s = elim [
      | None ↦ λ _. same s
      | Some found ↦ λ e. then_tail _ _ _ (many-tail first h n found.1) (h s found e)
    ] in
    step (first s) refl

pub token_after_slash-tail : (name : List ℕ) (pairs : List Pair) (s : List ℕ) → IsTail (token_after_slash name pairs s).1 s
token_after_slash-tail name pairs [] = same []
token_after_slash-tail name pairs (b ∷ s) = if_both (λ (v : Token × List ℕ). IsTail v.1 (b ∷ s)) (b == 0x3E) _ _ (λ _. tail b s) (λ _. same (b ∷ s))

pub closed-tail : (name : List ℕ) (pairs : List Pair) (s : List ℕ) → IsTail (token_after_attributes name pairs s).1 s
closed-tail name pairs [] = same []
closed-tail name pairs (b ∷ s) = if_both (λ (v : Token × List ℕ). IsTail v.1 (b ∷ s)) (b == 0x3E) _ _ (λ _. tail b s) (λ _. then_tail _ _ _ (token_after_slash-tail name pairs s) (tail b s))

pub start_tag-tail : (s : List ℕ) → IsTail (start_tag s).1 s
start_tag-tail s =
    then_tail _ _ _ (closed-tail (take_while is_name s) (attributes (skip_blanks (drop_while is_name s))).0 (attributes (skip_blanks (drop_while is_name s))).1)
    (then_tail _ _ _ (many-tail next_attribute next_attribute-tail (length (skip_blanks (drop_while is_name s))) (skip_blanks (drop_while is_name s)))
    (then_tail _ _ _ (drop_while-tail is_blank (drop_while is_name s)) (drop_while-tail is_name s)))

abbrev pub IfTail : List ℕ → Option (List ℕ) → Type 0
IfTail s None = Unit {0}
IfTail s (Some r) = IsTail r s

pub IfTail-more : (b : ℕ) (s : List ℕ) (o : Option (List ℕ)) → IfTail s o → IfTail (b ∷ s) o
IfTail-more b s None h = tt
IfTail-more b s (Some r) h = then_tail r s (b ∷ s) h (tail b s)

pub after-tail : (needle s : List ℕ) → IfTail s (after_needle needle s)
after-tail needle [] = tt
after-tail needle (b ∷ s) =
    let step : (v : Bool) → IfTail (b ∷ s) (elim v as (λ _. Option (List ℕ)) [ true ↦ Some (drop (length needle) (b ∷ s)) | false ↦ after_needle needle s ]) = elim [
      | true ↦ drop-tail (length needle) (b ∷ s)
      | false ↦ IfTail-more b s (after_needle needle s) (after-tail needle s)
    ] in
    step (starts_with ◌==◌ (b ∷ s) needle)

pub comment_token-tail : (whole s : List ℕ) (o : Option (List ℕ)) → IfTail s o → IsTail (comment_token whole o).1 s
comment_token-tail whole s None h = at_end s
comment_token-tail whole s (Some r) h = h

pub declaration-tail : (whole s : List ℕ) → IsTail (declaration whole s).1 s
declaration-tail whole s =
    let word_of : List ℕ = skip_blanks (drop_while is_ident s) in
    let to_word = then_tail _ _ _ (drop_while-tail is_blank (drop_while is_ident s)) (drop_while-tail is_ident s) in
    if_both (λ (v : Token × List ℕ). IsTail v.1 s) _ _ _
    (λ _. comment_token-tail whole s _ (after-tail (codes "-->") s))
    (λ _. if_both (λ (v : Token × List ℕ). IsTail v.1 s) (str_eq_ignore_ascii_case (take_while is_ident s) (codes "doctype")) (doctype word_of) (Nothing, word_of)
    (λ _. then_tail _ _ _ (drop-tail 1 (skip_blanks (drop_while is_ident word_of))) (then_tail _ _ _ (drop_while-tail is_blank (drop_while is_ident word_of)) (then_tail _ _ _ (drop_while-tail is_ident word_of) to_word)))
    (λ _. to_word))

pub markup-tail : (whole s : List ℕ) → IsTail (markup whole s).1 s
markup-tail whole [] = same []
markup-tail whole (b ∷ s) =
    if_both (λ (v : Token × List ℕ). IsTail v.1 (b ∷ s)) (b == 0x2F) _ _
    (λ _. then_tail _ _ _ (drop-tail 1 (drop_while (λ c. not (c == 0x3E)) s)) (then_tail _ _ _ (drop_while-tail (λ c. not (c == 0x3E)) s) (tail b s)))
    (λ _. if_both (λ (v : Token × List ℕ). IsTail v.1 (b ∷ s)) (b == 0x21) _ _ (λ _. then_tail _ _ _ (declaration-tail whole s) (tail b s)) (λ _. start_tag-tail (b ∷ s)))

pub next_token-tail : LeavesTail next_token
next_token-tail [] found e = cc
next_token-tail (b ∷ s) found e =
    rw (← ap (λ (o : Option (Token × List ℕ)). (unwrap_or o found).1) e)
    (if_both (λ (v : Token × List ℕ). IsTail v.1 (b ∷ s)) (b == 0x3C) _ _
    (λ _. then_tail _ _ _ (markup-tail (b ∷ s) (skip_blanks s)) (then_tail _ _ _ (drop_while-tail is_blank s) (tail b s)))
    (λ _. drop_while-tail (λ c. not (c == 0x3C)) (b ∷ s)))
