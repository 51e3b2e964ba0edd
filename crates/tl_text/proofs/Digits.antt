-- Numbers, digit by digit.
use Rattle.std.proofs.Common.{◌≡◌, ℕ, zero, suc, ◌+◌, ◌*◌, ◌<◌, ◌≤◌, Bool, true, false, ◌||◌, ◌&&◌, ◌==◌, nat_lt, List, [], ◌∷◌, Option, Some, None, length, drop, slice_index_or, ◌⊎◌, refl, ap, ap₂, sym, ◌∙◌, inl, inr, arith, le_refl, if◌then◌else◌}
use Rattle.std.specs.Prelude.{encode_utf8}
use Rattle.std.proofs.lemmas.Bool.{cases_Bool, lt-ltb, ltb-true}
use Rattle.std.proofs.lemmas.List.{at_drop_more}
use Rattle.tl_html_spec.specs.HtmlTokenizer.{digit_value}
use Rattle.tl_html_spec.specs.References.{Reference, number_value, windows_1252}
use Rattle.tl_html_spec.specs.Unescaped.{number_from, one_before}
use Rattle.tl_text.specs.Inner.View.{base_of, capped, is_digit_of, number_reference}
use Rattle.tl_text.specs.declared.base.Base.{Base}
use Rattle.tl_text.specs.declared.base.Base.TheVariants.{Decimal, Hexadecimal}

-- a reference with so many bytes more before it
abbrev pub ahead : ℕ → Reference → Reference
ahead n r = record r { takes = n + r.takes }

ahead-one : (n : ℕ) (r : Reference) → ahead n (one_before r) ≡ ahead (n + 1) r
ahead-one n r = let e : n + suc r.takes ≡ (n + 1) + r.takes = omega arith in ap (λ (t : ℕ). let q : Reference = record { gives = r.gives; takes = t } in q) e

-- a number past the last character is as good as another one

past_last : (b c : Bool) (s t : List ℕ) → (if b || true || c then s else t) ≡ s
past_last true c s t = refl
past_last false c s t = refl

high-value : (x : ℕ) → 0x110000 ≤ x → number_value x ≡ encode_utf8 0xFFFD
high-value x h =
    let e : nat_lt 0x10FFFF x ≡ true = lt-ltb 0x10FFFF x (omega arith) in
    ap (λ (c : Bool). if (x == 0) || c || (nat_lt 0xD7FF x && nat_lt x 0xE000) then encode_utf8 0xFFFD else encode_utf8 (windows_1252 x)) e
    ∙ past_last (x == 0) (nat_lt 0xD7FF x && nat_lt x 0xE000) (encode_utf8 0xFFFD) (encode_utf8 (windows_1252 x))

abbrev Alike : ℕ → ℕ → Type 0
Alike x y = (x ≡ y) ⊎ ((0x110000 ≤ x) × (0x110000 ≤ y))

alike-value : (x y : ℕ) → Alike x y → number_value x ≡ number_value y
alike-value x y (inl e) = ap number_value e
alike-value x y (inr h) = high-value x h.0 ∙ sym (high-value y h.1)

grows : (base : Base) (x d : ℕ) → 0x110000 ≤ x → 0x110000 ≤ x * base_of base + d
grows Decimal x d h = omega arith
grows Hexadecimal x d h = omega arith

alike-grow : (base : Base) (x y d : ℕ) → Alike x y → Alike (x * base_of base + d) (y * base_of base + d)
alike-grow base x y d (inl e) = inl (ap (λ z. z * base_of base + d) e)
alike-grow base x y d (inr h) = inr (grows base x d h.0, grows base y d h.1)

abbrev number : Base → ℕ → List ℕ → Reference
number base code s = number_from (is_digit_of base) (base_of base) code s

alike-number : (base : Base) (x y : ℕ) (s : List ℕ) → Alike x y → number base x s ≡ number base y s
alike-number base x y [] h = ap (λ v. number_reference_of v 0) (alike-value x y h)
  where
    number_reference_of : List ℕ → ℕ → Reference
    number_reference_of v t = record { gives = v; takes = t }
alike-number base x y (b ∷ s) h =
    ap₂ (λ (p : Reference) (v : List ℕ). let q : Reference = if is_digit_of base b then one_before p else record { gives = v; takes = if b == 59 then 1 else 0 } in q)
    (alike-number base (x * base_of base + digit_value b) (y * base_of base + digit_value b) s (alike-grow base x y (digit_value b) h))
    (alike-value x y h)

capped-alike : (x : ℕ) → Alike x (capped x)
capped-alike x = here (nat_lt 0x110000 x) refl
  where
    here : (b : Bool) → nat_lt 0x110000 x ≡ b → Alike x (if b then 0x110000 else x)
    here true e = inr (let l = ltb-true 0x110000 x e in omega arith, le_refl 0x110000)
    here false e = inl refl

-- one digit more
pub digit-read : (base : Base) (s : List ℕ) (i code next : ℕ) → i < length s → is_digit_of base (slice_index_or s i 0) ≡ true →
    next ≡ capped (code * base_of base + digit_value (slice_index_or s i 0)) → ahead i (number base code (drop i s)) ≡ ahead (i + 1) (number base next (drop (i + 1) s))
digit-read base s i code next h e is =
    let b : ℕ = slice_index_or s i 0 in
    let rest : List ℕ = drop (i + 1) s in
    let sum : ℕ = code * base_of base + digit_value b in
    ap (ahead i) (at_drop_more (number base code) s i 0 h
    ∙ ap (λ (x : Bool). let q : Reference = if x then one_before (number base sum rest) else record { gives = number_value code; takes = if b == 59 then 1 else 0 } in q) e
    ∙ ap one_before (alike-number base sum (capped sum) rest (capped-alike sum) ∙ ap (λ c. number base c rest) (sym is)))
    ∙ ahead-one i (number base next rest)

-- a byte that is no digit
pub no-digit-read : (base : Base) (s : List ℕ) (i code : ℕ) (x : Bool) → i < length s → is_digit_of base (slice_index_or s i 0) ≡ false → (slice_index_or s i 0 == 59) ≡ x →
    ahead i (number base code (drop i s)) ≡ number_reference code (i + (if x then 1 else 0))
no-digit-read base s i code x h e f =
    let b : ℕ = slice_index_or s i 0 in
    let rest : List ℕ = drop (i + 1) s in
    let sum : ℕ = code * base_of base + digit_value b in
    ap (ahead i) (at_drop_more (number base code) s i 0 h
    ∙ ap (λ (y : Bool). let q : Reference = if y then one_before (number base sum rest) else record { gives = number_value code; takes = if b == 59 then 1 else 0 } in q) e
    ∙ ap (λ (y : Bool). let q : Reference = record { gives = number_value code; takes = if y then 1 else 0 } in q) f)

-- what a digit's value says

pub no-digit : (b : Bool) (v : ℕ) → ◌≡◌ {A = Option ℕ} None (if b then Some v else None) → b ≡ false
no-digit true v e = cc
no-digit false v e = refl

pub is-digit : (b : Bool) (v d : ℕ) → Some d ≡ (if b then Some v else None) → b ≡ true
is-digit true v d e = refl
is-digit false v d e = cc

pub value-is : (b : Bool) (v d : ℕ) → Some d ≡ (if b then Some v else None) → d ≡ v
value-is true v d e = cc
value-is false v d e = cc
