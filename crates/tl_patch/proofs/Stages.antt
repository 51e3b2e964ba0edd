-- What a byte does in a tag after its name, by its class.
use Rattle.std.proofs.Common.{◌≡◌, ℕ, zero, suc, Bool, true, false, ◌==◌, List, [], ◌∷◌, ◌++◌, refl, ap, sym, subst, ◌∙◌, inl, inr, if◌then◌else◌, true≢false}
use Rattle.std.specs.Char.{is_ascii_alphanumeric, is_ascii_digit, is_ascii_hexdigit, to_ascii_lowercase}
use Rattle.std.specs.Prelude.{⊤}
use Rattle.std.proofs.lemmas.Bool.{cases_Bool, eqb-true}
use Rattle.tl_html_spec.specs.HtmlTokenizer.{HtmlAttribute, char_of, is_white_space}
use Rattle.tl_patch_spec.proofs.Inside.{Inner, Inside, Value, adding, after_key, after_slash, after_value, before_key, before_value, decimal_begin, decimal_number, double_quotes, ends, hexadecimal_begin, hexadecimal_number, inner, inner_settled, key_of, named_reference, no_quotes, numeric_reference, reference, single_quotes, stays, value_of, with_bytes}

abbrev pub settle : Inside → ℕ → Inner
settle i c = inner_settled 3 (inner i c) c

pub white_cases : (P : ℕ → Type 0) → P 9 → P 10 → P 12 → P 32 → (c : ℕ) → is_white_space c ≡ true → P c
white_cases P p q r s c h = elim (cases_Bool (c == 9)) [
  | inl y ↦ subst P (sym (eqb-true c 9 y)) p
  | inr n ↦ elim (cases_Bool (c == 10)) [
    | inl y ↦ subst P (sym (eqb-true c 10 y)) q
    | inr m ↦ elim (cases_Bool (c == 12)) [
      | inl y ↦ subst P (sym (eqb-true c 12 y)) r
      | inr l ↦ elim (cases_Bool (c == 32)) [
        | inl y ↦ subst P (sym (eqb-true c 32 y)) s
        | inr k ↦ (let never : false ≡ true = simp (n, m, l, k) at h in absurd (true≢false (sym never)))
      ]
    ]
  ]
]

-- a byte that is none of those that a tag is made of
pub record IsPlain (c : ℕ) : Type 0 where
  pub white : is_white_space c ≡ false
  pub slash : (c == 47) ≡ false
  pub greater : (c == 62) ≡ false

-- between attributes

abbrev pub IsBetween : Inside → Type 0
IsBetween before_key = ⊤
IsBetween after_value = ⊤
IsBetween after_slash = ⊤
IsBetween _ = ⊥

pub between_space : (i : Inside) → IsBetween i → (c : ℕ) → is_white_space c ≡ true → settle i c ≡ stays false before_key []
between_space before_key h c w = white_cases (λ d. settle before_key d ≡ stays false before_key []) refl refl refl refl c w
between_space after_value h c w = white_cases (λ d. settle after_value d ≡ stays false before_key []) refl refl refl refl c w
between_space after_slash h c w = white_cases (λ d. settle after_slash d ≡ stays false before_key []) refl refl refl refl c w
between_space _ h c w = absurd h

pub between_slash : (i : Inside) → IsBetween i → settle i 47 ≡ stays false after_slash []
between_slash before_key h = refl
between_slash after_value h = refl
between_slash after_slash h = refl
between_slash _ h = absurd h

pub between_greater : (i : Inside) → IsBetween i → (closes : Bool) × (settle i 62 ≡ ends closes [])
between_greater before_key h = (false, refl)
between_greater after_value h = (false, refl)
between_greater after_slash h = (true, refl)
between_greater _ h = absurd h

abbrev pub first_of_key : ℕ → Inner
first_of_key c = stays false (key_of (char_of (to_ascii_lowercase c))) []

-- the step of such a byte, one by one

to_key : (c : ℕ) → IsPlain c → (c == 61) ≡ false → inner before_key c ≡ stays true (key_of []) []
to_key c p n = rw (p.white, p.slash, p.greater, n) refl

in_key : (k : List ℕ) (c : ℕ) → IsPlain c → (c == 61) ≡ false → inner (key_of k) c ≡ stays false (key_of (k ++ char_of (to_ascii_lowercase c))) []
in_key k c p n = rw (p.white, p.slash, p.greater, n) refl

from_value : (c : ℕ) → IsPlain c → inner after_value c ≡ stays true before_key []
from_value c p = rw (p.white, p.slash, p.greater) refl

from_slash : (c : ℕ) → IsPlain c → inner after_slash c ≡ stays true before_key []
from_slash c p = rw p.greater refl

from_key : (k : List ℕ) (c : ℕ) → IsPlain c → (c == 61) ≡ false → inner (after_key k) c ≡ stays true (key_of []) ((k, []) ∷ [])
from_key k c p n = rw (p.white, p.slash, n, p.greater) refl

key_settled : (n : ℕ) (c : ℕ) → IsPlain c → inner_settled (suc n) (inner before_key c) c ≡ first_of_key c
key_settled n c p = elim (cases_Bool (c == 61)) [
  | inl y ↦ subst (λ d. inner_settled (suc n) (inner before_key d) d ≡ first_of_key d) (sym (eqb-true c 61 y)) refl
  | inr m ↦ ap (λ x. inner_settled (suc n) x c) (to_key c p m) ∙ by_fuel n m
]
  where
    by_fuel : (n : ℕ) → (c == 61) ≡ false → adding [] (inner_settled n (inner (key_of []) c) c) ≡ first_of_key c
    by_fuel zero m = ap (adding []) (in_key [] c p m)
    by_fuel (suc n) m = ap (λ x. adding [] (inner_settled (suc n) x c)) (in_key [] c p m)

pub between_key : (i : Inside) → IsBetween i → (c : ℕ) → IsPlain c → settle i c ≡ first_of_key c
between_key before_key h c p = key_settled 2 c p
between_key after_value h c p = ap (λ x. inner_settled 3 x c) (from_value c p) ∙ ap (adding []) (key_settled 1 c p)
between_key after_slash h c p = ap (λ x. inner_settled 3 x c) (from_slash c p) ∙ ap (adding []) (key_settled 1 c p)
between_key _ h c p = absurd h

-- in a key

pub key_space : (k : List ℕ) (c : ℕ) → is_white_space c ≡ true → settle (key_of k) c ≡ stays false (after_key k) []
key_space k c w = white_cases (λ d. settle (key_of k) d ≡ stays false (after_key k) []) refl refl refl refl c w

pub key_more : (k : List ℕ) (c : ℕ) → IsPlain c → (c == 61) ≡ false → settle (key_of k) c ≡ stays false (key_of (k ++ char_of (to_ascii_lowercase c))) []
key_more k c p n = ap (λ x. inner_settled 3 x c) (in_key k c p n)

-- after it

pub after_space : (k : List ℕ) (c : ℕ) → is_white_space c ≡ true → settle (after_key k) c ≡ stays false (after_key k) []
after_space k c w = white_cases (λ d. settle (after_key k) d ≡ stays false (after_key k) []) refl refl refl refl c w

pub after_other : (k : List ℕ) (c : ℕ) → IsPlain c → (c == 61) ≡ false → settle (after_key k) c ≡ stays false (key_of (char_of (to_ascii_lowercase c))) ((k, []) ∷ [])
after_other k c p n =
    ap (λ x. inner_settled 3 x c) (from_key k c p n) ∙ ap (λ x. adding ((k, []) ∷ []) (inner_settled 2 x c)) (in_key [] c p n)

pub value_space : (k : List ℕ) (c : ℕ) → is_white_space c ≡ true → settle (before_value k) c ≡ stays false (before_value k) []
value_space k c w = white_cases (λ d. settle (before_value k) d ≡ stays false (before_value k) []) refl refl refl refl c w

-- in a value

pub data Quote : Type 0 where
  double : Quote
  single : Quote
  bare : Quote

-- a value of this kind, with this key
abbrev pub IsOf : Quote → List ℕ → Value → Type 0
IsOf double k (double_quotes q w) = q ≡ k
IsOf single k (single_quotes q w) = q ≡ k
IsOf bare k (no_quotes q w) = q ≡ k
IsOf _ k v = ⊥

abbrev pub In : Quote → List ℕ → Inside → Type 0
In q k (value_of v) = IsOf q k v
In q k (reference v) = IsOf q k v
In q k (named_reference v buffer) = IsOf q k v
In q k (numeric_reference v) = IsOf q k v
In q k (hexadecimal_begin v x) = IsOf q k v
In q k (decimal_begin v) = IsOf q k v
In q k (hexadecimal_number v code) = IsOf q k v
In q k (decimal_number v code) = IsOf q k v
In q k _ = ⊥

with_bytes_of : (q : Quote) (k : List ℕ) (v : Value) (bytes : List ℕ) → IsOf q k v → IsOf q k (with_bytes v bytes)
with_bytes_of double k (double_quotes x w) bytes h = h
with_bytes_of single k (single_quotes x w) bytes h = h
with_bytes_of bare k (no_quotes x w) bytes h = h
with_bytes_of _ k v bytes h = absurd h

abbrev pub Keeps : Quote → List ℕ → Inner → Type 0
Keeps q k (stays again j []) = In q k j
Keeps q k _ = ⊥

abbrev pub IsMore : Quote → ℕ → Type 0
IsMore double c = (c == 34) ≡ false
IsMore single c = (c == 39) ≡ false
IsMore bare c = (is_white_space c ≡ false) × ((c == 62) ≡ false)

pick : (q : Quote) (k : List ℕ) (b : Bool) (x y : Inner) → Keeps q k x → Keeps q k y → Keeps q k (if b then x else y)
pick q k true x y h m = h
pick q k false x y h m = m

keeps_value : (q : Quote) (k : List ℕ) (v : Value) (c : ℕ) → IsMore q c → IsOf q k v → Keeps q k (inner (value_of v) c)
keeps_value double k (double_quotes x w) c n h = rw n (pick double k (c == 38) _ _ h h)
keeps_value single k (single_quotes x w) c n h = rw n (pick single k (c == 38) _ _ h h)
keeps_value bare k (no_quotes x w) c n h = rw (n.0, n.1) (pick bare k (c == 38) _ _ h h)
keeps_value _ k v c n h = absurd h

keeps_inner : (q : Quote) (k : List ℕ) (i : Inside) (c : ℕ) → IsMore q c → In q k i → Keeps q k (inner i c)
keeps_inner q k (value_of v) c n h = keeps_value q k v c n h
keeps_inner q k (reference v) c n h = pick q k (is_ascii_alphanumeric c) _ _ h (pick q k (c == 35) _ _ h (with_bytes_of q k v _ h))
keeps_inner q k (named_reference v buffer) c n h = pick q k (is_ascii_alphanumeric c) _ _ h (pick q k (c == 59) _ _ (with_bytes_of q k v _ h) (with_bytes_of q k v _ h))
keeps_inner q k (numeric_reference v) c n h = pick q k (to_ascii_lowercase c == 120) _ _ h h
keeps_inner q k (hexadecimal_begin v x) c n h = pick q k (is_ascii_hexdigit c) _ _ h (with_bytes_of q k v _ h)
keeps_inner q k (decimal_begin v) c n h = pick q k (is_ascii_digit c) _ _ h (with_bytes_of q k v _ h)
keeps_inner q k (hexadecimal_number v code) c n h = pick q k (is_ascii_hexdigit c) _ _ h (with_bytes_of q k v _ h)
keeps_inner q k (decimal_number v code) c n h = pick q k (is_ascii_digit c) _ _ h (with_bytes_of q k v _ h)
keeps_inner q k _ c n h = absurd h

keeps_adding : (q : Quote) (k : List ℕ) (x : Inner) → Keeps q k x → Keeps q k (adding [] x)
keeps_adding q k (stays again j []) h = h
keeps_adding q k (stays again j (a ∷ more)) h = absurd h
keeps_adding q k (ends closes more) h = absurd h

keeps_settled : (n : ℕ) (q : Quote) (k : List ℕ) (x : Inner) (c : ℕ) → IsMore q c → Keeps q k x → Keeps q k (inner_settled n x c)
keeps_settled zero q k x c m h = h
keeps_settled (suc n) q k (stays true j []) c m h = keeps_adding q k (inner_settled n (inner j c) c) (keeps_settled n q k (inner j c) c m (keeps_inner q k j c m h))
keeps_settled (suc n) q k (stays false j []) c m h = h
keeps_settled (suc n) q k (stays again j (a ∷ more)) c m h = absurd h
keeps_settled (suc n) q k (ends closes more) c m h = absurd h

stays_kept : (q : Quote) (k : List ℕ) (x : Inner) → Keeps q k x → (again : Bool) × (j : Inside) × (x ≡ stays again j []) × In q k j
stays_kept q k (stays again j []) h = (again, j, refl, h)
stays_kept q k (stays again j (a ∷ more)) h = absurd h
stays_kept q k (ends closes more) h = absurd h

-- a byte that doesn't end a value leaves it
pub value_more : (q : Quote) (k : List ℕ) (i : Inside) (c : ℕ) → IsMore q c → In q k i → (again : Bool) × (j : Inside) × (settle i c ≡ stays again j []) × In q k j
value_more q k i c n h = stays_kept q k (settle i c) (keeps_settled 3 q k (inner i c) c n (keeps_inner q k i c n h))

pub value_begins : (k : List ℕ) (c : ℕ) → is_white_space c ≡ false → (c == 62) ≡ false → (c == 34) ≡ false → (c == 39) ≡ false → (again : Bool) × (j : Inside) × (settle (before_value k) c ≡ stays again j []) × In bare k j
value_begins k c w g d s =
    stays_kept bare k (settle (before_value k) c)
    (rw (w, d, s, g) (keeps_adding bare k _ (keeps_settled 2 bare k _ c (w, g) (keeps_value bare k (no_quotes k []) c (w, g) refl))))

-- and the byte that ends it gives the attribute

abbrev pub said_of : List HtmlAttribute → List ℕ
said_of [] = []
said_of (a ∷ more) = a.1

abbrev pub said : Inner → List ℕ
said (stays again j more) = said_of more
said (ends closes more) = said_of more

abbrev pub Gives : Inside → List ℕ → Inner → Type 0
Gives j k x = x ≡ stays false j ((k, said x) ∷ [])

-- it gives it where it gives it with its own key
gives_key : (j i : Inside) (k x : List ℕ) (c : ℕ) → x ≡ k → Gives j x (settle i c) → (old : List ℕ) × (settle i c ≡ stays false j ((k, old) ∷ []))
gives_key j i k x c h e = (said (settle i c), subst (λ z. Gives j z (settle i c)) h e)

pub double_ends : (k : List ℕ) (i : Inside) → In double k i → (old : List ℕ) × (settle i 34 ≡ stays false after_value ((k, old) ∷ []))
double_ends k (value_of (double_quotes x w)) h = gives_key after_value (value_of (double_quotes x w)) k x 34 h refl
double_ends k (reference (double_quotes x w)) h = gives_key after_value (reference (double_quotes x w)) k x 34 h refl
double_ends k (named_reference (double_quotes x w) buffer) h = gives_key after_value (named_reference (double_quotes x w) buffer) k x 34 h refl
double_ends k (numeric_reference (double_quotes x w)) h = gives_key after_value (numeric_reference (double_quotes x w)) k x 34 h refl
double_ends k (hexadecimal_begin (double_quotes x w) y) h = gives_key after_value (hexadecimal_begin (double_quotes x w) y) k x 34 h refl
double_ends k (decimal_begin (double_quotes x w)) h = gives_key after_value (decimal_begin (double_quotes x w)) k x 34 h refl
double_ends k (hexadecimal_number (double_quotes x w) code) h = gives_key after_value (hexadecimal_number (double_quotes x w) code) k x 34 h refl
double_ends k (decimal_number (double_quotes x w) code) h = gives_key after_value (decimal_number (double_quotes x w) code) k x 34 h refl
double_ends k _ h = absurd h

pub single_ends : (k : List ℕ) (i : Inside) → In single k i → (old : List ℕ) × (settle i 39 ≡ stays false after_value ((k, old) ∷ []))
single_ends k (value_of (single_quotes x w)) h = gives_key after_value (value_of (single_quotes x w)) k x 39 h refl
single_ends k (reference (single_quotes x w)) h = gives_key after_value (reference (single_quotes x w)) k x 39 h refl
single_ends k (named_reference (single_quotes x w) buffer) h = gives_key after_value (named_reference (single_quotes x w) buffer) k x 39 h refl
single_ends k (numeric_reference (single_quotes x w)) h = gives_key after_value (numeric_reference (single_quotes x w)) k x 39 h refl
single_ends k (hexadecimal_begin (single_quotes x w) y) h = gives_key after_value (hexadecimal_begin (single_quotes x w) y) k x 39 h refl
single_ends k (decimal_begin (single_quotes x w)) h = gives_key after_value (decimal_begin (single_quotes x w)) k x 39 h refl
single_ends k (hexadecimal_number (single_quotes x w) code) h = gives_key after_value (hexadecimal_number (single_quotes x w) code) k x 39 h refl
single_ends k (decimal_number (single_quotes x w) code) h = gives_key after_value (decimal_number (single_quotes x w) code) k x 39 h refl
single_ends k _ h = absurd h

-- a value without quotes, before white space and before the end

spaced : (i : Inside) (k x : List ℕ) → x ≡ k → ((c : ℕ) → is_white_space c ≡ true → Gives before_key x (settle i c)) → (c : ℕ) → is_white_space c ≡ true → Gives before_key k (settle i c)
spaced i k x h f c w = subst (λ z. Gives before_key z (settle i c)) h (f c w)

pub bare_space : (k : List ℕ) (i : Inside) → In bare k i → (c : ℕ) → is_white_space c ≡ true → Gives before_key k (settle i c)
bare_space k (value_of (no_quotes x w)) h = spaced (value_of (no_quotes x w)) k x h (white_cases (λ d. Gives before_key x (settle (value_of (no_quotes x w)) d)) refl refl refl refl)
bare_space k (reference (no_quotes x w)) h = spaced (reference (no_quotes x w)) k x h (white_cases (λ d. Gives before_key x (settle (reference (no_quotes x w)) d)) refl refl refl refl)
bare_space k (named_reference (no_quotes x w) buffer) h = spaced (named_reference (no_quotes x w) buffer) k x h (white_cases (λ d. Gives before_key x (settle (named_reference (no_quotes x w) buffer) d)) refl refl refl refl)
bare_space k (numeric_reference (no_quotes x w)) h = spaced (numeric_reference (no_quotes x w)) k x h (white_cases (λ d. Gives before_key x (settle (numeric_reference (no_quotes x w)) d)) refl refl refl refl)
bare_space k (hexadecimal_begin (no_quotes x w) y) h = spaced (hexadecimal_begin (no_quotes x w) y) k x h (white_cases (λ d. Gives before_key x (settle (hexadecimal_begin (no_quotes x w) y) d)) refl refl refl refl)
bare_space k (decimal_begin (no_quotes x w)) h = spaced (decimal_begin (no_quotes x w)) k x h (white_cases (λ d. Gives before_key x (settle (decimal_begin (no_quotes x w)) d)) refl refl refl refl)
bare_space k (hexadecimal_number (no_quotes x w) code) h = spaced (hexadecimal_number (no_quotes x w) code) k x h (white_cases (λ d. Gives before_key x (settle (hexadecimal_number (no_quotes x w) code) d)) refl refl refl refl)
bare_space k (decimal_number (no_quotes x w) code) h = spaced (decimal_number (no_quotes x w) code) k x h (white_cases (λ d. Gives before_key x (settle (decimal_number (no_quotes x w) code) d)) refl refl refl refl)
bare_space k _ h = absurd h

-- what it says
abbrev pub bare_value : Inside → List ℕ
bare_value i = said (settle i 62)

closed : (i : Inside) (k x : List ℕ) → x ≡ k → settle i 62 ≡ ends false ((x, bare_value i) ∷ []) → settle i 62 ≡ ends false ((k, bare_value i) ∷ [])
closed i k x h e = subst (λ z. settle i 62 ≡ ends false ((z, bare_value i) ∷ [])) h e

pub bare_greater : (k : List ℕ) (i : Inside) → In bare k i → settle i 62 ≡ ends false ((k, bare_value i) ∷ [])
bare_greater k (value_of (no_quotes x w)) h = closed (value_of (no_quotes x w)) k x h refl
bare_greater k (reference (no_quotes x w)) h = closed (reference (no_quotes x w)) k x h refl
bare_greater k (named_reference (no_quotes x w) buffer) h = closed (named_reference (no_quotes x w) buffer) k x h refl
bare_greater k (numeric_reference (no_quotes x w)) h = closed (numeric_reference (no_quotes x w)) k x h refl
bare_greater k (hexadecimal_begin (no_quotes x w) y) h = closed (hexadecimal_begin (no_quotes x w) y) k x h refl
bare_greater k (decimal_begin (no_quotes x w)) h = closed (decimal_begin (no_quotes x w)) k x h refl
bare_greater k (hexadecimal_number (no_quotes x w) code) h = closed (hexadecimal_number (no_quotes x w) code) k x h refl
bare_greater k (decimal_number (no_quotes x w) code) h = closed (decimal_number (no_quotes x w) code) k x h refl
bare_greater k _ h = absurd h
