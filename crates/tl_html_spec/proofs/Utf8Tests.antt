-- Bytes that the tokenizer tests for are below 128.
use Rattle.std.proofs.Common.{◌≡◌, ℕ, ◌<◌, true, ◌==◌, ◌||◌, List, [], ◌∷◌, ◌++◌, map, codes, refl, ap, ◌∙◌, inl, inr, arith, ltb-true}
use Rattle.std.specs.Char.{is_ascii_alphabetic, is_ascii_alphanumeric, is_ascii_digit, is_ascii_hexdigit, to_ascii_lowercase}
use Rattle.std.specs.List.{list_all, starts_with}
use Rattle.std.specs.Str.{bytes_eq}
use Rattle.std.proofs.lemmas.Bool.{and_from, and_parts, cases_Bool, eqb-true}
use Rattle.std.proofs.lemmas.Bool.Decides.{nat_tests}
use Rattle.tl_html_spec.specs.HtmlTokenizer as T
use Rattle.tl_html_spec.specs.HtmlTokenizer.{ends_name, is_white_space}
use Rattle.tl_html_spec.proofs.Utf8Characters.{is_low}

-- what is tested for is below 128

pub space_low : (b : ℕ) → is_white_space b ≡ true → b < 128
space_low b h = grind (arith, nat_tests)

pub ending_low : (b : ℕ) → ends_name b ≡ true → b < 128
ending_low b h = grind (arith, nat_tests)

pub letter_low : (b : ℕ) → is_ascii_alphabetic b ≡ true → b < 128
letter_low b h = grind (arith, nat_tests)

pub alphanumeric_low : (b : ℕ) → is_ascii_alphanumeric b ≡ true → b < 128
alphanumeric_low b h = grind (arith, nat_tests)

pub digit_low : (b : ℕ) → is_ascii_digit b ≡ true → b < 128
digit_low b h = grind (arith, nat_tests)

pub hexdigit_low : (b : ℕ) → is_ascii_hexdigit b ≡ true → b < 128
hexdigit_low b h = grind (arith, nat_tests)

pub lower_low : (b : ℕ) → to_ascii_lowercase b < 128 → b < 128
lower_low b h = grind (arith, nat_tests)

-- what is collected after `<!`

lowered_low : (w : List ℕ) → list_all is_low (map to_ascii_lowercase w) ≡ true → list_all is_low w ≡ true
lowered_low [] h = refl
lowered_low (b ∷ w) h =
    let p = and_parts (is_low (to_ascii_lowercase b)) (list_all is_low (map to_ascii_lowercase w)) h in
    let low = lower_low b (ltb-true (to_ascii_lowercase b) 128 p.0) in
    and_from (is_low b) (list_all is_low w) (grind (arith, nat_tests)) (lowered_low w p.1)

prefix_low : (w v : List ℕ) → list_all is_low w ≡ true → starts_with ◌==◌ w v ≡ true → list_all is_low v ≡ true
prefix_low w [] h s = refl
prefix_low [] (c ∷ v) h s = absurd (cc)
prefix_low (b ∷ w) (c ∷ v) h s =
    let q = and_parts (is_low b) (list_all is_low w) h in
    let e = and_parts (c == b) (starts_with ◌==◌ w v) s in
    and_from (is_low c) (list_all is_low v) (ap is_low (eqb-true c b e.0) ∙ q.0) (prefix_low w v q.1 e.1)

begun_low : (word w : List ℕ) → list_all is_low word ≡ true → T.begins word w ≡ true → list_all is_low w ≡ true
begun_low word w h s = lowered_low w (prefix_low word (map to_ascii_lowercase w) h s)

pub either_low : (w : List ℕ) → (T.begins (codes "--") w || T.begins (codes "doctype") w) ≡ true → list_all is_low w ≡ true
either_low w o = elim (cases_Bool (T.begins (codes "--") w)) [
  | inl y ↦ begun_low (codes "--") w refl y
  | inr n ↦ begun_low (codes "doctype") w refl (rw n at o)
]

pub last_low : (w : List ℕ) (b : ℕ) → list_all is_low (w ++ b ∷ []) ≡ true → b < 128
last_low [] b h = ltb-true b 128 (and_parts (is_low b) true h).0
last_low (c ∷ w) b h = last_low w b (and_parts (is_low c) (list_all is_low (w ++ b ∷ [])) h).1

pub word_low : (v w : List ℕ) (b : ℕ) → bytes_eq (v ++ b ∷ []) w ≡ true → list_all is_low w ≡ true → b < 128
word_low [] [] b h k = absurd (cc)
word_low [] (c ∷ w) b h k =
    let e = and_parts (b == c) _ h in
    let is = eqb-true b c e.0 in
    let low = ltb-true c 128 (and_parts (is_low c) (list_all is_low w) k).0 in
    omega arith
word_low (x ∷ v) [] b h k = absurd (cc)
word_low (x ∷ v) (c ∷ w) b h k =
    word_low v w b (and_parts (x == c) _ h).1 (and_parts (is_low c) (list_all is_low w) k).1

lowered_last : (v : List ℕ) (b : ℕ) → map to_ascii_lowercase (v ++ b ∷ []) ≡ map to_ascii_lowercase v ++ to_ascii_lowercase b ∷ []
lowered_last [] b = refl
lowered_last (c ∷ v) b = ap (λ s. to_ascii_lowercase c ∷ s) (lowered_last v b)

pub doctype_low : (v : List ℕ) (b : ℕ) → bytes_eq (map to_ascii_lowercase (v ++ b ∷ [])) (codes "doctype") ≡ true → b < 128
doctype_low v b h =
    let e : bytes_eq (map to_ascii_lowercase v ++ to_ascii_lowercase b ∷ []) (codes "doctype") ≡ true = rw (lowered_last v b) at h in
    lower_low b (word_low (map to_ascii_lowercase v) (codes "doctype") (to_ascii_lowercase b) e refl)
