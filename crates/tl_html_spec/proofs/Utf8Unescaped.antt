-- What a text or a value in UTF-8 says is UTF-8.
use Rattle.std.proofs.Common.{◌≡◌, ℕ, ◌<◌, Bool, true, false, ◌==◌, List, [], ◌∷◌, ◌++◌, IsUtf8, codes, map, refl, ap, sym, subst, ◌∙◌, inl, inr, arith, append_assoc, append-nil}
use Rattle.std.specs.List.{list_all}
use Rattle.std.proofs.lemmas.Bool.{and_from, and_parts, cases_Bool, eqb-true}
use Rattle.std.proofs.lemmas.List.Folds.{list_all-append}
use Rattle.std.proofs.lemmas.Str.{IsUtf8-append, IsUtf8-nil}
use Rattle.tl_html_spec.specs.HtmlTokenizer.{Character, after_attribute_value, data_state, double_quoted, new_tag, tokens_from, with_attribute}
use Rattle.tl_html_spec.specs.Unescaped.{is_in_text, is_in_value, unescaped, unescaped_text, unescaped_value}
use Rattle.tl_html_spec.specs.Utf8.{AreUtf8, AreUtf8After}
use Rattle.tl_html_spec.proofs.Looked.{byte-plain}
use Rattle.tl_html_spec.proofs.Resolved.{IsEnd}
use Rattle.tl_html_spec.proofs.Seams.{unescaped_cut}
use Rattle.tl_html_spec.proofs.Texts.{less_than-IsEnd, quote-IsEnd, text_end_read, value_read}
use Rattle.tl_html_spec.proofs.Utf8Characters.{IsCharacter, all_low, by_characters, is_high, no_byte, one_byte}
use Rattle.tl_html_spec.proofs.Utf8Page.{text_utf8}

all_append : (p : ℕ → Bool) (xs ys : List ℕ) → list_all p xs ≡ true → list_all p ys ≡ true → list_all p (xs ++ ys) ≡ true
all_append p xs ys h k = list_all-append p xs ys ∙ and_from (list_all p xs) (list_all p ys) h k

-- a byte that ends each reference, and stands for itself
record Cuts (q : ℕ) : Type 0 where
  end : IsEnd q
  plain : (q == 38) ≡ false
  low : q < 128

-- of a text between such bytes, and of one that they stand in
module _ (v : Bool) (inside : ℕ → Bool) (cuts : (q : ℕ) → inside q ≡ false → Cuts q) (high : (b : ℕ) → is_high b ≡ true → inside b ≡ true)
    (says : (s : List ℕ) → IsUtf8 s → list_all inside s ≡ true → IsUtf8 (unescaped v s)) where
  abbrev Says : List ℕ → Type 0
  Says text = (front : List ℕ) → IsUtf8 front → list_all inside front ≡ true → IsUtf8 (unescaped v (front ++ text))

  all_inside : (w : List ℕ) → list_all is_high w ≡ true → list_all inside w ≡ true
  all_inside [] h = refl
  all_inside (b ∷ w) h =
      let p = and_parts (is_high b) (list_all is_high w) h in
      and_from (inside b) (list_all inside w) (high b p.0) (all_inside w p.1)

  cut : (front : List ℕ) (b : ℕ) (rest : List ℕ) → Cuts b → unescaped v (front ++ b ∷ rest) ≡ unescaped v front ++ (b ∷ unescaped v rest)
  cut front b rest c = unescaped_cut b c.end rest v front ∙ ap (λ s. unescaped v front ++ s) (byte-plain v b rest c.plain)

  says_first : (b : ℕ) (w rest : List ℕ) → IsCharacter b w → IsUtf8 rest → Says rest → Says (b ∷ (w ++ rest))
  says_first b w rest a u f = λ front h k. elim (cases_Bool (inside b)) [
    | inl y ↦ (
        let all : list_all inside (front ++ b ∷ w) ≡ true = all_append inside front (b ∷ w) k (and_from (inside b) (list_all inside w) y (all_inside w a.high)) in
        subst (λ s. IsUtf8 (unescaped v s)) (append_assoc front (b ∷ w) rest) (f (front ++ b ∷ w) (IsUtf8-append front (b ∷ w) h a.text) all))
    | inr n ↦ (
        let c = cuts b n in
        let none = a.alone c.low in
        let more : IsUtf8 (unescaped v rest) = f [] IsUtf8-nil refl in
        subst (λ x. IsUtf8 (unescaped v (front ++ b ∷ (x ++ rest)))) (sym none) (subst IsUtf8 (sym (cut front b rest c))
        (IsUtf8-append (unescaped v front) (b ∷ unescaped v rest) (says front h k) (IsUtf8-append (b ∷ []) (unescaped v rest) (one_byte b c.low) more))))
  ]

  says_all : (text : List ℕ) → IsUtf8 text → IsUtf8 (unescaped v text)
  says_all text h = by_characters Says (λ front g k. says_none front g k) says_first text h [] IsUtf8-nil refl
    where
      says_none : Says []
      says_none front g k = subst (λ s. IsUtf8 (unescaped v s)) (sym (append-nil front)) (says front g k)

-- characters that were emitted

run_said : (front s : List ℕ) → AreUtf8After front (map Character s) → IsUtf8 (front ++ s)
run_said front [] h = subst IsUtf8 (sym (append-nil front)) h
run_said front (b ∷ s) h = subst IsUtf8 (append_assoc front (b ∷ []) s) (run_said (front ++ b ∷ []) s h)

-- texts

text_says : (s : List ℕ) → IsUtf8 s → list_all is_in_text s ≡ true → IsUtf8 (unescaped false s)
text_says s h k = run_said [] (unescaped_text s) (subst AreUtf8 (text_end_read s k) (text_utf8 s h data_state tt))

text_cuts : (q : ℕ) → is_in_text q ≡ false → Cuts q
text_cuts q h = elim (cases_Bool (q == 60)) [
  | inl y ↦ subst Cuts (sym (eqb-true q 60 y)) (record { end = less_than-IsEnd; plain = refl; low = omega arith })
  | inr n ↦ absurd (let e : true ≡ false = rw n at h in cc)
]

text_high : (b : ℕ) → is_high b ≡ true → is_in_text b ≡ true
text_high b h = rw (no_byte b 60 h refl) refl

pub text_said : (text : List ℕ) → IsUtf8 text → IsUtf8 (unescaped_text text)
text_said text h = says_all false is_in_text text_cuts text_high text_says text h

-- values

value_says : (s : List ℕ) → IsUtf8 s → list_all is_in_value s ≡ true → IsUtf8 (unescaped true s)
value_says s h k =
    let text = IsUtf8-append s (codes "\">") h (all_low (codes "\">") refl) in
    let read : AreUtf8 (tokens_from (double_quoted (new_tag false) [] []) (s ++ codes "\">")) = text_utf8 (s ++ codes "\">") text (double_quoted (new_tag false) [] []) (tt, IsUtf8-nil) in
    let tag : AreUtf8 (tokens_from (after_attribute_value (with_attribute (new_tag false) [] (unescaped_value s))) (codes ">")) =
    subst AreUtf8 (value_read (new_tag false) [] s (codes ">") k) read in
    tag.1.0

nul-IsEnd : IsEnd 0
nul-IsEnd = record { alphanumeric = refl; hexdigit = refl; digit = refl; semicolon = refl; number_sign = refl; equals = refl; x = refl }

value_cuts : (q : ℕ) → is_in_value q ≡ false → Cuts q
value_cuts q h = elim (cases_Bool (q == 34)) [
  | inl y ↦ subst Cuts (sym (eqb-true q 34 y)) (record { end = quote-IsEnd; plain = refl; low = omega arith })
  | inr n ↦ elim (cases_Bool (q == 0)) [
    | inl y ↦ subst Cuts (sym (eqb-true q 0 y)) (record { end = nul-IsEnd; plain = refl; low = omega arith })
    | inr m ↦ absurd (let e : true ≡ false = rw (n, m) at h in cc)
  ]
]

value_high : (b : ℕ) → is_high b ≡ true → is_in_value b ≡ true
value_high b h = rw (no_byte b 34 h refl, no_byte b 0 h refl) refl

pub value_said : (value : List ℕ) → IsUtf8 value → IsUtf8 (unescaped_value value)
value_said value h = says_all true is_in_value value_cuts value_high value_says value h
