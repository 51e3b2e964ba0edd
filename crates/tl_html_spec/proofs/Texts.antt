-- Texts, and values between double quotes, as the tokenizer reads them.
use Rattle.std.proofs.Common.{◌≡◌, ℕ, Bool, true, false, ◌||◌, ◌==◌, List, [], ◌∷◌, ◌++◌, map, refl, ap, sym, ◌∙◌, append-nil, if◌then◌else◌}
use Rattle.std.specs.List.{list_all}
use Rattle.std.proofs.lemmas.Bool.{or_parts}
use Rattle.std.proofs.lemmas.List.{map-append}
use Rattle.tl_html_spec.specs.HtmlTokenizer.{Character, OpenTag, after_attribute_value, character_reference, char_of, data_state, double_quoted, emitting, tag_open, to, tokens_from, with_attribute}
use Rattle.tl_html_spec.specs.Unescaped.{is_in_text, is_in_value, unescaped_text, unescaped_value}
use Rattle.tl_html_spec.proofs.Resolved.{IsEnd, Reading, Rest, read}

abbrev less_than : ℕ → Bool
less_than b = b == 60

abbrev pub quote_or_nul : ℕ → Bool
quote_or_nul b = (b == 34) || (b == 0)

in-text : Reading false less_than
in-text = record {
  at = λ d. data_state;
  out = map Character;
  new = map Character;
  adds = λ d s. map-append Character d s;
  is = λ d. refl;
  flush = λ d s again. refl;
  ends = λ d. refl;
  plain = λ d b e h. ap (λ (x : Bool). if x then to (character_reference data_state) else if b == 60 then to tag_open else emitting (b ∷ []) data_state) e
      ∙ ap (λ (x : Bool). if x then to tag_open else emitting (b ∷ []) data_state) h;
  amp = λ d. refl;
  rests = λ d b. rests b (b == 38) (b == 60);
}
  where
    rests : (b : ℕ) (x y : Bool) → (if x then to (character_reference data_state) else if y then to tag_open else emitting (b ∷ []) data_state).again ≡ false
    rests b true y = refl
    rests b false true = refl
    rests b false false = refl

unfoldable pub in-value : (tag : OpenTag) (key : List ℕ) → Reading true quote_or_nul
in-value tag key = record {
  at = λ d. double_quoted tag key d;
  out = λ d. [];
  new = λ d. [];
  adds = λ d s. refl;
  is = λ d. refl;
  flush = λ d s again. refl;
  ends = λ d. refl;
  plain = λ d b e h.
      let parts = or_parts (b == 34) (b == 0) h in
      ap (λ (x : Bool). if x then to (after_attribute_value (with_attribute tag key d)) else if b == 38 then to (character_reference (double_quoted tag key d)) else to (double_quoted tag key (d ++ char_of b))) parts.0
      ∙ ap (λ (x : Bool). if x then to (character_reference (double_quoted tag key d)) else to (double_quoted tag key (d ++ char_of b))) e
      ∙ ap (λ (x : Bool). to (double_quoted tag key (d ++ (if x then 0xEF ∷ 0xBF ∷ 0xBD ∷ [] else b ∷ [])))) parts.1;
  amp = λ d. refl;
  rests = λ d b. rests d b (b == 34) (b == 38);
}
  where
    rests : (d : List ℕ) (b : ℕ) (x y : Bool) → (if x then to (after_attribute_value (with_attribute tag key d)) else if y then to (character_reference (double_quoted tag key d)) else to (double_quoted tag key (d ++ char_of b))).again ≡ false
    rests d b true y = refl
    rests d b false true = refl
    rests d b false false = refl

pub less_than-IsEnd : IsEnd 60
less_than-IsEnd = record { alphanumeric = refl; hexdigit = refl; digit = refl; semicolon = refl; number_sign = refl; equals = refl; x = refl }

pub quote-IsEnd : IsEnd 34
quote-IsEnd = record { alphanumeric = refl; hexdigit = refl; digit = refl; semicolon = refl; number_sign = refl; equals = refl; x = refl }

-- a text up to a byte that ends each reference, or the end
pub text_before : (t r : List ℕ) → list_all is_in_text t ≡ true → Rest r → tokens_from data_state (t ++ r) ≡ map Character (unescaped_text t) ++ tokens_from data_state r
unfolding in-text
text_before t r h e = read false less_than in-text r e [] t h

-- a text up to the end, or to a `<`
pub text_end_read : (t : List ℕ) → list_all is_in_text t ≡ true → tokens_from data_state t ≡ map Character (unescaped_text t)
unfolding in-text
text_end_read t h =
    ap (tokens_from data_state) (sym (append-nil t))
    ∙ read false less_than in-text [] tt [] t h
    ∙ append-nil (map Character (unescaped_text t))

pub text_read : (t r : List ℕ) → list_all is_in_text t ≡ true →
    tokens_from data_state (t ++ 60 ∷ r) ≡ map Character (unescaped_text t) ++ tokens_from data_state (60 ∷ r)
unfolding in-text
text_read t r h = read false less_than in-text (60 ∷ r) less_than-IsEnd [] t h

-- a value up to its `"`
pub value_read : (tag : OpenTag) (key v r : List ℕ) → list_all is_in_value v ≡ true →
    tokens_from (double_quoted tag key []) (v ++ 34 ∷ r) ≡ tokens_from (after_attribute_value (with_attribute tag key (unescaped_value v))) r
unfolding in-value
value_read tag key v r h = read true quote_or_nul (in-value tag key) (34 ∷ r) quote-IsEnd [] v h
