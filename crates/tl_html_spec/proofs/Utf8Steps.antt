-- The byte that begins a character leads to a state that takes the rest of it, or is the whole character.
use Rattle.std.proofs.Common.{◌≡◌, ℕ, zero, suc, ◌<◌, Bool, true, false, not, ◌==◌, ◌&&◌, ◌||◌, List, [], ◌∷◌, ◌++◌, IsUtf8, IsAscii, map, codes, refl, ap, sym, subst, ◌∙◌, inl, inr, arith, append_assoc, append-nil, if◌then◌else◌, ltb-true}
use Rattle.std.specs.Prelude.{◌+◌, ◌*◌, nat_lt}
use Rattle.std.specs.Char.{is_ascii_alphabetic, is_ascii_alphanumeric, is_ascii_digit, is_ascii_hexdigit, to_ascii_lowercase}
use Rattle.std.specs.List.{list_all, list_any}
use Rattle.std.specs.Str.{bytes_eq}
use Rattle.std.proofs.lemmas.Bool.{and_parts, cases_Bool, cond_both, eqb-true}
use Rattle.std.proofs.lemmas.Str.{IsUtf8-append, IsUtf8-from_ascii, IsUtf8-nil}
use Rattle.std.proofs.lemmas.Str.Ascii.{IsAscii-nil, IsAscii-push}
use Rattle.tl_names.specs.Elements.{is_among, rawtext_names, rcdata_names}
use Rattle.tl_html_spec.specs.References.{named_value, number_value}
use Rattle.tl_html_spec.specs.HtmlTokenizer as T
use Rattle.tl_html_spec.specs.HtmlTokenizer.{HtmlToken, Character, StartTag, EndTag, CommentToken, DoctypeToken, OpenTag, Raw, State, Step, char_of, ends_name, is_white_space, settled, step, whole_step}
use Rattle.tl_html_spec.specs.Utf8.{AreUtf8}
use Rattle.tl_html_spec.proofs.Utf8Characters.{IsCharacter, all_low, at_byte, char_after, is_low, one_byte}
use Rattle.tl_html_spec.proofs.Utf8References.{named_value_text, number_text}
use Rattle.tl_html_spec.proofs.Utf8States.{Holds, HoldsBefore, Returns, Values, begun, none_pending, pending}
use Rattle.tl_html_spec.proofs.Utf8Tokens.{both_utf8, character_utf8, comment_utf8, run_utf8, values_more}
use Rattle.tl_html_spec.proofs.Utf8Tests.{alphanumeric_low, digit_low, doctype_low, either_low, ending_low, hexdigit_low, last_low, letter_low, lower_low, space_low, word_low}

-- tags and states

with_pair : (tag : OpenTag) (key value : List ℕ) → Values tag → IsUtf8 value → Values (T.with_attribute tag key value)
with_pair tag key value h k =
    cond_both (list_any (λ (a : T.HtmlAttribute). bytes_eq a.0 key) tag.attributes) tag _ Values (λ _. h)
    (λ _. values_more tag.attributes (key, value) h k)

after_start : (name : List ℕ) → Holds (T.after_start name)
after_start name =
    cond_both (is_among rcdata_names name) _ _ Holds (λ _. tt)
    (λ _. cond_both (is_among rawtext_names name) _ _ Holds (λ _. tt)
    (λ _. cond_both (bytes_eq name (codes "script")) _ _ Holds (λ _. tt)
    (λ _. cond_both (bytes_eq name (codes "plaintext")) _ _ Holds (λ _. tt) (λ _. tt))))

after_word : (buffer : List ℕ) (s u : State) → Holds s → Holds u → Holds (T.after_word buffer s u)
after_word buffer s u h k = cond_both (bytes_eq buffer (codes "script")) s u Holds (λ _. h) (λ _. k)

module _ (b : ℕ) (w : List ℕ) (a : IsCharacter b w) where
  -- a step after which the rest of the character is taken
  abbrev Done : Step → Type 0
  Done x = AreUtf8 (x.emits ++ pending x.next w) × HoldsBefore w x.next

  -- after so many reconsumes at most
  abbrev Good : ℕ → Step → Type 0
  Good zero x = (x.again ≡ false) × Done x
  Good (suc n) x = elim x.again as (λ _. Type 0) [ false ↦ Done x | true ↦ AreUtf8 x.emits × Good n (step x.next b) ]

  stay : (n : ℕ) (s : State) (ts : List HtmlToken) → AreUtf8 (ts ++ pending s w) → HoldsBefore w s → Good n (record { next = s; emits = ts; again = false })
  stay zero s ts h i = (refl, (h, i))
  stay (suc n) s ts h i = (h, i)

  pick : (n : ℕ) (v : Bool) (x y : Step) → (v ≡ true → Good n x) → (v ≡ false → Good n y) → Good n (if v then x else y)
  pick n v x y f g = cond_both v x y (Good n) f g

  -- the byte is the whole character

  last : (n : ℕ) (s : State) (ts : List HtmlToken) → w ≡ [] → AreUtf8 ts → Holds s → Good n (record { next = s; emits = ts; again = false })
  last n s ts e h i =
      stay n s ts (subst (λ v. AreUtf8 (ts ++ pending s v)) (sym e) (subst AreUtf8 (sym (ap (λ x. ts ++ x) (none_pending s) ∙ append-nil ts)) h))
      (subst (λ v. HoldsBefore v s) (sym e) (begun s i))

  to : (n : ℕ) (s : State) → w ≡ [] → Holds s → Good n (T.to s)
  to n s e i = last n s [] e IsUtf8-nil i

  out : (n : ℕ) (bytes : List ℕ) (s : State) → w ≡ [] → IsUtf8 bytes → Holds s → Good n (T.emitting bytes s)
  out n bytes s e h i = last n s (map Character bytes) e (run_utf8 bytes h) i

  again : (n : ℕ) (s : State) → Good n (step s b) → Good (suc n) (T.again_in s)
  again n s h = (IsUtf8-nil, h)

  out_again : (n : ℕ) (bytes : List ℕ) (s : State) → IsUtf8 bytes → Good n (step s b) → Good (suc n) (T.emitting_again bytes s)
  out_again n bytes s u h = (run_utf8 bytes u, h)

  is : (c : ℕ) → nat_lt c 128 ≡ true → (b == c) ≡ true → w ≡ []
  is c l y = at_byte b c w a y l

  space : is_white_space b ≡ true → w ≡ []
  space y = a.alone (space_low b y)

  ending : ends_name b ≡ true → w ≡ []
  ending y = a.alone (ending_low b y)

  letter : is_ascii_alphabetic b ≡ true → w ≡ []
  letter y = a.alone (letter_low b y)

  emitted : (n : ℕ) (tag : OpenTag) (closes : Bool) → w ≡ [] → Values tag → Good n (T.emitted tag closes)
  emitted n tag closes e h =
      pick n tag.is_end _ _ (λ _. last n T.data_state (EndTag tag.name ∷ []) e (IsUtf8-nil, IsUtf8-nil) tt)
      (λ _. last n (T.after_start tag.name) (StartTag tag.name tag.attributes closes ∷ []) e (IsUtf8-nil, h, IsUtf8-nil) (after_start tag.name))

  ends_comment : (n : ℕ) (bytes : List ℕ) → w ≡ [] → IsUtf8 bytes → Good n (T.emitting_token (CommentToken bytes) T.data_state)
  ends_comment n bytes e h = last n T.data_state (CommentToken bytes ∷ []) e (comment_utf8 bytes h) tt

  -- texts

  in_data : (n : ℕ) → Good n (step T.data_state b)
  in_data n =
      pick n (b == 38) _ _ (λ y. to n (T.character_reference T.data_state) (is 38 refl y) tt)
      (λ _. pick n (b == 60) _ _ (λ y. to n T.tag_open (is 60 refl y) tt)
      (λ _. stay n T.data_state (Character b ∷ []) (run_utf8 (b ∷ w) a.text) tt))

  text_goes : (n : ℕ) (r : Raw) → Good n (T.emitting (char_of b) (T.raw r))
  text_goes n r = stay n (T.raw r) (map Character (char_of b)) (character_utf8 b w a) tt

  dash : (n : ℕ) (s : State) → (b == 45) ≡ true → Holds s → Good n (T.emitting (codes "-") s)
  dash n s y i = out n (codes "-") s (is 45 refl y) (all_low (codes "-") refl) i

  in_raw : (n : ℕ) (r : Raw) → Good n (step (T.raw r) b)
  in_raw n (T.rcdata name) =
      pick n (b == 38) _ _ (λ y. to n (T.character_reference (T.raw (T.rcdata name))) (is 38 refl y) tt)
      (λ _. pick n (b == 60) _ _ (λ y. to n (T.raw_less_than_sign (T.rcdata name)) (is 60 refl y) tt) (λ _. text_goes n (T.rcdata name)))
  in_raw n (T.rawtext name) =
      pick n (b == 60) _ _ (λ y. to n (T.raw_less_than_sign (T.rawtext name)) (is 60 refl y) tt) (λ _. text_goes n (T.rawtext name))
  in_raw n T.script_data =
      pick n (b == 60) _ _ (λ y. to n (T.raw_less_than_sign T.script_data) (is 60 refl y) tt) (λ _. text_goes n T.script_data)
  in_raw n T.script_data_escaped =
      pick n (b == 45) _ _ (λ y. dash n (T.raw T.script_data_escaped_dash) y tt)
      (λ _. pick n (b == 60) _ _ (λ y. to n (T.raw_less_than_sign T.script_data_escaped) (is 60 refl y) tt) (λ _. text_goes n T.script_data_escaped))
  in_raw n T.script_data_escaped_dash =
      pick n (b == 45) _ _ (λ y. dash n (T.raw T.script_data_escaped_dash_dash) y tt)
      (λ _. pick n (b == 60) _ _ (λ y. to n (T.raw_less_than_sign T.script_data_escaped) (is 60 refl y) tt) (λ _. text_goes n T.script_data_escaped))
  in_raw n T.script_data_escaped_dash_dash =
      pick n (b == 45) _ _ (λ y. dash n (T.raw T.script_data_escaped_dash_dash) y tt)
      (λ _. pick n (b == 60) _ _ (λ y. to n (T.raw_less_than_sign T.script_data_escaped) (is 60 refl y) tt)
      (λ _. pick n (b == 62) _ _ (λ y. out n (codes ">") (T.raw T.script_data) (is 62 refl y) (all_low (codes ">") refl) tt) (λ _. text_goes n T.script_data_escaped)))

  byte_out : (n : ℕ) (s : State) → b < 128 → Holds s → Good n (T.emitting (b ∷ []) s)
  byte_out n s l i = out n (b ∷ []) s (a.alone l) (one_byte b l) i

  double_escape_start : (n : ℕ) (buffer : List ℕ) → Good (suc n) (step (T.script_data_double_escape_start buffer) b)
  double_escape_start n buffer =
      pick (suc n) (ends_name b) _ _
      (λ y. byte_out (suc n) (T.after_word buffer T.script_data_double_escaped (T.raw T.script_data_escaped)) (ending_low b y) (after_word buffer _ _ tt tt))
      (λ _. pick (suc n) (is_ascii_alphabetic b) _ _ (λ y. byte_out (suc n) (T.script_data_double_escape_start (buffer ++ to_ascii_lowercase b ∷ [])) (letter_low b y) tt)
      (λ _. again n (T.raw T.script_data_escaped) (in_raw n T.script_data_escaped)))

  script_goes : (n : ℕ) → Good n (T.emitting (char_of b) T.script_data_double_escaped)
  script_goes n = stay n T.script_data_double_escaped (map Character (char_of b)) (character_utf8 b w a) tt

  less : (n : ℕ) (s : State) → (b == 60) ≡ true → Holds s → Good n (T.emitting (codes "<") s)
  less n s y i = out n (codes "<") s (is 60 refl y) (all_low (codes "<") refl) i

  double_escaped : (n : ℕ) → Good n (step T.script_data_double_escaped b)
  double_escaped n =
      pick n (b == 45) _ _ (λ y. dash n T.script_data_double_escaped_dash y tt)
      (λ _. pick n (b == 60) _ _ (λ y. less n T.script_data_double_escaped_less_than_sign y tt) (λ _. script_goes n))

  raw_again : (n : ℕ) (r : Raw) → Good (suc n) (T.emitting_again (codes "<") (T.raw r))
  raw_again n r = out_again n (codes "<") (T.raw r) (all_low (codes "<") refl) (in_raw n r)

  after_less : (n : ℕ) (r : Raw) → Good (suc (suc n)) (T.after_less_than_sign r b)
  after_less n T.script_data =
      pick (suc (suc n)) (b == 33) _ _ (λ y. out (suc (suc n)) (codes "<!") T.script_data_escape_start (is 33 refl y) (all_low (codes "<!") refl) tt)
      (λ _. raw_again (suc n) T.script_data)
  after_less n T.script_data_escaped =
      pick (suc (suc n)) (is_ascii_alphabetic b) _ _
      (λ _. out_again (suc n) (codes "<") (T.script_data_double_escape_start []) (all_low (codes "<") refl) (double_escape_start n []))
      (λ _. raw_again (suc n) T.script_data_escaped)
  after_less n (T.rcdata name) = raw_again (suc n) (T.rcdata name)
  after_less n (T.rawtext name) = raw_again (suc n) (T.rawtext name)
  after_less n T.script_data_escaped_dash = raw_again (suc n) T.script_data_escaped_dash
  after_less n T.script_data_escaped_dash_dash = raw_again (suc n) T.script_data_escaped_dash_dash

  raw_end_tag_name : (n : ℕ) (r : Raw) (buffer : List ℕ) → IsAscii buffer → Good (suc n) (step (T.raw_end_tag_name r buffer) b)
  raw_end_tag_name n r buffer h =
      pick (suc n) (is_white_space b && T.is_appropriate r buffer) _ _ (λ y. to (suc n) (T.before_attribute_name (T.own_end_tag r)) (space (and_parts _ _ y).0) tt)
      (λ _. pick (suc n) ((b == 47) && T.is_appropriate r buffer) _ _ (λ y. to (suc n) (T.self_closing_start_tag (T.own_end_tag r)) (is 47 refl (and_parts _ _ y).0) tt)
      (λ _. pick (suc n) ((b == 62) && T.is_appropriate r buffer) _ _ (λ y. emitted (suc n) (T.own_end_tag r) false (is 62 refl (and_parts _ _ y).0) tt)
      (λ _. pick (suc n) (is_ascii_alphabetic b) _ _
      (λ y. to (suc n) (T.raw_end_tag_name r (buffer ++ b ∷ [])) (letter y) (IsAscii-push buffer b h (letter_low b y)))
      (λ _. out_again n (codes "</" ++ buffer) (T.raw r) (IsUtf8-append (codes "</") buffer (all_low (codes "</") refl) (IsUtf8-from_ascii buffer h)) (in_raw n r)))))

  -- tags

  tag_name : (n : ℕ) (tag : OpenTag) → Values tag → Good n (step (T.tag_name tag) b)
  tag_name n tag h =
      pick n (is_white_space b) _ _ (λ y. to n (T.before_attribute_name tag) (space y) h)
      (λ _. pick n (b == 47) _ _ (λ y. to n (T.self_closing_start_tag tag) (is 47 refl y) h)
      (λ _. pick n (b == 62) _ _ (λ y. emitted n tag false (is 62 refl y) h) (λ _. stay n (T.tag_name (T.with_letter tag b)) [] IsUtf8-nil h)))

  after_key : (n : ℕ) (tag : OpenTag) (key : List ℕ) → Values tag → ends_name b ≡ true → Good n (step (T.after_attribute_name tag key) b)
  after_key n tag key h e =
      let v = with_pair tag key [] h IsUtf8-nil in
      pick n (is_white_space b) _ _ (λ y. to n (T.after_attribute_name tag key) (space y) h)
      (λ s. pick n (b == 47) _ _ (λ y. to n (T.self_closing_start_tag (T.with_attribute tag key [])) (is 47 refl y) v)
      (λ o. pick n (b == 61) _ _ (λ y. to n (T.before_attribute_value tag key) (is 61 refl y) h)
      (λ _. pick n (b == 62) _ _ (λ y. emitted n (T.with_attribute tag key []) false (is 62 refl y) v)
      (λ g. absurd (let none : ends_name b ≡ false = rw (s, o, g) refl in cc)))))

  attribute_name : (n : ℕ) (tag : OpenTag) (key : List ℕ) → Values tag → Good (suc n) (step (T.attribute_name tag key) b)
  attribute_name n tag key h =
      pick (suc n) (ends_name b) _ _ (λ e. again n (T.after_attribute_name tag key) (after_key n tag key h e))
      (λ _. pick (suc n) (b == 61) _ _ (λ y. to (suc n) (T.before_attribute_value tag key) (is 61 refl y) h)
      (λ _. stay (suc n) (T.attribute_name tag (key ++ char_of (to_ascii_lowercase b))) [] IsUtf8-nil h))

  new_key : (n : ℕ) (tag : OpenTag) → Values tag → ends_name b ≡ false → Good n (step (T.attribute_name tag []) b)
  new_key n tag h e =
      pick n (ends_name b) _ _ (λ y. absurd (cc))
      (λ _. pick n (b == 61) _ _ (λ y. to n (T.before_attribute_value tag []) (is 61 refl y) h)
      (λ _. stay n (T.attribute_name tag (char_of (to_ascii_lowercase b))) [] IsUtf8-nil h))

  none_ends : is_white_space b ≡ false → (b == 47) ≡ false → (b == 62) ≡ false → ends_name b ≡ false
  none_ends s o g = rw (s, o, g) refl

  before_key : (n : ℕ) (tag : OpenTag) → Values tag → Good (suc n) (step (T.before_attribute_name tag) b)
  before_key n tag h =
      pick (suc n) (is_white_space b) _ _ (λ y. to (suc n) (T.before_attribute_name tag) (space y) h)
      (λ s. pick (suc n) (b == 47) _ _ (λ y. to (suc n) (T.self_closing_start_tag tag) (is 47 refl y) h)
      (λ o. pick (suc n) (b == 62) _ _ (λ y. emitted (suc n) tag false (is 62 refl y) h)
      (λ g. pick (suc n) (b == 61) _ _ (λ y. to (suc n) (T.attribute_name tag (b ∷ [])) (is 61 refl y) h)
      (λ _. again n (T.attribute_name tag []) (new_key n tag h (none_ends s o g))))))

  past_key : (n : ℕ) (tag : OpenTag) (key : List ℕ) → Values tag → Good (suc n) (step (T.after_attribute_name tag key) b)
  past_key n tag key h =
      let v = with_pair tag key [] h IsUtf8-nil in
      pick (suc n) (is_white_space b) _ _ (λ y. to (suc n) (T.after_attribute_name tag key) (space y) h)
      (λ s. pick (suc n) (b == 47) _ _ (λ y. to (suc n) (T.self_closing_start_tag (T.with_attribute tag key [])) (is 47 refl y) v)
      (λ o. pick (suc n) (b == 61) _ _ (λ y. to (suc n) (T.before_attribute_value tag key) (is 61 refl y) h)
      (λ _. pick (suc n) (b == 62) _ _ (λ y. emitted (suc n) (T.with_attribute tag key []) false (is 62 refl y) v)
      (λ g. again n (T.attribute_name (T.with_attribute tag key []) []) (new_key n (T.with_attribute tag key []) v (none_ends s o g))))))

  -- values

  double_quoted : (n : ℕ) (tag : OpenTag) (key value : List ℕ) → Values tag → IsUtf8 value → Good n (step (T.double_quoted tag key value) b)
  double_quoted n tag key value h k =
      pick n (b == 34) _ _ (λ y. to n (T.after_attribute_value (T.with_attribute tag key value)) (is 34 refl y) (with_pair tag key value h k))
      (λ _. pick n (b == 38) _ _ (λ y. to n (T.character_reference (T.double_quoted tag key value)) (is 38 refl y) (h, k))
      (λ _. stay n (T.double_quoted tag key (value ++ char_of b)) [] IsUtf8-nil (h, char_after value b w k a)))

  single_quoted : (n : ℕ) (tag : OpenTag) (key value : List ℕ) → Values tag → IsUtf8 value → Good n (step (T.single_quoted tag key value) b)
  single_quoted n tag key value h k =
      pick n (b == 39) _ _ (λ y. to n (T.after_attribute_value (T.with_attribute tag key value)) (is 39 refl y) (with_pair tag key value h k))
      (λ _. pick n (b == 38) _ _ (λ y. to n (T.character_reference (T.single_quoted tag key value)) (is 38 refl y) (h, k))
      (λ _. stay n (T.single_quoted tag key (value ++ char_of b)) [] IsUtf8-nil (h, char_after value b w k a)))

  unquoted : (n : ℕ) (tag : OpenTag) (key value : List ℕ) → Values tag → IsUtf8 value → Good n (step (T.unquoted tag key value) b)
  unquoted n tag key value h k =
      pick n (is_white_space b) _ _ (λ y. to n (T.before_attribute_name (T.with_attribute tag key value)) (space y) (with_pair tag key value h k))
      (λ _. pick n (b == 38) _ _ (λ y. to n (T.character_reference (T.unquoted tag key value)) (is 38 refl y) (h, k))
      (λ _. pick n (b == 62) _ _ (λ y. emitted n (T.with_attribute tag key value) false (is 62 refl y) (with_pair tag key value h k))
      (λ _. stay n (T.unquoted tag key (value ++ char_of b)) [] IsUtf8-nil (h, char_after value b w k a))))

  before_value : (n : ℕ) (tag : OpenTag) (key : List ℕ) → Values tag → Good (suc n) (step (T.before_attribute_value tag key) b)
  before_value n tag key h =
      pick (suc n) (is_white_space b) _ _ (λ y. to (suc n) (T.before_attribute_value tag key) (space y) h)
      (λ _. pick (suc n) (b == 34) _ _ (λ y. to (suc n) (T.double_quoted tag key []) (is 34 refl y) (h, IsUtf8-nil))
      (λ _. pick (suc n) (b == 39) _ _ (λ y. to (suc n) (T.single_quoted tag key []) (is 39 refl y) (h, IsUtf8-nil))
      (λ _. pick (suc n) (b == 62) _ _ (λ y. emitted (suc n) (T.with_attribute tag key []) false (is 62 refl y) (with_pair tag key [] h IsUtf8-nil))
      (λ _. again n (T.unquoted tag key []) (unquoted n tag key [] h IsUtf8-nil)))))

  after_value : (n : ℕ) (tag : OpenTag) → Values tag → Good (suc (suc n)) (step (T.after_attribute_value tag) b)
  after_value n tag h =
      pick (suc (suc n)) (is_white_space b) _ _ (λ y. to (suc (suc n)) (T.before_attribute_name tag) (space y) h)
      (λ _. pick (suc (suc n)) (b == 47) _ _ (λ y. to (suc (suc n)) (T.self_closing_start_tag tag) (is 47 refl y) h)
      (λ _. pick (suc (suc n)) (b == 62) _ _ (λ y. emitted (suc (suc n)) tag false (is 62 refl y) h)
      (λ _. again (suc n) (T.before_attribute_name tag) (before_key n tag h))))

  self_closing : (n : ℕ) (tag : OpenTag) → Values tag → Good (suc (suc n)) (step (T.self_closing_start_tag tag) b)
  self_closing n tag h =
      pick (suc (suc n)) (b == 62) _ _ (λ y. emitted (suc (suc n)) tag true (is 62 refl y) h)
      (λ _. again (suc n) (T.before_attribute_name tag) (before_key n tag h))

  -- comments

  with_codes : (bytes more : List ℕ) → IsUtf8 bytes → list_all is_low more ≡ true → IsUtf8 (bytes ++ more)
  with_codes bytes more h l = IsUtf8-append bytes more h (all_low more l)

  with_byte : (bytes : List ℕ) (c : ℕ) → IsUtf8 bytes → nat_lt c 128 ≡ true → (b == c) ≡ true → IsUtf8 (bytes ++ b ∷ [])
  with_byte bytes c h l y =
      let e = eqb-true b c y in
      let low = ltb-true c 128 l in
      IsUtf8-append bytes (b ∷ []) h (one_byte b (omega arith))

  comment : (n : ℕ) (bytes : List ℕ) → IsUtf8 bytes → Good n (step (T.comment bytes) b)
  comment n bytes h =
      pick n (b == 60) _ _ (λ y. to n (T.comment_less_than_sign (bytes ++ b ∷ [])) (is 60 refl y) (with_byte bytes 60 h refl y))
      (λ _. pick n (b == 45) _ _ (λ y. to n (T.comment_end_dash bytes) (is 45 refl y) h)
      (λ _. stay n (T.comment (bytes ++ char_of b)) [] IsUtf8-nil (char_after bytes b w h a)))

  less_than_sign : (n : ℕ) (bytes : List ℕ) → IsUtf8 bytes → Good (suc n) (step (T.comment_less_than_sign bytes) b)
  less_than_sign n bytes h =
      pick (suc n) (b == 33) _ _ (λ y. to (suc n) (T.comment_less_than_sign_bang (bytes ++ b ∷ [])) (is 33 refl y) (with_byte bytes 33 h refl y))
      (λ _. pick (suc n) (b == 60) _ _ (λ y. to (suc n) (T.comment_less_than_sign (bytes ++ b ∷ [])) (is 60 refl y) (with_byte bytes 60 h refl y))
      (λ _. again n (T.comment bytes) (comment n bytes h)))

  bang : (n : ℕ) (bytes : List ℕ) → IsUtf8 bytes → Good (suc n) (step (T.comment_less_than_sign_bang bytes) b)
  bang n bytes h =
      pick (suc n) (b == 45) _ _ (λ y. to (suc n) (T.comment_less_than_sign_bang_dash bytes) (is 45 refl y) h) (λ _. again n (T.comment bytes) (comment n bytes h))

  end_dash : (n : ℕ) (bytes : List ℕ) → IsUtf8 bytes → Good (suc n) (step (T.comment_end_dash bytes) b)
  end_dash n bytes h =
      pick (suc n) (b == 45) _ _ (λ y. to (suc n) (T.comment_end bytes) (is 45 refl y) h)
      (λ _. again n (T.comment (bytes ++ codes "-")) (comment n (bytes ++ codes "-") (with_codes bytes (codes "-") h refl)))

  end_of : (n : ℕ) (bytes : List ℕ) → IsUtf8 bytes → Good (suc n) (step (T.comment_end bytes) b)
  end_of n bytes h =
      pick (suc n) (b == 62) _ _ (λ y. ends_comment (suc n) bytes (is 62 refl y) h)
      (λ _. pick (suc n) (b == 33) _ _ (λ y. to (suc n) (T.comment_end_bang bytes) (is 33 refl y) h)
      (λ _. pick (suc n) (b == 45) _ _ (λ y. to (suc n) (T.comment_end (bytes ++ codes "-")) (is 45 refl y) (with_codes bytes (codes "-") h refl))
      (λ _. again n (T.comment (bytes ++ codes "--")) (comment n (bytes ++ codes "--") (with_codes bytes (codes "--") h refl)))))

  end_bang : (n : ℕ) (bytes : List ℕ) → IsUtf8 bytes → Good (suc n) (step (T.comment_end_bang bytes) b)
  end_bang n bytes h =
      pick (suc n) (b == 45) _ _ (λ y. to (suc n) (T.comment_end_dash (bytes ++ codes "--!")) (is 45 refl y) (with_codes bytes (codes "--!") h refl))
      (λ _. pick (suc n) (b == 62) _ _ (λ y. ends_comment (suc n) bytes (is 62 refl y) h)
      (λ _. again n (T.comment (bytes ++ codes "--!")) (comment n (bytes ++ codes "--!") (with_codes bytes (codes "--!") h refl))))

  comment_start : (n : ℕ) → Good (suc n) (step T.comment_start b)
  comment_start n =
      pick (suc n) (b == 45) _ _ (λ y. to (suc n) T.comment_start_dash (is 45 refl y) tt)
      (λ _. pick (suc n) (b == 62) _ _ (λ y. ends_comment (suc n) [] (is 62 refl y) IsUtf8-nil) (λ _. again n (T.comment []) (comment n [] IsUtf8-nil)))

  comment_start_dash : (n : ℕ) → Good (suc n) (step T.comment_start_dash b)
  comment_start_dash n =
      pick (suc n) (b == 45) _ _ (λ y. to (suc n) (T.comment_end []) (is 45 refl y) IsUtf8-nil)
      (λ _. pick (suc n) (b == 62) _ _ (λ y. ends_comment (suc n) [] (is 62 refl y) IsUtf8-nil)
      (λ _. again n (T.comment (codes "-")) (comment n (codes "-") (all_low (codes "-") refl))))

  bogus : (n : ℕ) (bytes : List ℕ) → IsUtf8 bytes → Good n (step (T.bogus_comment bytes) b)
  bogus n bytes h =
      pick n (b == 62) _ _ (λ y. ends_comment n bytes (is 62 refl y) h)
      (λ _. stay n (T.bogus_comment (bytes ++ char_of b)) [] IsUtf8-nil (char_after bytes b w h a))

  declaration : (n : ℕ) (buffer : List ℕ) → IsUtf8 buffer → Good (suc n) (step (T.markup_declaration_open buffer) b)
  declaration n buffer h =
      let more : List ℕ = buffer ++ b ∷ [] in
      pick (suc n) (bytes_eq more (codes "--")) _ _ (λ y. to (suc n) T.comment_start (a.alone (word_low buffer (codes "--") b y refl)) tt)
      (λ _. pick (suc n) (bytes_eq (map to_ascii_lowercase more) (codes "doctype")) _ _ (λ y. to (suc n) T.doctype (a.alone (doctype_low buffer b y)) tt)
      (λ _. pick (suc n) (T.begins (codes "--") more || T.begins (codes "doctype") more) _ _
      (λ o. to (suc n) (T.markup_declaration_open more) (a.alone (last_low buffer b (either_low more o))) (all_low more (either_low more o)))
      (λ _. again n (T.bogus_comment buffer) (bogus n buffer h))))

  -- references

  flushed : (n : ℕ) (s : State) (bytes : List ℕ) → w ≡ [] → IsUtf8 bytes → Returns s → Good n (T.flushed s bytes false)
  flushed n T.data_state bytes e u h = out n bytes T.data_state e u tt
  flushed n (T.raw r) bytes e u h = out n bytes (T.raw r) e u tt
  flushed n (T.double_quoted tag key value) bytes e u h = to n (T.double_quoted tag key (value ++ bytes)) e (h.0, IsUtf8-append value bytes h.1 u)
  flushed n (T.single_quoted tag key value) bytes e u h = to n (T.single_quoted tag key (value ++ bytes)) e (h.0, IsUtf8-append value bytes h.1 u)
  flushed n (T.unquoted tag key value) bytes e u h = to n (T.unquoted tag key (value ++ bytes)) e (h.0, IsUtf8-append value bytes h.1 u)
  flushed n _ bytes e u h = absurd h

  flushed_again : (n : ℕ) (s : State) (bytes : List ℕ) → IsUtf8 bytes → Returns s → Good (suc n) (T.flushed s bytes true)
  flushed_again n T.data_state bytes u h = out_again n bytes T.data_state u (in_data n)
  flushed_again n (T.raw r) bytes u h = out_again n bytes (T.raw r) u (in_raw n r)
  flushed_again n (T.double_quoted tag key value) bytes u h =
      again n (T.double_quoted tag key (value ++ bytes)) (double_quoted n tag key (value ++ bytes) h.0 (IsUtf8-append value bytes h.1 u))
  flushed_again n (T.single_quoted tag key value) bytes u h =
      again n (T.single_quoted tag key (value ++ bytes)) (single_quoted n tag key (value ++ bytes) h.0 (IsUtf8-append value bytes h.1 u))
  flushed_again n (T.unquoted tag key value) bytes u h =
      again n (T.unquoted tag key (value ++ bytes)) (unquoted n tag key (value ++ bytes) h.0 (IsUtf8-append value bytes h.1 u))
  flushed_again n _ bytes u h = absurd h

  -- a `;` goes with its reference, and any other byte is read once more
  number_ends : (n : ℕ) (s : State) (code : ℕ) → Returns s → Good (suc n) (T.flushed s (number_value code) (not (b == 59)))
  number_ends n s code h = elim (cases_Bool (b == 59)) [
    | inl y ↦ rw y (flushed (suc n) s (number_value code) (is 59 refl y) (number_text code) h)
    | inr m ↦ rw m (flushed_again n s (number_value code) (number_text code) h)
  ]

  named_letter : (n : ℕ) (s : State) (buffer : List ℕ) → Returns s → IsAscii buffer → is_ascii_alphanumeric b ≡ true → Good n (step (T.named_character_reference s buffer) b)
  named_letter n s buffer h k l =
      pick n (is_ascii_alphanumeric b) _ _
      (λ _. to n (T.named_character_reference s (buffer ++ b ∷ [])) (a.alone (alphanumeric_low b l)) (h, IsAscii-push buffer b k (alphanumeric_low b l)))
      (λ m. absurd (cc))

  named : (n : ℕ) (s : State) (buffer : List ℕ) → Returns s → IsAscii buffer → Good (suc n) (step (T.named_character_reference s buffer) b)
  named n s buffer h k =
      pick (suc n) (is_ascii_alphanumeric b) _ _
      (λ l. to (suc n) (T.named_character_reference s (buffer ++ b ∷ [])) (a.alone (alphanumeric_low b l)) (h, IsAscii-push buffer b k (alphanumeric_low b l)))
      (λ _. pick (suc n) (b == 59) _ _
      (λ y. let e = eqb-true b 59 y in
      flushed (suc n) s (named_value (T.is_value s) (buffer ++ b ∷ []) []) (is 59 refl y)
      (named_value_text (T.is_value s) (buffer ++ b ∷ []) [] (IsAscii-push buffer b k (omega arith))) h)
      (λ _. flushed_again n s (named_value (T.is_value s) buffer (b ∷ [])) (named_value_text (T.is_value s) buffer (b ∷ []) k) h))

  reference : (n : ℕ) (s : State) → Returns s → Good (suc n) (step (T.character_reference s) b)
  reference n s h =
      pick (suc n) (is_ascii_alphanumeric b) _ _ (λ l. again n (T.named_character_reference s []) (named_letter n s [] h IsAscii-nil l))
      (λ _. pick (suc n) (b == 35) _ _ (λ y. to (suc n) (T.numeric_character_reference s) (is 35 refl y) h)
      (λ _. flushed_again n s (codes "&") (all_low (codes "&") refl) h))

  hexadecimal : (n : ℕ) (s : State) (code : ℕ) → Returns s → Good (suc n) (step (T.hexadecimal s code) b)
  hexadecimal n s code h =
      pick (suc n) (is_ascii_hexdigit b) _ _ (λ l. to (suc n) (T.hexadecimal s (code * 16 + T.digit_value b)) (a.alone (hexdigit_low b l)) h)
      (λ _. number_ends n s code h)

  decimal : (n : ℕ) (s : State) (code : ℕ) → Returns s → Good (suc n) (step (T.decimal s code) b)
  decimal n s code h =
      pick (suc n) (is_ascii_digit b) _ _ (λ l. to (suc n) (T.decimal s (code * 10 + T.digit_value b)) (a.alone (digit_low b l)) h)
      (λ _. number_ends n s code h)

  hexadecimal_digit : (n : ℕ) (s : State) → Returns s → is_ascii_hexdigit b ≡ true → Good n (step (T.hexadecimal s 0) b)
  hexadecimal_digit n s h l =
      pick n (is_ascii_hexdigit b) _ _ (λ _. to n (T.hexadecimal s (0 * 16 + T.digit_value b)) (a.alone (hexdigit_low b l)) h) (λ m. absurd (cc))

  decimal_digit : (n : ℕ) (s : State) → Returns s → is_ascii_digit b ≡ true → Good n (step (T.decimal s 0) b)
  decimal_digit n s h l =
      pick n (is_ascii_digit b) _ _ (λ _. to n (T.decimal s (0 * 10 + T.digit_value b)) (a.alone (digit_low b l)) h) (λ m. absurd (cc))

  hexadecimal_start : (n : ℕ) (s : State) (x : ℕ) → Returns s → x < 128 → Good (suc n) (step (T.hexadecimal_start s x) b)
  hexadecimal_start n s x h k =
      pick (suc n) (is_ascii_hexdigit b) _ _ (λ l. again n (T.hexadecimal s 0) (hexadecimal_digit n s h l))
      (λ _. flushed_again n s (codes "&#" ++ x ∷ []) (IsUtf8-append (codes "&#") (x ∷ []) (all_low (codes "&#") refl) (one_byte x k)) h)

  decimal_start : (n : ℕ) (s : State) → Returns s → Good (suc n) (step (T.decimal_start s) b)
  decimal_start n s h =
      pick (suc n) (is_ascii_digit b) _ _ (λ l. again n (T.decimal s 0) (decimal_digit n s h l)) (λ _. flushed_again n s (codes "&#") (all_low (codes "&#") refl) h)

  numeric : (n : ℕ) (s : State) → Returns s → Good (suc (suc n)) (step (T.numeric_character_reference s) b)
  numeric n s h =
      pick (suc (suc n)) (to_ascii_lowercase b == 120) _ _
      (λ y. let e = eqb-true (to_ascii_lowercase b) 120 y in
      let low = lower_low b (omega arith) in
      to (suc (suc n)) (T.hexadecimal_start s b) (a.alone low) (h, low))
      (λ _. again (suc n) (T.decimal_start s) (decimal_start n s h))

  -- each state

  new_name : (n : ℕ) (is_end : Bool) → Good n (step (T.tag_name (T.new_tag is_end)) b)
  new_name n is_end = tag_name n (T.new_tag is_end) tt

  step_good : (s : State) → Holds s → Good 2 (step s b)
  step_good T.data_state h = in_data 2
  step_good (T.raw r) h = in_raw 2 r
  step_good T.plaintext h = stay 2 T.plaintext (map Character (char_of b)) (character_utf8 b w a) tt
  step_good T.tag_open h =
      pick 2 (b == 33) _ _ (λ y. to 2 (T.markup_declaration_open []) (is 33 refl y) IsUtf8-nil)
      (λ _. pick 2 (b == 47) _ _ (λ y. to 2 T.end_tag_open (is 47 refl y) tt)
      (λ _. pick 2 (is_ascii_alphabetic b) _ _ (λ _. again 1 (T.tag_name (T.new_tag false)) (new_name 1 false))
      (λ _. pick 2 (b == 63) _ _ (λ _. again 1 (T.bogus_comment []) (bogus 1 [] IsUtf8-nil))
      (λ _. out_again 1 (codes "<") T.data_state (all_low (codes "<") refl) (in_data 1)))))
  step_good T.end_tag_open h =
      pick 2 (is_ascii_alphabetic b) _ _ (λ _. again 1 (T.tag_name (T.new_tag true)) (new_name 1 true))
      (λ _. pick 2 (b == 62) _ _ (λ y. to 2 T.data_state (is 62 refl y) tt) (λ _. again 1 (T.bogus_comment []) (bogus 1 [] IsUtf8-nil)))
  step_good (T.tag_name tag) h = tag_name 2 tag h
  step_good (T.raw_less_than_sign r) h = pick 2 (b == 47) _ _ (λ y. to 2 (T.raw_end_tag_open r) (is 47 refl y) tt) (λ _. after_less 0 r)
  step_good (T.raw_end_tag_open r) h =
      pick 2 (is_ascii_alphabetic b) _ _ (λ _. again 1 (T.raw_end_tag_name r []) (raw_end_tag_name 0 r [] IsAscii-nil))
      (λ _. out_again 1 (codes "</") (T.raw r) (all_low (codes "</") refl) (in_raw 1 r))
  step_good (T.raw_end_tag_name r buffer) h = raw_end_tag_name 1 r buffer h
  step_good T.script_data_escape_start h =
      pick 2 (b == 45) _ _ (λ y. dash 2 T.script_data_escape_start_dash y tt) (λ _. again 1 (T.raw T.script_data) (in_raw 1 T.script_data))
  step_good T.script_data_escape_start_dash h =
      pick 2 (b == 45) _ _ (λ y. dash 2 (T.raw T.script_data_escaped_dash_dash) y tt) (λ _. again 1 (T.raw T.script_data) (in_raw 1 T.script_data))
  step_good (T.script_data_double_escape_start buffer) h = double_escape_start 1 buffer
  step_good T.script_data_double_escaped h = double_escaped 2
  step_good T.script_data_double_escaped_dash h =
      pick 2 (b == 45) _ _ (λ y. dash 2 T.script_data_double_escaped_dash_dash y tt)
      (λ _. pick 2 (b == 60) _ _ (λ y. less 2 T.script_data_double_escaped_less_than_sign y tt) (λ _. script_goes 2))
  step_good T.script_data_double_escaped_dash_dash h =
      pick 2 (b == 45) _ _ (λ y. dash 2 T.script_data_double_escaped_dash_dash y tt)
      (λ _. pick 2 (b == 60) _ _ (λ y. less 2 T.script_data_double_escaped_less_than_sign y tt)
      (λ _. pick 2 (b == 62) _ _ (λ y. out 2 (codes ">") (T.raw T.script_data) (is 62 refl y) (all_low (codes ">") refl) tt) (λ _. script_goes 2)))
  step_good T.script_data_double_escaped_less_than_sign h =
      pick 2 (b == 47) _ _ (λ y. out 2 (codes "/") (T.script_data_double_escape_end []) (is 47 refl y) (all_low (codes "/") refl) tt)
      (λ _. again 1 T.script_data_double_escaped (double_escaped 1))
  step_good (T.script_data_double_escape_end buffer) h =
      pick 2 (ends_name b) _ _
      (λ y. byte_out 2 (T.after_word buffer (T.raw T.script_data_escaped) T.script_data_double_escaped) (ending_low b y) (after_word buffer _ _ tt tt))
      (λ _. pick 2 (is_ascii_alphabetic b) _ _ (λ y. byte_out 2 (T.script_data_double_escape_end (buffer ++ to_ascii_lowercase b ∷ [])) (letter_low b y) tt)
      (λ _. again 1 T.script_data_double_escaped (double_escaped 1)))
  step_good (T.before_attribute_name tag) h = before_key 1 tag h
  step_good (T.attribute_name tag key) h = attribute_name 1 tag key h
  step_good (T.after_attribute_name tag key) h = past_key 1 tag key h
  step_good (T.before_attribute_value tag key) h = before_value 1 tag key h
  step_good (T.double_quoted tag key value) h = double_quoted 2 tag key value h.0 h.1
  step_good (T.single_quoted tag key value) h = single_quoted 2 tag key value h.0 h.1
  step_good (T.unquoted tag key value) h = unquoted 2 tag key value h.0 h.1
  step_good (T.after_attribute_value tag) h = after_value 0 tag h
  step_good (T.self_closing_start_tag tag) h = self_closing 0 tag h
  step_good (T.bogus_comment bytes) h = bogus 2 bytes h
  step_good (T.markup_declaration_open buffer) h = declaration 1 buffer h
  step_good T.comment_start h = comment_start 1
  step_good T.comment_start_dash h = comment_start_dash 1
  step_good (T.comment bytes) h = comment 2 bytes h
  step_good (T.comment_less_than_sign bytes) h = less_than_sign 1 bytes h
  step_good (T.comment_less_than_sign_bang bytes) h = bang 1 bytes h
  step_good (T.comment_less_than_sign_bang_dash bytes) h =
      pick 2 (b == 45) _ _ (λ y. to 2 (T.comment_less_than_sign_bang_dash_dash bytes) (is 45 refl y) h) (λ _. again 1 (T.comment_end_dash bytes) (end_dash 0 bytes h))
  step_good (T.comment_less_than_sign_bang_dash_dash bytes) h = again 1 (T.comment_end bytes) (end_of 0 bytes h)
  step_good (T.comment_end_dash bytes) h = end_dash 1 bytes h
  step_good (T.comment_end bytes) h = end_of 1 bytes h
  step_good (T.comment_end_bang bytes) h = end_bang 1 bytes h
  step_good T.doctype h =
      pick 2 (b == 62) _ _ (λ y. last 2 T.data_state (DoctypeToken ∷ []) (is 62 refl y) (IsUtf8-nil, IsUtf8-nil) tt) (λ _. stay 2 T.doctype [] IsUtf8-nil tt)
  step_good (T.character_reference s) h = reference 1 s h
  step_good (T.named_character_reference s buffer) h = named 1 s buffer h.0 h.1
  step_good (T.numeric_character_reference s) h = numeric 0 s h
  step_good (T.hexadecimal_start s x) h = hexadecimal_start 1 s x h.0 h.1
  step_good (T.decimal_start s) h = decimal_start 1 s h
  step_good (T.hexadecimal s code) h = hexadecimal 1 s code h
  step_good (T.decimal s code) h = decimal 1 s code h

  -- a whole step

  abbrev Ends : Step → Type 0
  Ends x = AreUtf8 (x.emits ++ pending x.next w) × HoldsBefore w x.next

  settled_good : (n : ℕ) (x : Step) → Good n x → Ends (settled (suc n) x b)
  settled_good zero x h = rw h.0 h.1
  settled_good (suc n) x h = elim (cases_Bool x.again) [
    | inl y ↦ (
        let more : AreUtf8 x.emits × Good n (step x.next b) = rw y at h in
        let r : Step = settled (suc n) (step x.next b) b in
        let e = settled_good n (step x.next b) more.1 in
        rw y (subst AreUtf8 (sym (append_assoc x.emits r.emits (pending r.next w))) (both_utf8 x.emits (r.emits ++ pending r.next w) more.0 e.0), e.1))
    | inr m ↦ (let here : Done x = rw m at h in rw m here)
  ]

  pub first_good : (s : State) → Holds s → Ends (whole_step s b)
  first_good s h = settled_good 2 (step s b) (step_good s h)
