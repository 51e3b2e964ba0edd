-- The tokenizer emits no empty name or key, and no comment that a `-->` cuts; and each byte is done with after two reconsumes.
use Rattle.std.proofs.Common.{◌≡◌, ℕ, zero, suc, Bool, true, false, not, ◌==◌, ◌&&◌, ◌||◌, List, [], ◌∷◌, ◌++◌, map, Some, codes, refl, ap, sym, ◌∙◌, inl, inr, true≢false, arith, if◌then◌else◌}
use Rattle.std.specs.Prelude.{⊤, ◌+◌, ◌*◌, nat_lt}
use Rattle.std.specs.Char.{is_ascii_alphabetic, is_ascii_alphanumeric, is_ascii_digit, is_ascii_hexdigit, to_ascii_lowercase}
use Rattle.std.specs.List.{list_all, list_any, starts_with}
use Rattle.std.specs.Str.{bytes_eq}
use Rattle.std.proofs.lemmas.Bool.{and_from, and_parts, cases_Bool, cond_both, eqb-true}
use Rattle.tl_names.specs.Elements.{is_among, rawtext_names, rcdata_names}
use Rattle.tl_html_spec.specs.References.{named_value, number_value}
use Rattle.tl_html_spec.specs.HtmlTokenizer as T
use Rattle.tl_html_spec.specs.HtmlTokenizer.{HtmlAttribute, HtmlToken, Character, StartTag, EndTag, CommentToken, DoctypeToken, OpenTag, Raw, State, Step, char_of, ends_name, html_tokens, is_white_space, settled, step, tokens_from, whole_step, with_feeds, without_mark}
use Rattle.tl_html_spec.specs.Reader.{Reader, after, at, byte_step, feed, is_passed, next, read}
use Rattle.tl_html_spec.specs.Sound.{AreSound, HaveKeys, IsSome}
use Rattle.tl_html_spec.proofs.Arrows.{comment_ends, scan, scan_append}

-- what holds of the parts of states

record HasName (tag : OpenTag) : Type 0 where
  name : IsSome tag.name
  keys : HaveKeys tag.attributes

abbrev RawHasName : Raw → Type 0
RawHasName (T.rcdata name) = IsSome name
RawHasName (T.rawtext name) = IsSome name
RawHasName _ = ⊤

-- a comment's data, where no `-->` stands in it after `--`, and so many dashes at its end
abbrev Scans : List ℕ → ℕ → Type 0
Scans bytes k = scan 2 bytes ≡ Some k

abbrev IsOpen : List ℕ → Type 0
IsOpen bytes = (k : ℕ) × Scans bytes k

no_greater : ℕ → Bool
no_greater b = not (b == 62)

-- the states in which a reference may stand
abbrev Returns : State → Type 0
Returns T.data_state = ⊤
Returns (T.raw r) = RawHasName r
Returns (T.double_quoted tag key value) = HasName tag × IsSome key
Returns (T.single_quoted tag key value) = HasName tag × IsSome key
Returns (T.unquoted tag key value) = HasName tag × IsSome key
Returns _ = ⊥

-- what holds of a state between two bytes
abbrev Holds : State → Type 0
Holds (T.raw r) = RawHasName r
Holds (T.tag_name tag) = HasName tag
Holds (T.raw_less_than_sign r) = RawHasName r
Holds (T.raw_end_tag_open r) = RawHasName r
Holds (T.raw_end_tag_name r buffer) = RawHasName r
Holds (T.before_attribute_name tag) = HasName tag
Holds (T.attribute_name tag key) = HasName tag × IsSome key
Holds (T.after_attribute_name tag key) = HasName tag × IsSome key
Holds (T.before_attribute_value tag key) = HasName tag × IsSome key
Holds (T.double_quoted tag key value) = HasName tag × IsSome key
Holds (T.single_quoted tag key value) = HasName tag × IsSome key
Holds (T.unquoted tag key value) = HasName tag × IsSome key
Holds (T.after_attribute_value tag) = HasName tag
Holds (T.self_closing_start_tag tag) = HasName tag
Holds (T.bogus_comment bytes) = IsOpen bytes
Holds (T.markup_declaration_open buffer) = list_all no_greater (map to_ascii_lowercase buffer) ≡ true
Holds (T.comment bytes) = Scans bytes 0
Holds (T.comment_less_than_sign bytes) = Scans bytes 0
Holds (T.comment_less_than_sign_bang bytes) = Scans bytes 0
Holds (T.comment_less_than_sign_bang_dash bytes) = Scans bytes 0
Holds (T.comment_less_than_sign_bang_dash_dash bytes) = Scans bytes 0
Holds (T.comment_end_dash bytes) = Scans bytes 0
Holds (T.comment_end bytes) = IsOpen bytes
Holds (T.comment_end_bang bytes) = IsOpen bytes
Holds (T.character_reference s) = Returns s
Holds (T.named_character_reference s buffer) = Returns s
Holds (T.numeric_character_reference s) = Returns s
Holds (T.hexadecimal_start s x) = Returns s
Holds (T.decimal_start s) = Returns s
Holds (T.hexadecimal s code) = Returns s
Holds (T.decimal s code) = Returns s
Holds _ = ⊤

-- a step after which so many reconsumes come at most, all of which emit what is sound and end in such a state
abbrev Good : ℕ → ℕ → Step → Type 0
Good zero b x = AreSound x.emits × (x.again ≡ false) × Holds x.next
Good (suc n) b x = AreSound x.emits × elim x.again as (λ _. Type 0) [ false ↦ Holds x.next | true ↦ Good n b (step x.next b) ]

stay : (n b : ℕ) (s : State) (ts : List HtmlToken) → AreSound ts → Holds s → Good n b (record { next = s; emits = ts; again = false })
stay zero b s ts h i = (h, refl, i)
stay (suc n) b s ts h i = (h, i)

pick : (n b : ℕ) (v : Bool) (x y : Step) → (v ≡ true → Good n b x) → (v ≡ false → Good n b y) → Good n b (if v then x else y)
pick n b v x y f g = cond_both v x y (Good n b) f g

sound_chars : (bytes : List ℕ) → AreSound (map Character bytes)
sound_chars [] = tt
sound_chars (b ∷ bytes) = (tt, sound_chars bytes)

-- parts

some_append : (w v : List ℕ) → IsSome v → IsSome (w ++ v)
some_append [] v h = h
some_append (b ∷ w) v h = tt

char_some : (b : ℕ) → IsSome (char_of b)
char_some b = cond_both (b == 0) _ _ IsSome (λ _. tt) (λ _. tt)

keys_append : (xs : List HtmlAttribute) (a : HtmlAttribute) → HaveKeys xs → IsSome a.0 → HaveKeys (xs ++ a ∷ [])
keys_append [] a h k = (k, tt)
keys_append (x ∷ xs) a h k = (h.0, keys_append xs a h.1 k)

with_pair : (tag : OpenTag) (key value : List ℕ) → HasName tag → IsSome key → HasName (T.with_attribute tag key value)
with_pair tag key value h k =
    cond_both (list_any (λ (a : HtmlAttribute). bytes_eq a.0 key) tag.attributes) _ _ HasName (λ _. h)
    (λ _. record { name = h.name; keys = keys_append tag.attributes (key, value) h.keys k })

own_name : (r : Raw) → RawHasName r → IsSome (T.own_name r)
own_name (T.rcdata name) h = h
own_name (T.rawtext name) h = h
own_name T.script_data h = tt
own_name T.script_data_escaped h = tt
own_name T.script_data_escaped_dash h = tt
own_name T.script_data_escaped_dash_dash h = tt

own_tag : (r : Raw) → RawHasName r → HasName (T.own_end_tag r)
own_tag r h = record { name = own_name r h; keys = tt }

after_start : (name : List ℕ) → IsSome name → Holds (T.after_start name)
after_start name h =
    cond_both (is_among rcdata_names name) _ _ Holds (λ _. h)
    (λ _. cond_both (is_among rawtext_names name) _ _ Holds (λ _. h)
    (λ _. cond_both (bytes_eq name (codes "script")) _ _ Holds (λ _. tt)
    (λ _. cond_both (bytes_eq name (codes "plaintext")) _ _ Holds (λ _. tt) (λ _. tt))))

emitted : (n b : ℕ) (tag : OpenTag) (closes : Bool) → HasName tag → Good n b (T.emitted tag closes)
emitted n b tag closes h =
    pick n b tag.is_end _ _ (λ _. stay n b T.data_state (EndTag tag.name ∷ []) (h.name, tt) tt)
    (λ _. stay n b (T.after_start tag.name) (StartTag tag.name tag.attributes closes ∷ []) ((h.name, h.keys), tt) (after_start tag.name h.name))

to : (n b : ℕ) (s : State) → Holds s → Good n b (T.to s)
to n b s h = stay n b s [] tt h

out : (n b : ℕ) (bytes : List ℕ) (s : State) → Holds s → Good n b (T.emitting bytes s)
out n b bytes s h = stay n b s (map Character bytes) (sound_chars bytes) h

again : (n b : ℕ) (s : State) → Good n b (step s b) → Good (suc n) b (T.again_in s)
again n b s h = (tt, h)

out_again : (n b : ℕ) (bytes : List ℕ) (s : State) → Good n b (step s b) → Good (suc n) b (T.emitting_again bytes s)
out_again n b bytes s h = (sound_chars bytes, h)

-- texts

in_data : (n b : ℕ) → Good n b (step T.data_state b)
in_data n b =
    pick n b (b == 38) _ _ (λ _. to n b (T.character_reference T.data_state) tt)
    (λ _. pick n b (b == 60) _ _ (λ _. to n b T.tag_open tt) (λ _. out n b (b ∷ []) T.data_state tt))

in_raw : (n b : ℕ) (r : Raw) → RawHasName r → Good n b (step (T.raw r) b)
in_raw n b (T.rcdata name) h =
    pick n b (b == 38) _ _ (λ _. to n b (T.character_reference (T.raw (T.rcdata name))) h)
    (λ _. pick n b (b == 60) _ _ (λ _. to n b (T.raw_less_than_sign (T.rcdata name)) h) (λ _. out n b (char_of b) (T.raw (T.rcdata name)) h))
in_raw n b (T.rawtext name) h =
    pick n b (b == 60) _ _ (λ _. to n b (T.raw_less_than_sign (T.rawtext name)) h) (λ _. out n b (char_of b) (T.raw (T.rawtext name)) h)
in_raw n b T.script_data h =
    pick n b (b == 60) _ _ (λ _. to n b (T.raw_less_than_sign T.script_data) tt) (λ _. out n b (char_of b) (T.raw T.script_data) tt)
in_raw n b T.script_data_escaped h =
    pick n b (b == 45) _ _ (λ _. out n b (codes "-") (T.raw T.script_data_escaped_dash) tt)
    (λ _. pick n b (b == 60) _ _ (λ _. to n b (T.raw_less_than_sign T.script_data_escaped) tt) (λ _. out n b (char_of b) (T.raw T.script_data_escaped) tt))
in_raw n b T.script_data_escaped_dash h =
    pick n b (b == 45) _ _ (λ _. out n b (codes "-") (T.raw T.script_data_escaped_dash_dash) tt)
    (λ _. pick n b (b == 60) _ _ (λ _. to n b (T.raw_less_than_sign T.script_data_escaped) tt) (λ _. out n b (char_of b) (T.raw T.script_data_escaped) tt))
in_raw n b T.script_data_escaped_dash_dash h =
    pick n b (b == 45) _ _ (λ _. out n b (codes "-") (T.raw T.script_data_escaped_dash_dash) tt)
    (λ _. pick n b (b == 60) _ _ (λ _. to n b (T.raw_less_than_sign T.script_data_escaped) tt)
    (λ _. pick n b (b == 62) _ _ (λ _. out n b (codes ">") (T.raw T.script_data) tt) (λ _. out n b (char_of b) (T.raw T.script_data_escaped) tt)))

after_word : (buffer : List ℕ) (s u : State) → Holds s → Holds u → Holds (T.after_word buffer s u)
after_word buffer s u h k = cond_both (bytes_eq buffer (codes "script")) s u Holds (λ _. h) (λ _. k)

double_escape_start : (n b : ℕ) (buffer : List ℕ) → Good (suc n) b (step (T.script_data_double_escape_start buffer) b)
double_escape_start n b buffer =
    pick (suc n) b (ends_name b) _ _
    (λ _. out (suc n) b (b ∷ []) (T.after_word buffer T.script_data_double_escaped (T.raw T.script_data_escaped)) (after_word buffer _ _ tt tt))
    (λ _. pick (suc n) b (is_ascii_alphabetic b) _ _ (λ _. out (suc n) b (b ∷ []) (T.script_data_double_escape_start (buffer ++ to_ascii_lowercase b ∷ [])) tt)
    (λ _. again n b (T.raw T.script_data_escaped) (in_raw n b T.script_data_escaped tt)))

double_escaped : (n b : ℕ) → Good n b (step T.script_data_double_escaped b)
double_escaped n b =
    pick n b (b == 45) _ _ (λ _. out n b (codes "-") T.script_data_double_escaped_dash tt)
    (λ _. pick n b (b == 60) _ _ (λ _. out n b (codes "<") T.script_data_double_escaped_less_than_sign tt) (λ _. out n b (char_of b) T.script_data_double_escaped tt))

after_less : (n b : ℕ) (r : Raw) → RawHasName r → Good (suc (suc n)) b (T.after_less_than_sign r b)
after_less n b T.script_data h =
    pick (suc (suc n)) b (b == 33) _ _ (λ _. out (suc (suc n)) b (codes "<!") T.script_data_escape_start tt)
    (λ _. out_again (suc n) b (codes "<") (T.raw T.script_data) (in_raw (suc n) b T.script_data tt))
after_less n b T.script_data_escaped h =
    pick (suc (suc n)) b (is_ascii_alphabetic b) _ _
    (λ _. out_again (suc n) b (codes "<") (T.script_data_double_escape_start []) (double_escape_start n b []))
    (λ _. out_again (suc n) b (codes "<") (T.raw T.script_data_escaped) (in_raw (suc n) b T.script_data_escaped tt))
after_less n b (T.rcdata name) h = out_again (suc n) b (codes "<") (T.raw (T.rcdata name)) (in_raw (suc n) b (T.rcdata name) h)
after_less n b (T.rawtext name) h = out_again (suc n) b (codes "<") (T.raw (T.rawtext name)) (in_raw (suc n) b (T.rawtext name) h)
after_less n b T.script_data_escaped_dash h = out_again (suc n) b (codes "<") (T.raw T.script_data_escaped_dash) (in_raw (suc n) b T.script_data_escaped_dash tt)
after_less n b T.script_data_escaped_dash_dash h =
    out_again (suc n) b (codes "<") (T.raw T.script_data_escaped_dash_dash) (in_raw (suc n) b T.script_data_escaped_dash_dash tt)

raw_end_tag_name : (n b : ℕ) (r : Raw) (buffer : List ℕ) → RawHasName r → Good (suc n) b (step (T.raw_end_tag_name r buffer) b)
raw_end_tag_name n b r buffer h =
    pick (suc n) b (is_white_space b && T.is_appropriate r buffer) _ _ (λ _. to (suc n) b (T.before_attribute_name (T.own_end_tag r)) (own_tag r h))
    (λ _. pick (suc n) b ((b == 47) && T.is_appropriate r buffer) _ _ (λ _. to (suc n) b (T.self_closing_start_tag (T.own_end_tag r)) (own_tag r h))
    (λ _. pick (suc n) b ((b == 62) && T.is_appropriate r buffer) _ _ (λ _. emitted (suc n) b (T.own_end_tag r) false (own_tag r h))
    (λ _. pick (suc n) b (is_ascii_alphabetic b) _ _ (λ _. to (suc n) b (T.raw_end_tag_name r (buffer ++ b ∷ [])) h)
    (λ _. out_again n b (codes "</" ++ buffer) (T.raw r) (in_raw n b r h)))))

-- tags

with_letter : (tag : OpenTag) (b : ℕ) → HaveKeys tag.attributes → HasName (T.with_letter tag b)
with_letter tag b h = record { name = some_append tag.name (char_of (to_ascii_lowercase b)) (char_some (to_ascii_lowercase b)); keys = h }

tag_name : (n b : ℕ) (tag : OpenTag) → HasName tag → Good n b (step (T.tag_name tag) b)
tag_name n b tag h =
    pick n b (is_white_space b) _ _ (λ _. to n b (T.before_attribute_name tag) h)
    (λ _. pick n b (b == 47) _ _ (λ _. to n b (T.self_closing_start_tag tag) h)
    (λ _. pick n b (b == 62) _ _ (λ _. emitted n b tag false h) (λ _. to n b (T.tag_name (T.with_letter tag b)) (with_letter tag b h.keys))))

letter_no_space : (b : ℕ) → is_ascii_alphabetic b ≡ true → is_white_space b ≡ false
letter_no_space b h = grind arith

letter_no_solidus : (b : ℕ) → is_ascii_alphabetic b ≡ true → (b == 47) ≡ false
letter_no_solidus b h = grind arith

letter_no_greater : (b : ℕ) → is_ascii_alphabetic b ≡ true → (b == 62) ≡ false
letter_no_greater b h = grind arith

new_name : (n b : ℕ) (is_end : Bool) → is_ascii_alphabetic b ≡ true → Good n b (step (T.tag_name (T.new_tag is_end)) b)
new_name n b is_end l =
    rw (letter_no_space b l, letter_no_solidus b l, letter_no_greater b l)
    (to n b (T.tag_name (T.with_letter (T.new_tag is_end) b)) (with_letter (T.new_tag is_end) b tt))

-- attributes

none_ends : (b : ℕ) → is_white_space b ≡ false → (b == 47) ≡ false → (b == 62) ≡ false → ends_name b ≡ false
none_ends b w s g = rw (w, s, g) refl

new_key : (n b : ℕ) (tag : OpenTag) → HasName tag → ends_name b ≡ false → (b == 61) ≡ false → Good n b (step (T.attribute_name tag []) b)
new_key n b tag h e q =
    rw (e, q) (to n b (T.attribute_name tag (char_of (to_ascii_lowercase b))) (h, char_some (to_ascii_lowercase b)))

before_attribute_name : (n b : ℕ) (tag : OpenTag) → HasName tag → Good (suc n) b (step (T.before_attribute_name tag) b)
before_attribute_name n b tag h =
    pick (suc n) b (is_white_space b) _ _ (λ _. to (suc n) b (T.before_attribute_name tag) h)
    (λ w. pick (suc n) b (b == 47) _ _ (λ _. to (suc n) b (T.self_closing_start_tag tag) h)
    (λ s. pick (suc n) b (b == 62) _ _ (λ _. emitted (suc n) b tag false h)
    (λ g. pick (suc n) b (b == 61) _ _ (λ _. to (suc n) b (T.attribute_name tag (b ∷ [])) (h, tt))
    (λ q. again n b (T.attribute_name tag []) (new_key n b tag h (none_ends b w s g) q)))))

after_key : (n b : ℕ) (tag : OpenTag) (key : List ℕ) → HasName tag → IsSome key → Good (suc n) b (step (T.after_attribute_name tag key) b)
after_key n b tag key h k =
    pick (suc n) b (is_white_space b) _ _ (λ _. to (suc n) b (T.after_attribute_name tag key) (h, k))
    (λ w. pick (suc n) b (b == 47) _ _ (λ _. to (suc n) b (T.self_closing_start_tag (T.with_attribute tag key [])) (with_pair tag key [] h k))
    (λ s. pick (suc n) b (b == 61) _ _ (λ _. to (suc n) b (T.before_attribute_value tag key) (h, k))
    (λ q. pick (suc n) b (b == 62) _ _ (λ _. emitted (suc n) b (T.with_attribute tag key []) false (with_pair tag key [] h k))
    (λ g. again n b (T.attribute_name (T.with_attribute tag key []) [])
    (new_key n b (T.with_attribute tag key []) (with_pair tag key [] h k) (none_ends b w s g) q)))))

-- after a key that this byte ends
ended_key : (n b : ℕ) (tag : OpenTag) (key : List ℕ) → HasName tag → IsSome key → ends_name b ≡ true → Good n b (step (T.after_attribute_name tag key) b)
ended_key n b tag key h k e =
    pick n b (is_white_space b) _ _ (λ _. to n b (T.after_attribute_name tag key) (h, k))
    (λ w. pick n b (b == 47) _ _ (λ _. to n b (T.self_closing_start_tag (T.with_attribute tag key [])) (with_pair tag key [] h k))
    (λ s. pick n b (b == 61) _ _ (λ _. to n b (T.before_attribute_value tag key) (h, k))
    (λ q. pick n b (b == 62) _ _ (λ _. emitted n b (T.with_attribute tag key []) false (with_pair tag key [] h k))
    (λ g. absurd (true≢false (sym e ∙ none_ends b w s g))))))

attribute_name : (n b : ℕ) (tag : OpenTag) (key : List ℕ) → HasName tag → IsSome key → Good (suc n) b (step (T.attribute_name tag key) b)
attribute_name n b tag key h k =
    pick (suc n) b (ends_name b) _ _ (λ e. again n b (T.after_attribute_name tag key) (ended_key n b tag key h k e))
    (λ _. pick (suc n) b (b == 61) _ _ (λ _. to (suc n) b (T.before_attribute_value tag key) (h, k))
    (λ _. to (suc n) b (T.attribute_name tag (key ++ char_of (to_ascii_lowercase b))) (h, some_append key (char_of (to_ascii_lowercase b)) (char_some (to_ascii_lowercase b)))))

double_quoted : (n b : ℕ) (tag : OpenTag) (key value : List ℕ) → HasName tag → IsSome key → Good n b (step (T.double_quoted tag key value) b)
double_quoted n b tag key value h k =
    pick n b (b == 34) _ _ (λ _. to n b (T.after_attribute_value (T.with_attribute tag key value)) (with_pair tag key value h k))
    (λ _. pick n b (b == 38) _ _ (λ _. to n b (T.character_reference (T.double_quoted tag key value)) (h, k)) (λ _. to n b (T.double_quoted tag key (value ++ char_of b)) (h, k)))

single_quoted : (n b : ℕ) (tag : OpenTag) (key value : List ℕ) → HasName tag → IsSome key → Good n b (step (T.single_quoted tag key value) b)
single_quoted n b tag key value h k =
    pick n b (b == 39) _ _ (λ _. to n b (T.after_attribute_value (T.with_attribute tag key value)) (with_pair tag key value h k))
    (λ _. pick n b (b == 38) _ _ (λ _. to n b (T.character_reference (T.single_quoted tag key value)) (h, k)) (λ _. to n b (T.single_quoted tag key (value ++ char_of b)) (h, k)))

unquoted : (n b : ℕ) (tag : OpenTag) (key value : List ℕ) → HasName tag → IsSome key → Good n b (step (T.unquoted tag key value) b)
unquoted n b tag key value h k =
    pick n b (is_white_space b) _ _ (λ _. to n b (T.before_attribute_name (T.with_attribute tag key value)) (with_pair tag key value h k))
    (λ _. pick n b (b == 38) _ _ (λ _. to n b (T.character_reference (T.unquoted tag key value)) (h, k))
    (λ _. pick n b (b == 62) _ _ (λ _. emitted n b (T.with_attribute tag key value) false (with_pair tag key value h k))
    (λ _. to n b (T.unquoted tag key (value ++ char_of b)) (h, k))))

before_value : (n b : ℕ) (tag : OpenTag) (key : List ℕ) → HasName tag → IsSome key → Good (suc n) b (step (T.before_attribute_value tag key) b)
before_value n b tag key h k =
    pick (suc n) b (is_white_space b) _ _ (λ _. to (suc n) b (T.before_attribute_value tag key) (h, k))
    (λ _. pick (suc n) b (b == 34) _ _ (λ _. to (suc n) b (T.double_quoted tag key []) (h, k))
    (λ _. pick (suc n) b (b == 39) _ _ (λ _. to (suc n) b (T.single_quoted tag key []) (h, k))
    (λ _. pick (suc n) b (b == 62) _ _ (λ _. emitted (suc n) b (T.with_attribute tag key []) false (with_pair tag key [] h k))
    (λ _. again n b (T.unquoted tag key []) (unquoted n b tag key [] h k)))))

after_value : (n b : ℕ) (tag : OpenTag) → HasName tag → Good (suc (suc n)) b (step (T.after_attribute_value tag) b)
after_value n b tag h =
    pick (suc (suc n)) b (is_white_space b) _ _ (λ _. to (suc (suc n)) b (T.before_attribute_name tag) h)
    (λ _. pick (suc (suc n)) b (b == 47) _ _ (λ _. to (suc (suc n)) b (T.self_closing_start_tag tag) h)
    (λ _. pick (suc (suc n)) b (b == 62) _ _ (λ _. emitted (suc (suc n)) b tag false h)
    (λ _. again (suc n) b (T.before_attribute_name tag) (before_attribute_name n b tag h))))

self_closing : (n b : ℕ) (tag : OpenTag) → HasName tag → Good (suc (suc n)) b (step (T.self_closing_start_tag tag) b)
self_closing n b tag h =
    pick (suc (suc n)) b (b == 62) _ _ (λ _. emitted (suc (suc n)) b tag true h)
    (λ _. again (suc n) b (T.before_attribute_name tag) (before_attribute_name n b tag h))

-- comments

comment_sound : (bytes : List ℕ) → IsOpen bytes → AreSound (CommentToken bytes ∷ [])
comment_sound bytes h = (comment_ends bytes h.0 h.1, tt)

ends_comment : (n b : ℕ) (bytes : List ℕ) → IsOpen bytes → Good n b (T.emitting_token (CommentToken bytes) T.data_state)
ends_comment n b bytes h = stay n b T.data_state (CommentToken bytes ∷ []) (comment_sound bytes h) tt

scan_char : (k b : ℕ) → (b == 45) ≡ false → ((b == 62) && nat_lt 1 k) ≡ false → scan k (char_of b) ≡ Some 0
scan_char k b n m = elim (cases_Bool (b == 0)) [
  | inl y ↦ rw y refl
  | inr z ↦ rw z (rw (n, m) refl)
]

-- the next byte is no `-`, and no `>` after two dashes
in_comment : (n b : ℕ) (bytes : List ℕ) (k : ℕ) → Scans bytes k → (b == 45) ≡ false → ((b == 62) && nat_lt 1 k) ≡ false → Good n b (step (T.comment bytes) b)
in_comment n b bytes k h d g =
    pick n b (b == 60) _ _
    (λ l. to n b (T.comment_less_than_sign (bytes ++ b ∷ [])) (scan_append 2 bytes (b ∷ []) k h ∙ (rw (d, g) refl)))
    (λ _. pick n b (b == 45) _ _ (λ y. absurd (true≢false (sym y ∙ d)))
    (λ _. to n b (T.comment (bytes ++ char_of b)) (scan_append 2 bytes (char_of b) k h ∙ scan_char k b d g)))

never_after_none : (b : ℕ) → ((b == 62) && nat_lt 1 0) ≡ false
never_after_none b = elim (cases_Bool (b == 62)) [ inl y ↦ rw y refl | inr n ↦ rw n refl ]

comment : (n b : ℕ) (bytes : List ℕ) → Scans bytes 0 → Good n b (step (T.comment bytes) b)
comment n b bytes h = elim (cases_Bool (b == 45)) [
  | inl y ↦ pick n b (b == 60) _ _
      (λ l. absurd (true≢false (sym l ∙ ap (λ c. c == 60) (eqb-true b 45 y))))
      (λ _. pick n b (b == 45) _ _ (λ _. to n b (T.comment_end_dash bytes) h) (λ d. absurd (true≢false (sym y ∙ d))))
  | inr d ↦ in_comment n b bytes 0 h d (never_after_none b)
]

plain_end : (b c : ℕ) → (b == c) ≡ true → (c == 45) ≡ false → (c == 62) ≡ false → scan 0 (b ∷ []) ≡ Some 0
plain_end b c y d g = ap (λ x. scan 0 (x ∷ [])) (eqb-true b c y) ∙ (rw (d, g) refl)

less_than_sign : (n b : ℕ) (bytes : List ℕ) → Scans bytes 0 → Good (suc n) b (step (T.comment_less_than_sign bytes) b)
less_than_sign n b bytes h =
    pick (suc n) b (b == 33) _ _ (λ y. to (suc n) b (T.comment_less_than_sign_bang (bytes ++ b ∷ [])) (scan_append 2 bytes (b ∷ []) 0 h ∙ plain_end b 33 y refl refl))
    (λ _. pick (suc n) b (b == 60) _ _ (λ y. to (suc n) b (T.comment_less_than_sign (bytes ++ b ∷ [])) (scan_append 2 bytes (b ∷ []) 0 h ∙ plain_end b 60 y refl refl))
    (λ _. again n b (T.comment bytes) (comment n b bytes h)))

bang : (n b : ℕ) (bytes : List ℕ) → Scans bytes 0 → Good (suc n) b (step (T.comment_less_than_sign_bang bytes) b)
bang n b bytes h =
    pick (suc n) b (b == 45) _ _ (λ _. to (suc n) b (T.comment_less_than_sign_bang_dash bytes) h) (λ _. again n b (T.comment bytes) (comment n b bytes h))

end_dash : (n b : ℕ) (bytes : List ℕ) → Scans bytes 0 → Good (suc n) b (step (T.comment_end_dash bytes) b)
end_dash n b bytes h =
    pick (suc n) b (b == 45) _ _ (λ _. to (suc n) b (T.comment_end bytes) (0, h))
    (λ d. again n b (T.comment (bytes ++ codes "-"))
    (in_comment n b (bytes ++ codes "-") 1 (scan_append 2 bytes (codes "-") 0 h) d (elim (cases_Bool (b == 62)) [ inl y ↦ rw y refl | inr m ↦ rw m refl ])))

end_of : (n b : ℕ) (bytes : List ℕ) → IsOpen bytes → Good (suc n) b (step (T.comment_end bytes) b)
end_of n b bytes h =
    pick (suc n) b (b == 62) _ _ (λ _. ends_comment (suc n) b bytes h)
    (λ g. pick (suc n) b (b == 33) _ _ (λ _. to (suc n) b (T.comment_end_bang bytes) h)
    (λ _. pick (suc n) b (b == 45) _ _ (λ _. to (suc n) b (T.comment_end (bytes ++ codes "-")) (suc h.0, scan_append 2 bytes (codes "-") h.0 h.1))
    (λ d. again n b (T.comment (bytes ++ codes "--"))
    (in_comment n b (bytes ++ codes "--") (suc (suc h.0)) (scan_append 2 bytes (codes "--") h.0 h.1) d (rw g refl)))))

end_bang : (n b : ℕ) (bytes : List ℕ) → IsOpen bytes → Good (suc n) b (step (T.comment_end_bang bytes) b)
end_bang n b bytes h =
    pick (suc n) b (b == 45) _ _ (λ _. to (suc n) b (T.comment_end_dash (bytes ++ codes "--!")) (scan_append 2 bytes (codes "--!") h.0 h.1))
    (λ d. pick (suc n) b (b == 62) _ _ (λ _. ends_comment (suc n) b bytes h)
    (λ g. again n b (T.comment (bytes ++ codes "--!"))
    (in_comment n b (bytes ++ codes "--!") 0 (scan_append 2 bytes (codes "--!") h.0 h.1) d (never_after_none b))))

comment_start : (n b : ℕ) → Good (suc n) b (step T.comment_start b)
comment_start n b =
    pick (suc n) b (b == 45) _ _ (λ _. to (suc n) b T.comment_start_dash tt)
    (λ d. pick (suc n) b (b == 62) _ _ (λ _. ends_comment (suc n) b [] (2, refl))
    (λ g. again n b (T.comment []) (in_comment n b [] 2 refl d (rw g refl))))

comment_start_dash : (n b : ℕ) → Good (suc n) b (step T.comment_start_dash b)
comment_start_dash n b =
    pick (suc n) b (b == 45) _ _ (λ _. to (suc n) b (T.comment_end []) (2, refl))
    (λ d. pick (suc n) b (b == 62) _ _ (λ _. ends_comment (suc n) b [] (2, refl))
    (λ g. again n b (T.comment (codes "-")) (in_comment n b (codes "-") 3 refl d (rw g refl))))

open_char : (k b : ℕ) → (b == 62) ≡ false → (m : ℕ) × (scan k (char_of b) ≡ Some m)
open_char k b g = elim (cases_Bool (b == 0)) [
  | inl z ↦ (0, rw z refl)
  | inr z ↦ elim (cases_Bool (b == 45)) [ inl d ↦ (suc k, rw (z, d) refl) | inr d ↦ (0, rw (z, d, g) refl) ]
]

bogus : (n b : ℕ) (bytes : List ℕ) → IsOpen bytes → Good n b (step (T.bogus_comment bytes) b)
bogus n b bytes h =
    pick n b (b == 62) _ _ (λ _. ends_comment n b bytes h)
    (λ g. let c = open_char h.0 b g in to n b (T.bogus_comment (bytes ++ char_of b)) (c.0, scan_append 2 bytes (char_of b) h.0 h.1 ∙ c.1))

-- what is collected after `<!`

lower_keeps : (b : ℕ) → no_greater (to_ascii_lowercase b) ≡ true → (b == 62) ≡ false
unfolding no_greater
lower_keeps b h = elim (cases_Bool (b == 62)) [
  | inl y ↦ absurd (true≢false (sym h ∙ ap (λ c. not (to_ascii_lowercase c == 62)) (eqb-true b 62 y)))
  | inr n ↦ n
]

open_from : (d : ℕ) (w : List ℕ) → list_all no_greater (map to_ascii_lowercase w) ≡ true → (k : ℕ) × (scan d w ≡ Some k)
open_from d [] h = (d, refl)
open_from d (b ∷ w) h =
    let p = and_parts (no_greater (to_ascii_lowercase b)) (list_all no_greater (map to_ascii_lowercase w)) h in
    elim (cases_Bool (b == 45)) [
      | inl y ↦ (let m = open_from (suc d) w p.1 in (m.0, rw y m.1))
      | inr n ↦ (let m = open_from 0 w p.1 in (m.0, rw (n, lower_keeps b p.0) m.1))
    ]

prefix_all : (p : ℕ → Bool) (w v : List ℕ) → list_all p w ≡ true → starts_with ◌==◌ w v ≡ true → list_all p v ≡ true
prefix_all p w [] h s = refl
prefix_all p [] (c ∷ v) h s = absurd (true≢false (sym s))
prefix_all p (b ∷ w) (c ∷ v) h s =
    let q = and_parts (p b) (list_all p w) h in
    let e = and_parts (c == b) (starts_with ◌==◌ w v) s in
    and_from _ _ (ap p (eqb-true c b e.0) ∙ q.0) (prefix_all p w v q.1 e.1)

declaration : (n b : ℕ) (buffer : List ℕ) → list_all no_greater (map to_ascii_lowercase buffer) ≡ true → Good (suc n) b (step (T.markup_declaration_open buffer) b)
unfolding no_greater
declaration n b buffer h =
    let more : List ℕ = map to_ascii_lowercase (buffer ++ b ∷ []) in
    pick (suc n) b (bytes_eq (buffer ++ b ∷ []) (codes "--")) _ _ (λ _. to (suc n) b T.comment_start tt)
    (λ _. pick (suc n) b (bytes_eq more (codes "doctype")) _ _ (λ _. to (suc n) b T.doctype tt)
    (λ _. pick (suc n) b (T.begins (codes "--") (buffer ++ b ∷ []) || T.begins (codes "doctype") (buffer ++ b ∷ [])) _ _
    (λ o. to (suc n) b (T.markup_declaration_open (buffer ++ b ∷ []))
    (elim (cases_Bool (T.begins (codes "--") (buffer ++ b ∷ []))) [
      | inl y ↦ prefix_all no_greater (codes "--") more refl y
      | inr m ↦ prefix_all no_greater (codes "doctype") more refl (rw m at o)
    ]))
    (λ _. again n b (T.bogus_comment buffer) (bogus n b buffer (open_from 2 buffer h)))))

-- references

flushed : (n b : ℕ) (s : State) (bytes : List ℕ) → Returns s → Good n b (T.flushed s bytes false)
flushed n b T.data_state bytes h = out n b bytes T.data_state tt
flushed n b (T.raw r) bytes h = out n b bytes (T.raw r) h
flushed n b (T.double_quoted tag key value) bytes h = to n b (T.double_quoted tag key (value ++ bytes)) h
flushed n b (T.single_quoted tag key value) bytes h = to n b (T.single_quoted tag key (value ++ bytes)) h
flushed n b (T.unquoted tag key value) bytes h = to n b (T.unquoted tag key (value ++ bytes)) h
flushed n b _ bytes h = absurd h

flushed_again : (n b : ℕ) (s : State) (bytes : List ℕ) → Returns s → Good (suc n) b (T.flushed s bytes true)
flushed_again n b T.data_state bytes h = out_again n b bytes T.data_state (in_data n b)
flushed_again n b (T.raw r) bytes h = out_again n b bytes (T.raw r) (in_raw n b r h)
flushed_again n b (T.double_quoted tag key value) bytes h = again n b (T.double_quoted tag key (value ++ bytes)) (double_quoted n b tag key (value ++ bytes) h.0 h.1)
flushed_again n b (T.single_quoted tag key value) bytes h = again n b (T.single_quoted tag key (value ++ bytes)) (single_quoted n b tag key (value ++ bytes) h.0 h.1)
flushed_again n b (T.unquoted tag key value) bytes h = again n b (T.unquoted tag key (value ++ bytes)) (unquoted n b tag key (value ++ bytes) h.0 h.1)
flushed_again n b _ bytes h = absurd h

flushed_either : (n b : ℕ) (s : State) (bytes : List ℕ) (v : Bool) → Returns s → Good (suc n) b (T.flushed s bytes v)
flushed_either n b s bytes true h = flushed_again n b s bytes h
flushed_either n b s bytes false h = flushed (suc n) b s bytes h

named_letter : (n b : ℕ) (s : State) (buffer : List ℕ) → Returns s → is_ascii_alphanumeric b ≡ true → Good n b (step (T.named_character_reference s buffer) b)
named_letter n b s buffer h l = rw l (to n b (T.named_character_reference s (buffer ++ b ∷ [])) h)

named : (n b : ℕ) (s : State) (buffer : List ℕ) → Returns s → Good (suc n) b (step (T.named_character_reference s buffer) b)
named n b s buffer h =
    pick (suc n) b (is_ascii_alphanumeric b) _ _ (λ _. to (suc n) b (T.named_character_reference s (buffer ++ b ∷ [])) h)
    (λ _. pick (suc n) b (b == 59) _ _ (λ _. flushed (suc n) b s (named_value (T.is_value s) (buffer ++ b ∷ []) []) h)
    (λ _. flushed_again n b s (named_value (T.is_value s) buffer (b ∷ [])) h))

reference : (n b : ℕ) (s : State) → Returns s → Good (suc n) b (step (T.character_reference s) b)
reference n b s h =
    pick (suc n) b (is_ascii_alphanumeric b) _ _ (λ l. again n b (T.named_character_reference s []) (named_letter n b s [] h l))
    (λ _. pick (suc n) b (b == 35) _ _ (λ _. to (suc n) b (T.numeric_character_reference s) h) (λ _. flushed_again n b s (codes "&") h))

hexadecimal : (n b : ℕ) (s : State) (code : ℕ) → Returns s → Good (suc n) b (step (T.hexadecimal s code) b)
hexadecimal n b s code h =
    pick (suc n) b (is_ascii_hexdigit b) _ _ (λ _. to (suc n) b (T.hexadecimal s (code * 16 + T.digit_value b)) h)
    (λ _. flushed_either n b s (number_value code) (not (b == 59)) h)

decimal : (n b : ℕ) (s : State) (code : ℕ) → Returns s → Good (suc n) b (step (T.decimal s code) b)
decimal n b s code h =
    pick (suc n) b (is_ascii_digit b) _ _ (λ _. to (suc n) b (T.decimal s (code * 10 + T.digit_value b)) h)
    (λ _. flushed_either n b s (number_value code) (not (b == 59)) h)

hexadecimal_digit : (n b : ℕ) (s : State) → Returns s → is_ascii_hexdigit b ≡ true → Good n b (step (T.hexadecimal s 0) b)
hexadecimal_digit n b s h l =
    pick n b (is_ascii_hexdigit b) _ _ (λ _. to n b (T.hexadecimal s (0 * 16 + T.digit_value b)) h) (λ m. absurd (true≢false (sym l ∙ m)))

decimal_digit : (n b : ℕ) (s : State) → Returns s → is_ascii_digit b ≡ true → Good n b (step (T.decimal s 0) b)
decimal_digit n b s h l =
    pick n b (is_ascii_digit b) _ _ (λ _. to n b (T.decimal s (0 * 10 + T.digit_value b)) h) (λ m. absurd (true≢false (sym l ∙ m)))

hexadecimal_start : (n b : ℕ) (s : State) (x : ℕ) → Returns s → Good (suc n) b (step (T.hexadecimal_start s x) b)
hexadecimal_start n b s x h =
    pick (suc n) b (is_ascii_hexdigit b) _ _ (λ l. again n b (T.hexadecimal s 0) (hexadecimal_digit n b s h l)) (λ _. flushed_again n b s (codes "&#" ++ x ∷ []) h)

decimal_start : (n b : ℕ) (s : State) → Returns s → Good (suc n) b (step (T.decimal_start s) b)
decimal_start n b s h =
    pick (suc n) b (is_ascii_digit b) _ _ (λ l. again n b (T.decimal s 0) (decimal_digit n b s h l)) (λ _. flushed_again n b s (codes "&#") h)

numeric : (n b : ℕ) (s : State) → Returns s → Good (suc (suc n)) b (step (T.numeric_character_reference s) b)
numeric n b s h =
    pick (suc (suc n)) b (to_ascii_lowercase b == 120) _ _ (λ _. to (suc (suc n)) b (T.hexadecimal_start s b) h)
    (λ _. again (suc n) b (T.decimal_start s) (decimal_start n b s h))

-- each state

step_good : (s : State) (b : ℕ) → Holds s → Good 2 b (step s b)
step_good T.data_state b h = in_data 2 b
step_good (T.raw r) b h = in_raw 2 b r h
step_good T.plaintext b h = out 2 b (char_of b) T.plaintext tt
step_good T.tag_open b h =
    pick 2 b (b == 33) _ _ (λ _. to 2 b (T.markup_declaration_open []) refl)
    (λ _. pick 2 b (b == 47) _ _ (λ _. to 2 b T.end_tag_open tt)
    (λ _. pick 2 b (is_ascii_alphabetic b) _ _ (λ l. again 1 b (T.tag_name (T.new_tag false)) (new_name 1 b false l))
    (λ _. pick 2 b (b == 63) _ _ (λ _. again 1 b (T.bogus_comment []) (bogus 1 b [] (2, refl)))
    (λ _. out_again 1 b (codes "<") T.data_state (in_data 1 b)))))
step_good T.end_tag_open b h =
    pick 2 b (is_ascii_alphabetic b) _ _ (λ l. again 1 b (T.tag_name (T.new_tag true)) (new_name 1 b true l))
    (λ _. pick 2 b (b == 62) _ _ (λ _. to 2 b T.data_state tt) (λ _. again 1 b (T.bogus_comment []) (bogus 1 b [] (2, refl))))
step_good (T.tag_name tag) b h = tag_name 2 b tag h
step_good (T.raw_less_than_sign r) b h = pick 2 b (b == 47) _ _ (λ _. to 2 b (T.raw_end_tag_open r) h) (λ _. after_less 0 b r h)
step_good (T.raw_end_tag_open r) b h =
    pick 2 b (is_ascii_alphabetic b) _ _ (λ _. again 1 b (T.raw_end_tag_name r []) (raw_end_tag_name 0 b r [] h))
    (λ _. out_again 1 b (codes "</") (T.raw r) (in_raw 1 b r h))
step_good (T.raw_end_tag_name r buffer) b h = raw_end_tag_name 1 b r buffer h
step_good T.script_data_escape_start b h =
    pick 2 b (b == 45) _ _ (λ _. out 2 b (codes "-") T.script_data_escape_start_dash tt) (λ _. again 1 b (T.raw T.script_data) (in_raw 1 b T.script_data tt))
step_good T.script_data_escape_start_dash b h =
    pick 2 b (b == 45) _ _ (λ _. out 2 b (codes "-") (T.raw T.script_data_escaped_dash_dash) tt) (λ _. again 1 b (T.raw T.script_data) (in_raw 1 b T.script_data tt))
step_good (T.script_data_double_escape_start buffer) b h = double_escape_start 1 b buffer
step_good T.script_data_double_escaped b h = double_escaped 2 b
step_good T.script_data_double_escaped_dash b h =
    pick 2 b (b == 45) _ _ (λ _. out 2 b (codes "-") T.script_data_double_escaped_dash_dash tt)
    (λ _. pick 2 b (b == 60) _ _ (λ _. out 2 b (codes "<") T.script_data_double_escaped_less_than_sign tt) (λ _. out 2 b (char_of b) T.script_data_double_escaped tt))
step_good T.script_data_double_escaped_dash_dash b h =
    pick 2 b (b == 45) _ _ (λ _. out 2 b (codes "-") T.script_data_double_escaped_dash_dash tt)
    (λ _. pick 2 b (b == 60) _ _ (λ _. out 2 b (codes "<") T.script_data_double_escaped_less_than_sign tt)
    (λ _. pick 2 b (b == 62) _ _ (λ _. out 2 b (codes ">") (T.raw T.script_data) tt) (λ _. out 2 b (char_of b) T.script_data_double_escaped tt)))
step_good T.script_data_double_escaped_less_than_sign b h =
    pick 2 b (b == 47) _ _ (λ _. out 2 b (codes "/") (T.script_data_double_escape_end []) tt) (λ _. again 1 b T.script_data_double_escaped (double_escaped 1 b))
step_good (T.script_data_double_escape_end buffer) b h =
    pick 2 b (ends_name b) _ _
    (λ _. out 2 b (b ∷ []) (T.after_word buffer (T.raw T.script_data_escaped) T.script_data_double_escaped) (after_word buffer _ _ tt tt))
    (λ _. pick 2 b (is_ascii_alphabetic b) _ _ (λ _. out 2 b (b ∷ []) (T.script_data_double_escape_end (buffer ++ to_ascii_lowercase b ∷ [])) tt)
    (λ _. again 1 b T.script_data_double_escaped (double_escaped 1 b)))
step_good (T.before_attribute_name tag) b h = before_attribute_name 1 b tag h
step_good (T.attribute_name tag key) b h = attribute_name 1 b tag key h.0 h.1
step_good (T.after_attribute_name tag key) b h = after_key 1 b tag key h.0 h.1
step_good (T.before_attribute_value tag key) b h = before_value 1 b tag key h.0 h.1
step_good (T.double_quoted tag key value) b h = double_quoted 2 b tag key value h.0 h.1
step_good (T.single_quoted tag key value) b h = single_quoted 2 b tag key value h.0 h.1
step_good (T.unquoted tag key value) b h = unquoted 2 b tag key value h.0 h.1
step_good (T.after_attribute_value tag) b h = after_value 0 b tag h
step_good (T.self_closing_start_tag tag) b h = self_closing 0 b tag h
step_good (T.bogus_comment bytes) b h = bogus 2 b bytes h
step_good (T.markup_declaration_open buffer) b h = declaration 1 b buffer h
step_good T.comment_start b h = comment_start 1 b
step_good T.comment_start_dash b h = comment_start_dash 1 b
step_good (T.comment bytes) b h = comment 2 b bytes h
step_good (T.comment_less_than_sign bytes) b h = less_than_sign 1 b bytes h
step_good (T.comment_less_than_sign_bang bytes) b h = bang 1 b bytes h
step_good (T.comment_less_than_sign_bang_dash bytes) b h =
    pick 2 b (b == 45) _ _ (λ _. to 2 b (T.comment_less_than_sign_bang_dash_dash bytes) h) (λ _. again 1 b (T.comment_end_dash bytes) (end_dash 0 b bytes h))
step_good (T.comment_less_than_sign_bang_dash_dash bytes) b h = again 1 b (T.comment_end bytes) (end_of 0 b bytes (0, h))
step_good (T.comment_end_dash bytes) b h = end_dash 1 b bytes h
step_good (T.comment_end bytes) b h = end_of 1 b bytes h
step_good (T.comment_end_bang bytes) b h = end_bang 1 b bytes h
step_good T.doctype b h = pick 2 b (b == 62) _ _ (λ _. stay 2 b T.data_state (DoctypeToken ∷ []) (tt, tt) tt) (λ _. to 2 b T.doctype tt)
step_good (T.character_reference s) b h = reference 1 b s h
step_good (T.named_character_reference s buffer) b h = named 1 b s buffer h
step_good (T.numeric_character_reference s) b h = numeric 0 b s h
step_good (T.hexadecimal_start s x) b h = hexadecimal_start 1 b s x h
step_good (T.decimal_start s) b h = decimal_start 1 b s h
step_good (T.hexadecimal s code) b h = hexadecimal 1 b s code h
step_good (T.decimal s code) b h = decimal 1 b s code h

-- a whole step

append_sound : (ts us : List HtmlToken) → AreSound ts → AreSound us → AreSound (ts ++ us)
append_sound [] us h k = k
append_sound (t ∷ ts) us h k = (h.0, append_sound ts us h.1 k)

settled_good : (n b : ℕ) (x : Step) → Good n b x → Good zero b (settled (suc n) x b)
settled_good zero b x h = rw h.1 (h.0, refl, h.2)
settled_good (suc n) b x h = elim (cases_Bool x.again) [
  | inl y ↦ (
      let more : Good n b (step x.next b) = rw y at h.1 in
      let r = settled_good n b (step x.next b) more in
      rw y (append_sound x.emits (settled (suc n) (step x.next b) b).emits h.0 r.0, r.1, r.2))
  | inr m ↦ (let here : Holds x.next = rw m at h.1 in rw m (h.0, refl, here))
]

whole_good : (s : State) (b : ℕ) → Holds s → Good zero b (whole_step s b)
whole_good s b h = settled_good 2 b (step s b) (step_good s b h)

flushed_sound : (s : State) (bytes : List ℕ) → Returns s → AreSound (T.flushed s bytes false).emits
flushed_sound s bytes h = (flushed zero 0 s bytes h).0

end_sound : (s : State) → Holds s → AreSound (T.at_end s)
end_sound T.tag_open h = (tt, tt)
end_sound T.end_tag_open h = sound_chars (codes "</")
end_sound (T.raw_less_than_sign r) h = sound_chars (codes "<")
end_sound (T.raw_end_tag_open r) h = sound_chars (codes "</")
end_sound (T.raw_end_tag_name r buffer) h = sound_chars (codes "</" ++ buffer)
end_sound (T.bogus_comment bytes) h = comment_sound bytes h
end_sound (T.markup_declaration_open buffer) h = comment_sound buffer (open_from 2 buffer h)
end_sound T.comment_start h = comment_sound [] (2, refl)
end_sound T.comment_start_dash h = comment_sound [] (2, refl)
end_sound (T.comment bytes) h = comment_sound bytes (0, h)
end_sound (T.comment_less_than_sign bytes) h = comment_sound bytes (0, h)
end_sound (T.comment_less_than_sign_bang bytes) h = comment_sound bytes (0, h)
end_sound (T.comment_less_than_sign_bang_dash bytes) h = comment_sound bytes (0, h)
end_sound (T.comment_less_than_sign_bang_dash_dash bytes) h = comment_sound bytes (0, h)
end_sound (T.comment_end_dash bytes) h = comment_sound bytes (0, h)
end_sound (T.comment_end bytes) h = comment_sound bytes h
end_sound (T.comment_end_bang bytes) h = comment_sound bytes h
end_sound T.doctype h = (tt, tt)
end_sound (T.character_reference s) h = flushed_sound s (codes "&") h
end_sound (T.named_character_reference s buffer) h = flushed_sound s (named_value (T.is_value s) buffer []) h
end_sound (T.numeric_character_reference s) h = flushed_sound s (codes "&#") h
end_sound (T.hexadecimal_start s x) h = flushed_sound s (codes "&#" ++ x ∷ []) h
end_sound (T.decimal_start s) h = flushed_sound s (codes "&#") h
end_sound (T.hexadecimal s code) h = flushed_sound s (number_value code) h
end_sound (T.decimal s code) h = flushed_sound s (number_value code) h
end_sound _ h = tt

from_sound : (s : State) (text : List ℕ) → Holds s → AreSound (tokens_from s text)
from_sound s [] h = end_sound s h
from_sound s (b ∷ text) h =
    let w = whole_good s b h in
    append_sound (whole_step s b).emits (tokens_from (whole_step s b).next text) w.0 (from_sound (whole_step s b).next text w.2)

pub page_sound : (page : List ℕ) → AreSound (html_tokens page)
page_sound page = from_sound T.data_state (with_feeds (without_mark page)) tt

-- no byte is left over

byte_good : (passed : Bool) (s : State) (b : ℕ) → Holds s → ((byte_step passed s b).again ≡ false) × Holds (byte_step passed s b).next
byte_good true s b h = (refl, h)
byte_good false s b h = let w = whole_good s (feed b) h in (w.1, w.2)

read_good : (r : Reader) (b : ℕ) → Holds r.state → ((read r b).again ≡ false) × Holds (read r b).next
unfolding read
read_good r b h = byte_good (is_passed r b) r.state b h

after_holds : (r : Reader) (text : List ℕ) → Holds r.state → Holds (after r text).state
after_holds r [] h = h
after_holds r (b ∷ text) h = after_holds (next r b) text (read_good r b h).1

pub byte_is_read : (text : List ℕ) (b : ℕ) → (read (after (at T.data_state) text) b).again ≡ false
byte_is_read text b = (read_good (after (at T.data_state) text) b (after_holds (at T.data_state) text tt)).0
