-- No start tag that the tokenizer emits has an empty name, whatever drives it.
use Rattle.std.proofs.Common.{Bool, List, [], arith, codes, false, if◌then◌else◌, inl, inr, map, not, refl, suc, sym, true, true≢false, zero, ℕ, ◌&&◌, ◌++◌, ◌==◌, ◌||◌, ◌∙◌, ◌∷◌, ◌≡◌}
use Rattle.std.specs.Prelude.{⊤, ◌*◌, ◌+◌}
use Rattle.std.specs.Char.{is_ascii_alphabetic, is_ascii_alphanumeric, is_ascii_digit, is_ascii_hexdigit, to_ascii_lowercase}
use Rattle.std.specs.List.{list_any, starts_with}
use Rattle.std.specs.Str.{bytes_eq}
use Rattle.std.proofs.lemmas.Bool.{cases_Bool, cond_both}
use Rattle.tl_names.specs.Elements.{is_among, rawtext_names, rcdata_names}
use Rattle.tl_html_spec.specs.References.{named_value, number_value}
use Rattle.tl_html_spec.specs.HtmlTokenizer as T
use Rattle.tl_html_spec.specs.HtmlTokenizer.{Character, CommentToken, DoctypeToken, EndTag, HtmlAttribute, HtmlToken, OpenTag, Raw, StartTag, State, Step, char_of, ends_name, is_white_space, settled, step, whole_step}
use Rattle.tl_html_spec.specs.Driven.{DrivenState, DrivenStep, Driver, Driving, Emission, byte_driven, cdata_section, cdata_section_bracket, cdata_section_end, cdata_start, doctype_of, drive, driven_end, driven_step, driven_tokens, ends_with_start, entered, in_doctype, in_state, next_driven, of_step, opens_cdata, passes, plain, taken}
use Rattle.tl_html_spec.specs.Reader.{feed}
use Rattle.tl_html_spec.specs.Sound.{IsSome}
use Rattle.tl_dom_spec.specs.Driver.{emitted_token}
use Rattle.tl_dom_spec.specs.Lawful.{HaveNames}

-- what holds of tags, states and steps

abbrev HasName : OpenTag → Type 0
HasName tag = tag.is_end ≡ false → IsSome tag.name

-- the first letter of a name is read once more, and the name is empty before
abbrev is_tag_open : State → Bool
is_tag_open T.tag_open = true
is_tag_open _ = false

-- behind the first letter of its name a start tag has one; and no reference stands in "tag open"
abbrev pub IsNamed : State → Type 0
IsNamed (T.tag_name tag) = HasName tag
IsNamed (T.before_attribute_name tag) = HasName tag
IsNamed (T.attribute_name tag key) = HasName tag
IsNamed (T.after_attribute_name tag key) = HasName tag
IsNamed (T.before_attribute_value tag key) = HasName tag
IsNamed (T.double_quoted tag key value) = HasName tag
IsNamed (T.single_quoted tag key value) = HasName tag
IsNamed (T.unquoted tag key value) = HasName tag
IsNamed (T.after_attribute_value tag) = HasName tag
IsNamed (T.self_closing_start_tag tag) = HasName tag
IsNamed (T.character_reference s) = (is_tag_open s ≡ false) × IsNamed s
IsNamed (T.named_character_reference s buffer) = (is_tag_open s ≡ false) × IsNamed s
IsNamed (T.numeric_character_reference s) = (is_tag_open s ≡ false) × IsNamed s
IsNamed (T.hexadecimal_start s x) = (is_tag_open s ≡ false) × IsNamed s
IsNamed (T.decimal_start s) = (is_tag_open s ≡ false) × IsNamed s
IsNamed (T.hexadecimal s code) = (is_tag_open s ≡ false) × IsNamed s
IsNamed (T.decimal s code) = (is_tag_open s ≡ false) × IsNamed s
IsNamed _ = ⊤

-- where a byte may be read once more
abbrev Rereads : State → Type 0
Rereads s = (is_tag_open s ≡ false) × IsNamed s

abbrev Emits : List HtmlToken → Type 0
Emits ts = HaveNames (map emitted_token (map plain ts))

abbrev Goes : Step → Type 0
Goes x = Emits x.emits × IsNamed x.next

abbrev Good : Step → Type 0
Good x = Emits x.emits × IsNamed x.next × (x.again ≡ true → is_tag_open x.next ≡ false)

pick : (v : Bool) (x y : Step) → Good x → Good y → Good (if v then x else y)
pick v x y h k = cond_both v x y Good (λ _. h) (λ _. k)

chars : (bytes : List ℕ) → Emits (map Character bytes)
chars [] = tt
chars (b ∷ bytes) = chars bytes

stay : (s : State) (ts : List HtmlToken) → Emits ts → IsNamed s → Good (record { next = s; emits = ts; again = false })
stay s ts e h = (e, h, λ y. absurd (true≢false (sym y)))

to : (s : State) → IsNamed s → Good (T.to s)
to s h = stay s [] tt h

out : (bytes : List ℕ) (s : State) → IsNamed s → Good (T.emitting bytes s)
out bytes s h = stay s (map Character bytes) (chars bytes) h

again : (s : State) → Rereads s → Good (T.again_in s)
again s h = (tt, h.1, λ _. h.0)

out_again : (bytes : List ℕ) (s : State) → Rereads s → Good (T.emitting_again bytes s)
out_again bytes s h = (chars bytes, h.1, λ _. h.0)

-- parts

some_append : (w v : List ℕ) → IsSome v → IsSome (w ++ v)
some_append [] v h = h
some_append (b ∷ w) v h = tt

char_some : (b : ℕ) → IsSome (char_of b)
char_some b = cond_both (b == 0) _ _ IsSome (λ _. tt) (λ _. tt)

with_letter : (tag : OpenTag) (b : ℕ) → HasName (T.with_letter tag b)
with_letter tag b = λ _. some_append tag.name (char_of (to_ascii_lowercase b)) (char_some (to_ascii_lowercase b))

with_pair : (tag : OpenTag) (key value : List ℕ) → HasName tag → HasName (T.with_attribute tag key value)
with_pair tag key value h =
    cond_both (list_any (λ (a : HtmlAttribute). bytes_eq a.0 key) tag.attributes) _ _ HasName (λ _. h) (λ _. h)

-- of an end tag nothing is asked
no_start : (tag : OpenTag) → tag.is_end ≡ true → HasName tag
no_start tag y = λ n. absurd (true≢false (sym y ∙ n))

pub after_named : (name : List ℕ) → IsNamed (T.after_start name)
after_named name =
    cond_both (is_among rcdata_names name) _ _ IsNamed (λ _. tt)
    (λ _. cond_both (is_among rawtext_names name) _ _ IsNamed (λ _. tt)
    (λ _. cond_both (bytes_eq name (codes "script")) _ _ IsNamed (λ _. tt)
    (λ _. cond_both (bytes_eq name (codes "plaintext")) _ _ IsNamed (λ _. tt) (λ _. tt))))

emitted : (tag : OpenTag) (closes : Bool) → HasName tag → Good (T.emitted tag closes)
emitted tag closes h =
    cond_both tag.is_end _ _ Good (λ _. stay T.data_state (EndTag tag.name ∷ []) tt tt)
    (λ n. stay (T.after_start tag.name) (StartTag tag.name tag.attributes closes ∷ []) (h n, tt) (after_named tag.name))

-- what a reference gives
flushed : (s : State) (bytes : List ℕ) (v : Bool) → Rereads s → Good (T.flushed s bytes v)
flushed (T.double_quoted tag key value) bytes v h = (tt, h.1, λ _. refl)
flushed (T.single_quoted tag key value) bytes v h = (tt, h.1, λ _. refl)
flushed (T.unquoted tag key value) bytes v h = (tt, h.1, λ _. refl)
flushed _ bytes v h = (chars bytes, h.1, λ _. h.0)

-- texts

in_raw : (r : Raw) (b : ℕ) → Good (T.in_raw r b)
in_raw (T.rcdata name) b =
    pick (b == 38) _ _ (to (T.character_reference (T.raw (T.rcdata name))) (refl, tt))
    (pick (b == 60) _ _ (to (T.raw_less_than_sign (T.rcdata name)) tt) (out (char_of b) (T.raw (T.rcdata name)) tt))
in_raw (T.rawtext name) b =
    pick (b == 60) _ _ (to (T.raw_less_than_sign (T.rawtext name)) tt) (out (char_of b) (T.raw (T.rawtext name)) tt)
in_raw T.script_data b =
    pick (b == 60) _ _ (to (T.raw_less_than_sign T.script_data) tt) (out (char_of b) (T.raw T.script_data) tt)
in_raw T.script_data_escaped b =
    pick (b == 45) _ _ (out (codes "-") (T.raw T.script_data_escaped_dash) tt)
    (pick (b == 60) _ _ (to (T.raw_less_than_sign T.script_data_escaped) tt) (out (char_of b) (T.raw T.script_data_escaped) tt))
in_raw T.script_data_escaped_dash b =
    pick (b == 45) _ _ (out (codes "-") (T.raw T.script_data_escaped_dash_dash) tt)
    (pick (b == 60) _ _ (to (T.raw_less_than_sign T.script_data_escaped) tt) (out (char_of b) (T.raw T.script_data_escaped) tt))
in_raw T.script_data_escaped_dash_dash b =
    pick (b == 45) _ _ (out (codes "-") (T.raw T.script_data_escaped_dash_dash) tt)
    (pick (b == 60) _ _ (to (T.raw_less_than_sign T.script_data_escaped) tt)
    (pick (b == 62) _ _ (out (codes ">") (T.raw T.script_data) tt) (out (char_of b) (T.raw T.script_data_escaped) tt)))

after_less : (r : Raw) (b : ℕ) → Good (T.after_less_than_sign r b)
after_less T.script_data b = pick (b == 33) _ _ (out (codes "<!") T.script_data_escape_start tt) (out_again (codes "<") (T.raw T.script_data) (refl, tt))
after_less T.script_data_escaped b =
    pick (is_ascii_alphabetic b) _ _ (out_again (codes "<") (T.script_data_double_escape_start []) (refl, tt))
    (out_again (codes "<") (T.raw T.script_data_escaped) (refl, tt))
after_less r b = out_again (codes "<") (T.raw r) (refl, tt)

after_word : (buffer : List ℕ) (s u : State) → IsNamed s → IsNamed u → IsNamed (T.after_word buffer s u)
after_word buffer s u h k = cond_both (bytes_eq buffer (codes "script")) s u IsNamed (λ _. h) (λ _. k)

-- each state but "tag open"

step_good : (s : State) (b : ℕ) → is_tag_open s ≡ false → IsNamed s → Good (step s b)
step_good T.tag_open b n h = absurd (true≢false n)
step_good T.data_state b n h =
    pick (b == 38) _ _ (to (T.character_reference T.data_state) (refl, tt)) (pick (b == 60) _ _ (to T.tag_open tt) (out (b ∷ []) T.data_state tt))
step_good (T.raw r) b n h = in_raw r b
step_good T.plaintext b n h = out (char_of b) T.plaintext tt
step_good T.end_tag_open b n h =
    pick (is_ascii_alphabetic b) _ _ (again (T.tag_name (T.new_tag true)) (refl, no_start (T.new_tag true) refl))
    (pick (b == 62) _ _ (to T.data_state tt) (again (T.bogus_comment []) (refl, tt)))
step_good (T.tag_name tag) b n h =
    pick (is_white_space b) _ _ (to (T.before_attribute_name tag) h)
    (pick (b == 47) _ _ (to (T.self_closing_start_tag tag) h)
    (pick (b == 62) _ _ (emitted tag false h) (to (T.tag_name (T.with_letter tag b)) (with_letter tag b))))
step_good (T.raw_less_than_sign r) b n h = pick (b == 47) _ _ (to (T.raw_end_tag_open r) tt) (after_less r b)
step_good (T.raw_end_tag_open r) b n h =
    pick (is_ascii_alphabetic b) _ _ (again (T.raw_end_tag_name r []) (refl, tt)) (out_again (codes "</") (T.raw r) (refl, tt))
step_good (T.raw_end_tag_name r buffer) b n h =
    let own = no_start (T.own_end_tag r) refl in
    pick (is_white_space b && T.is_appropriate r buffer) _ _ (to (T.before_attribute_name (T.own_end_tag r)) own)
    (pick ((b == 47) && T.is_appropriate r buffer) _ _ (to (T.self_closing_start_tag (T.own_end_tag r)) own)
    (pick ((b == 62) && T.is_appropriate r buffer) _ _ (emitted (T.own_end_tag r) false own)
    (pick (is_ascii_alphabetic b) _ _ (to (T.raw_end_tag_name r (buffer ++ b ∷ [])) tt) (out_again (codes "</" ++ buffer) (T.raw r) (refl, tt)))))
step_good T.script_data_escape_start b n h = pick (b == 45) _ _ (out (codes "-") T.script_data_escape_start_dash tt) (again (T.raw T.script_data) (refl, tt))
step_good T.script_data_escape_start_dash b n h =
    pick (b == 45) _ _ (out (codes "-") (T.raw T.script_data_escaped_dash_dash) tt) (again (T.raw T.script_data) (refl, tt))
step_good (T.script_data_double_escape_start buffer) b n h =
    pick (ends_name b) _ _ (out (b ∷ []) (T.after_word buffer T.script_data_double_escaped (T.raw T.script_data_escaped)) (after_word buffer _ _ tt tt))
    (pick (is_ascii_alphabetic b) _ _ (out (b ∷ []) (T.script_data_double_escape_start (buffer ++ to_ascii_lowercase b ∷ [])) tt)
    (again (T.raw T.script_data_escaped) (refl, tt)))
step_good T.script_data_double_escaped b n h =
    pick (b == 45) _ _ (out (codes "-") T.script_data_double_escaped_dash tt)
    (pick (b == 60) _ _ (out (codes "<") T.script_data_double_escaped_less_than_sign tt) (out (char_of b) T.script_data_double_escaped tt))
step_good T.script_data_double_escaped_dash b n h =
    pick (b == 45) _ _ (out (codes "-") T.script_data_double_escaped_dash_dash tt)
    (pick (b == 60) _ _ (out (codes "<") T.script_data_double_escaped_less_than_sign tt) (out (char_of b) T.script_data_double_escaped tt))
step_good T.script_data_double_escaped_dash_dash b n h =
    pick (b == 45) _ _ (out (codes "-") T.script_data_double_escaped_dash_dash tt)
    (pick (b == 60) _ _ (out (codes "<") T.script_data_double_escaped_less_than_sign tt)
    (pick (b == 62) _ _ (out (codes ">") (T.raw T.script_data) tt) (out (char_of b) T.script_data_double_escaped tt)))
step_good T.script_data_double_escaped_less_than_sign b n h =
    pick (b == 47) _ _ (out (codes "/") (T.script_data_double_escape_end []) tt) (again T.script_data_double_escaped (refl, tt))
step_good (T.script_data_double_escape_end buffer) b n h =
    pick (ends_name b) _ _ (out (b ∷ []) (T.after_word buffer (T.raw T.script_data_escaped) T.script_data_double_escaped) (after_word buffer _ _ tt tt))
    (pick (is_ascii_alphabetic b) _ _ (out (b ∷ []) (T.script_data_double_escape_end (buffer ++ to_ascii_lowercase b ∷ [])) tt)
    (again T.script_data_double_escaped (refl, tt)))
step_good (T.before_attribute_name tag) b n h =
    pick (is_white_space b) _ _ (to (T.before_attribute_name tag) h)
    (pick (b == 47) _ _ (to (T.self_closing_start_tag tag) h)
    (pick (b == 62) _ _ (emitted tag false h)
    (pick (b == 61) _ _ (to (T.attribute_name tag (b ∷ [])) h) (again (T.attribute_name tag []) (refl, h)))))
step_good (T.attribute_name tag key) b n h =
    pick (ends_name b) _ _ (again (T.after_attribute_name tag key) (refl, h))
    (pick (b == 61) _ _ (to (T.before_attribute_value tag key) h) (to (T.attribute_name tag (key ++ char_of (to_ascii_lowercase b))) h))
step_good (T.after_attribute_name tag key) b n h =
    let more = with_pair tag key [] h in
    pick (is_white_space b) _ _ (to (T.after_attribute_name tag key) h)
    (pick (b == 47) _ _ (to (T.self_closing_start_tag (T.with_attribute tag key [])) more)
    (pick (b == 61) _ _ (to (T.before_attribute_value tag key) h)
    (pick (b == 62) _ _ (emitted (T.with_attribute tag key []) false more) (again (T.attribute_name (T.with_attribute tag key []) []) (refl, more)))))
step_good (T.before_attribute_value tag key) b n h =
    pick (is_white_space b) _ _ (to (T.before_attribute_value tag key) h)
    (pick (b == 34) _ _ (to (T.double_quoted tag key []) h)
    (pick (b == 39) _ _ (to (T.single_quoted tag key []) h)
    (pick (b == 62) _ _ (emitted (T.with_attribute tag key []) false (with_pair tag key [] h)) (again (T.unquoted tag key []) (refl, h)))))
step_good (T.double_quoted tag key value) b n h =
    pick (b == 34) _ _ (to (T.after_attribute_value (T.with_attribute tag key value)) (with_pair tag key value h))
    (pick (b == 38) _ _ (to (T.character_reference (T.double_quoted tag key value)) (refl, h)) (to (T.double_quoted tag key (value ++ char_of b)) h))
step_good (T.single_quoted tag key value) b n h =
    pick (b == 39) _ _ (to (T.after_attribute_value (T.with_attribute tag key value)) (with_pair tag key value h))
    (pick (b == 38) _ _ (to (T.character_reference (T.single_quoted tag key value)) (refl, h)) (to (T.single_quoted tag key (value ++ char_of b)) h))
step_good (T.unquoted tag key value) b n h =
    let more = with_pair tag key value h in
    pick (is_white_space b) _ _ (to (T.before_attribute_name (T.with_attribute tag key value)) more)
    (pick (b == 38) _ _ (to (T.character_reference (T.unquoted tag key value)) (refl, h))
    (pick (b == 62) _ _ (emitted (T.with_attribute tag key value) false more) (to (T.unquoted tag key (value ++ char_of b)) h)))
step_good (T.after_attribute_value tag) b n h =
    pick (is_white_space b) _ _ (to (T.before_attribute_name tag) h)
    (pick (b == 47) _ _ (to (T.self_closing_start_tag tag) h)
    (pick (b == 62) _ _ (emitted tag false h) (again (T.before_attribute_name tag) (refl, h))))
step_good (T.self_closing_start_tag tag) b n h = pick (b == 62) _ _ (emitted tag true h) (again (T.before_attribute_name tag) (refl, h))
step_good (T.bogus_comment bytes) b n h =
    pick (b == 62) _ _ (stay T.data_state (CommentToken bytes ∷ []) tt tt) (to (T.bogus_comment (bytes ++ char_of b)) tt)
step_good (T.markup_declaration_open buffer) b n h =
    pick (bytes_eq (buffer ++ b ∷ []) (codes "--")) _ _ (to T.comment_start tt)
    (pick (bytes_eq (map to_ascii_lowercase (buffer ++ b ∷ [])) (codes "doctype")) _ _ (to T.doctype tt)
    (pick (T.begins (codes "--") (buffer ++ b ∷ []) || T.begins (codes "doctype") (buffer ++ b ∷ [])) _ _
    (to (T.markup_declaration_open (buffer ++ b ∷ [])) tt) (again (T.bogus_comment buffer) (refl, tt))))
step_good T.comment_start b n h =
    pick (b == 45) _ _ (to T.comment_start_dash tt) (pick (b == 62) _ _ (stay T.data_state (CommentToken [] ∷ []) tt tt) (again (T.comment []) (refl, tt)))
step_good T.comment_start_dash b n h =
    pick (b == 45) _ _ (to (T.comment_end []) tt)
    (pick (b == 62) _ _ (stay T.data_state (CommentToken [] ∷ []) tt tt) (again (T.comment (codes "-")) (refl, tt)))
step_good (T.comment bytes) b n h =
    pick (b == 60) _ _ (to (T.comment_less_than_sign (bytes ++ b ∷ [])) tt)
    (pick (b == 45) _ _ (to (T.comment_end_dash bytes) tt) (to (T.comment (bytes ++ char_of b)) tt))
step_good (T.comment_less_than_sign bytes) b n h =
    pick (b == 33) _ _ (to (T.comment_less_than_sign_bang (bytes ++ b ∷ [])) tt)
    (pick (b == 60) _ _ (to (T.comment_less_than_sign (bytes ++ b ∷ [])) tt) (again (T.comment bytes) (refl, tt)))
step_good (T.comment_less_than_sign_bang bytes) b n h =
    pick (b == 45) _ _ (to (T.comment_less_than_sign_bang_dash bytes) tt) (again (T.comment bytes) (refl, tt))
step_good (T.comment_less_than_sign_bang_dash bytes) b n h =
    pick (b == 45) _ _ (to (T.comment_less_than_sign_bang_dash_dash bytes) tt) (again (T.comment_end_dash bytes) (refl, tt))
step_good (T.comment_less_than_sign_bang_dash_dash bytes) b n h = again (T.comment_end bytes) (refl, tt)
step_good (T.comment_end_dash bytes) b n h =
    pick (b == 45) _ _ (to (T.comment_end bytes) tt) (again (T.comment (bytes ++ codes "-")) (refl, tt))
step_good (T.comment_end bytes) b n h =
    pick (b == 62) _ _ (stay T.data_state (CommentToken bytes ∷ []) tt tt)
    (pick (b == 33) _ _ (to (T.comment_end_bang bytes) tt)
    (pick (b == 45) _ _ (to (T.comment_end (bytes ++ codes "-")) tt) (again (T.comment (bytes ++ codes "--")) (refl, tt))))
step_good (T.comment_end_bang bytes) b n h =
    pick (b == 45) _ _ (to (T.comment_end_dash (bytes ++ codes "--!")) tt)
    (pick (b == 62) _ _ (stay T.data_state (CommentToken bytes ∷ []) tt tt) (again (T.comment (bytes ++ codes "--!")) (refl, tt)))
step_good T.doctype b n h = pick (b == 62) _ _ (stay T.data_state (DoctypeToken ∷ []) tt tt) (to T.doctype tt)
step_good (T.character_reference s) b n h =
    pick (is_ascii_alphanumeric b) _ _ (again (T.named_character_reference s []) (refl, h))
    (pick (b == 35) _ _ (to (T.numeric_character_reference s) h) (flushed s (codes "&") true h))
step_good (T.named_character_reference s buffer) b n h =
    pick (is_ascii_alphanumeric b) _ _ (to (T.named_character_reference s (buffer ++ b ∷ [])) h)
    (pick (b == 59) _ _ (flushed s (named_value (T.is_value s) (buffer ++ b ∷ []) []) false h)
    (flushed s (named_value (T.is_value s) buffer (b ∷ [])) true h))
step_good (T.numeric_character_reference s) b n h =
    pick (to_ascii_lowercase b == 120) _ _ (to (T.hexadecimal_start s b) h) (again (T.decimal_start s) (refl, h))
step_good (T.hexadecimal_start s x) b n h =
    pick (is_ascii_hexdigit b) _ _ (again (T.hexadecimal s 0) (refl, h)) (flushed s (codes "&#" ++ x ∷ []) true h)
step_good (T.decimal_start s) b n h =
    pick (is_ascii_digit b) _ _ (again (T.decimal s 0) (refl, h)) (flushed s (codes "&#") true h)
step_good (T.hexadecimal s code) b n h =
    pick (is_ascii_hexdigit b) _ _ (to (T.hexadecimal s (code * 16 + T.digit_value b)) h) (flushed s (number_value code) (not (b == 59)) h)
step_good (T.decimal s code) b n h =
    pick (is_ascii_digit b) _ _ (to (T.decimal s (code * 10 + T.digit_value b)) h) (flushed s (number_value code) (not (b == 59)) h)

-- a whole step

pub names_append : (es fs : List Emission) → HaveNames (map emitted_token es) → HaveNames (map emitted_token fs) → HaveNames (map emitted_token (es ++ fs))
names_append [] fs h k = k
names_append (doctype_of own ∷ es) fs h k = names_append es fs h k
names_append (plain (Character c) ∷ es) fs h k = names_append es fs h k
names_append (plain (StartTag name attributes closes) ∷ es) fs h k = (h.0, names_append es fs h.1 k)
names_append (plain (EndTag name) ∷ es) fs h k = names_append es fs h k
names_append (plain (CommentToken bytes) ∷ es) fs h k = names_append es fs h k
names_append (plain DoctypeToken ∷ es) fs h k = names_append es fs h k

emits_append : (ts us : List HtmlToken) → Emits ts → Emits us → Emits (ts ++ us)
emits_append [] us h k = k
emits_append (Character c ∷ ts) us h k = emits_append ts us h k
emits_append (StartTag name attributes closes ∷ ts) us h k = (h.0, emits_append ts us h.1 k)
emits_append (EndTag name ∷ ts) us h k = emits_append ts us h k
emits_append (CommentToken bytes ∷ ts) us h k = emits_append ts us h k
emits_append (DoctypeToken ∷ ts) us h k = emits_append ts us h k

settled_goes : (n : ℕ) (x : Step) (b : ℕ) → Good x → Goes (settled n x b)
settled_goes zero x b g = (g.0, g.1)
settled_goes (suc n) x b g = elim (cases_Bool x.again) [
  | inl y ↦ (
      let r = settled_goes n (step x.next b) b (step_good x.next b (g.2 y) g.1) in
      rw y (emits_append x.emits (settled n (step x.next b) b).emits g.0 r.0, r.1))
  | inr m ↦ rw m (g.0, g.1)
]

letter_no_space : (b : ℕ) → is_ascii_alphabetic b ≡ true → is_white_space b ≡ false
letter_no_space b h = grind arith

letter_no_solidus : (b : ℕ) → is_ascii_alphabetic b ≡ true → (b == 47) ≡ false
letter_no_solidus b h = grind arith

letter_no_greater : (b : ℕ) → is_ascii_alphabetic b ≡ true → (b == 62) ≡ false
letter_no_greater b h = grind arith

-- the first letter of a name
new_name : (b : ℕ) → is_ascii_alphabetic b ≡ true → Good (step (T.tag_name (T.new_tag false)) b)
new_name b l =
    rw (letter_no_space b l, letter_no_solidus b l, letter_no_greater b l)
    (to (T.tag_name (T.with_letter (T.new_tag false) b)) (with_letter (T.new_tag false) b))

open_goes : (b : ℕ) → Goes (whole_step T.tag_open b)
open_goes b =
    let From : Step → Type 0 = λ (x : Step). Goes (settled 3 x b) in
    cond_both (b == 33) _ _ From (λ _. (tt, tt))
    (λ _. cond_both (b == 47) _ _ From (λ _. (tt, tt))
    (λ _. cond_both (is_ascii_alphabetic b) _ _ From (λ l. settled_goes 2 (step (T.tag_name (T.new_tag false)) b) b (new_name b l))
    (λ _. cond_both (b == 63) _ _ From (λ _. settled_goes 3 (T.again_in (T.bogus_comment [])) b (again (T.bogus_comment []) (refl, tt)))
    (λ _. settled_goes 3 (T.emitting_again (codes "<") T.data_state) b (out_again (codes "<") T.data_state (refl, tt))))))

whole_goes : (s : State) (b : ℕ) → IsNamed s → Goes (whole_step s b)
whole_goes T.tag_open b h = open_goes b
whole_goes s b h = settled_goes 3 (step s b) b (step_good s b refl h)

end_names : (s : State) → IsNamed s → Emits (T.at_end s)
end_names T.tag_open h = tt
end_names T.end_tag_open h = tt
end_names (T.raw_end_tag_name r buffer) h = chars (codes "</" ++ buffer)
end_names (T.character_reference s) h = (flushed s (codes "&") false h).0
end_names (T.named_character_reference s buffer) h = (flushed s (named_value (T.is_value s) buffer []) false h).0
end_names (T.numeric_character_reference s) h = (flushed s (codes "&#") false h).0
end_names (T.hexadecimal_start s x) h = (flushed s (codes "&#" ++ x ∷ []) false h).0
end_names (T.decimal_start s) h = (flushed s (codes "&#") false h).0
end_names (T.hexadecimal s code) h = (flushed s (number_value code) false h).0
end_names (T.decimal s code) h = (flushed s (number_value code) false h).0
end_names _ h = tt

-- the states that the tokenizer by itself doesn't have

abbrev pub IsDrivenNamed : DrivenState → Type 0
IsDrivenNamed (in_state s) = IsNamed s
IsDrivenNamed _ = ⊤

abbrev GoesOn : DrivenStep → Type 0
GoesOn x = HaveNames (map emitted_token x.emits) × IsDrivenNamed x.next

entered_named : (s : State) → IsNamed s → IsDrivenNamed (entered s)
entered_named T.doctype h = tt
entered_named s h = h

of_whole : (s : State) (b : ℕ) → IsNamed s → GoesOn (of_step (whole_step s b))
of_whole s b h = let w = whole_goes s b h in (w.0, entered_named (whole_step s b).next w.1)

driven_goes : (f : Bool) (s : DrivenState) (c : ℕ) → IsDrivenNamed s → GoesOn (driven_step f s c)
driven_goes f (in_state s) c h = cond_both (f && opens_cdata s c) _ _ GoesOn (λ _. (tt, tt)) (λ _. of_whole s c h)
driven_goes f (cdata_start buffer) c h =
    cond_both (bytes_eq (buffer ++ c ∷ []) (codes "[CDATA[")) _ _ GoesOn (λ _. (tt, tt))
    (λ _. cond_both (starts_with ◌==◌ (codes "[CDATA[") (buffer ++ c ∷ [])) _ _ GoesOn (λ _. (tt, tt)) (λ _. of_whole (T.bogus_comment buffer) c tt))
driven_goes f cdata_section c h = cond_both (c == 93) _ _ GoesOn (λ _. (tt, tt)) (λ _. (tt, tt))
driven_goes f cdata_section_bracket c h = cond_both (c == 93) _ _ GoesOn (λ _. (tt, tt)) (λ _. (tt, tt))
driven_goes f cdata_section_end c h =
    cond_both (c == 93) _ _ GoesOn (λ _. (tt, tt)) (λ _. cond_both (c == 62) _ _ GoesOn (λ _. (tt, tt)) (λ _. (tt, tt)))
driven_goes f (in_doctype d) c h = cond_both (c == 62) _ _ GoesOn (λ _. (tt, tt)) (λ _. (tt, tt))

byte_goes : (passed f : Bool) (s : DrivenState) (b : ℕ) → IsDrivenNamed s → GoesOn (byte_driven passed f s b)
byte_goes true f s b h = (tt, h)
byte_goes false f s b h = driven_goes f s (feed b) h

driven_end_names : (s : DrivenState) → IsDrivenNamed s → HaveNames (map emitted_token (driven_end s))
driven_end_names (in_state s) h = end_names s h
driven_end_names (cdata_start buffer) h = tt
driven_end_names cdata_section h = tt
driven_end_names cdata_section_bracket h = tt
driven_end_names cdata_section_end h = tt
driven_end_names (in_doctype d) h = tt

-- a driver that keeps something of what it remembers, where it sets such states alone

module _ {M : Type 0} (d : Driver M) (Keeps : M → Type 0) (takes : (m : M) (e : Emission) → Keeps m → Keeps (d.take m e)) (sets : (m : M) → Keeps m → IsNamed (d.sets m)) where
  taken_keeps : (m : M) (es : List Emission) → Keeps m → Keeps (taken d m es)
  taken_keeps m [] k = k
  taken_keeps m (e ∷ es) k = taken_keeps (d.take m e) es (takes m e k)

  drive_goes : (v : Driving M) (b : ℕ) → IsDrivenNamed v.state → GoesOn (drive d v b)
  unfolding drive
  drive_goes v b h = byte_goes (passes v b) (d.is_foreign v.memory) v.state b h

  pub driven_names : (v : Driving M) (text : List ℕ) → Keeps v.memory → IsDrivenNamed v.state → HaveNames (map emitted_token (driven_tokens d v text))
  driven_names v [] k h = driven_end_names v.state h
  driven_names v (b ∷ text) k h =
      let x = drive d v b in
      let goes = drive_goes v b h in
      let later = taken_keeps v.memory x.emits k in
      names_append x.emits (driven_tokens d (next_driven d v b) text) goes.0
      (driven_names (next_driven d v b) text later
      (cond_both (ends_with_start x.emits) _ _ IsDrivenNamed (λ _. sets (taken d v.memory x.emits) later) (λ _. goes.1)))
