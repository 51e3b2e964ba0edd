-- A step emits no start tag, or a start tag alone, after which it is in the state of its name and nothing is read once more.
use Rattle.std.proofs.Common.{◌≡◌, ◌⊎◌, ℕ, zero, suc, Bool, true, false, not, ◌==◌, ◌&&◌, ◌||◌, List, [], ◌∷◌, ◌++◌, map, codes, refl, ap, sym, ◌∙◌, inl, inr, true≢false, append_assoc, if◌then◌else◌}
use Rattle.std.specs.Prelude.{⊤}
use Rattle.std.specs.Char.{is_ascii_alphabetic, is_ascii_alphanumeric, is_ascii_digit, is_ascii_hexdigit, to_ascii_lowercase}
use Rattle.std.specs.Str.{bytes_eq}
use Rattle.std.proofs.lemmas.Bool.{cases_Bool, cond_both}
use Rattle.tl_html_spec.specs.References.{named_value, number_value}
use Rattle.tl_html_spec.specs.HtmlTokenizer as T
use Rattle.tl_html_spec.specs.HtmlTokenizer.{HtmlAttribute, HtmlToken, Character, StartTag, EndTag, CommentToken, DoctypeToken, OpenTag, Raw, State, Step, char_of, ends_name, is_white_space, settled, step, whole_step}
use Rattle.tl_html_spec.specs.Reader.{is_at_rest}

-- no token is a start tag
abbrev pub NoStart : List HtmlToken → Type 0
NoStart [] = ⊤
NoStart (Character c ∷ ts) = NoStart ts
NoStart (StartTag name attributes closes ∷ ts) = ⊥
NoStart (EndTag name ∷ ts) = NoStart ts
NoStart (CommentToken bytes ∷ ts) = NoStart ts
NoStart (DoctypeToken ∷ ts) = NoStart ts

pub chars : (bytes : List ℕ) → NoStart (map Character bytes)
chars [] = tt
chars (b ∷ bytes) = chars bytes

pub both : (ts us : List HtmlToken) → NoStart ts → NoStart us → NoStart (ts ++ us)
both [] us h k = k
both (Character c ∷ ts) us h k = both ts us h k
both (StartTag n a c ∷ ts) us h k = absurd h
both (EndTag n ∷ ts) us h k = both ts us h k
both (CommentToken c ∷ ts) us h k = both ts us h k
both (DoctypeToken ∷ ts) us h k = both ts us h k

-- a start tag alone
pub record Starts (x : Step) : Type 0 where
  pub name : List ℕ
  pub attributes : List HtmlAttribute
  pub closes : Bool
  pub once : x.again ≡ false
  pub emits : x.emits ≡ StartTag name attributes closes ∷ []
  pub next : x.next ≡ T.after_start name

abbrev pub Fine : Step → Type 0
Fine x = NoStart x.emits ⊎ Starts x

pick : (v : Bool) (x y : Step) → Fine x → Fine y → Fine (if v then x else y)
pick true x y h k = h
pick false x y h k = k

emitted : (tag : OpenTag) (closes : Bool) → Fine (T.emitted tag closes)
emitted tag closes = elim (cases_Bool tag.is_end) [
  | inl y ↦ rw y (inl tt)
  | inr n ↦ rw n (inr (record { name = tag.name; attributes = tag.attributes; closes = closes; once = refl; emits = refl; next = refl }))
]

-- what a reference gives
flushed : (s : State) (bytes : List ℕ) (again : Bool) → NoStart (T.flushed s bytes again).emits
flushed (T.double_quoted tag key value) bytes again = tt
flushed (T.single_quoted tag key value) bytes again = tt
flushed (T.unquoted tag key value) bytes again = tt
flushed _ bytes again = chars bytes

in_raw : (r : Raw) (b : ℕ) → NoStart (T.in_raw r b).emits
in_raw (T.rcdata name) b = cond_both (b == 38) _ _ (λ (x : Step). NoStart x.emits) (λ _. tt) (λ _. cond_both (b == 60) _ _ (λ (x : Step). NoStart x.emits) (λ _. tt) (λ _. chars (char_of b)))
in_raw (T.rawtext name) b = cond_both (b == 60) _ _ (λ (x : Step). NoStart x.emits) (λ _. tt) (λ _. chars (char_of b))
in_raw T.script_data b = cond_both (b == 60) _ _ (λ (x : Step). NoStart x.emits) (λ _. tt) (λ _. chars (char_of b))
in_raw T.script_data_escaped b =
    cond_both (b == 45) _ _ (λ (x : Step). NoStart x.emits) (λ _. tt) (λ _. cond_both (b == 60) _ _ (λ (x : Step). NoStart x.emits) (λ _. tt) (λ _. chars (char_of b)))
in_raw T.script_data_escaped_dash b =
    cond_both (b == 45) _ _ (λ (x : Step). NoStart x.emits) (λ _. tt) (λ _. cond_both (b == 60) _ _ (λ (x : Step). NoStart x.emits) (λ _. tt) (λ _. chars (char_of b)))
in_raw T.script_data_escaped_dash_dash b =
    cond_both (b == 45) _ _ (λ (x : Step). NoStart x.emits) (λ _. tt)
    (λ _. cond_both (b == 60) _ _ (λ (x : Step). NoStart x.emits) (λ _. tt)
    (λ _. cond_both (b == 62) _ _ (λ (x : Step). NoStart x.emits) (λ _. tt) (λ _. chars (char_of b))))

-- a state of rest emits characters
pub rest_quiet : (s : State) (b : ℕ) → is_at_rest s ≡ true → NoStart (step s b).emits
rest_quiet T.data_state b h = cond_both (b == 38) _ _ (λ (x : Step). NoStart x.emits) (λ _. tt) (λ _. cond_both (b == 60) _ _ (λ (x : Step). NoStart x.emits) (λ _. tt) (λ _. tt))
rest_quiet (T.raw r) b h = in_raw r b
rest_quiet T.plaintext b h = chars (char_of b)
rest_quiet _ b h = absurd (true≢false (sym h))

after_less : (r : Raw) (b : ℕ) → Fine (T.after_less_than_sign r b)
after_less T.script_data b = pick (b == 33) _ _ (inl tt) (inl tt)
after_less T.script_data_escaped b = pick (is_ascii_alphabetic b) _ _ (inl tt) (inl tt)
after_less _ b = inl tt

pub fine : (s : State) (b : ℕ) → Fine (step s b)
fine T.data_state b = inl (rest_quiet T.data_state b refl)
fine (T.raw r) b = inl (in_raw r b)
fine T.plaintext b = inl (chars (char_of b))
fine T.tag_open b = pick (b == 33) _ _ (inl tt) (pick (b == 47) _ _ (inl tt) (pick (is_ascii_alphabetic b) _ _ (inl tt) (pick (b == 63) _ _ (inl tt) (inl tt))))
fine T.end_tag_open b = pick (is_ascii_alphabetic b) _ _ (inl tt) (pick (b == 62) _ _ (inl tt) (inl tt))
fine (T.tag_name tag) b = pick (is_white_space b) _ _ (inl tt) (pick (b == 47) _ _ (inl tt) (pick (b == 62) _ _ (emitted tag false) (inl tt)))
fine (T.raw_less_than_sign r) b = pick (b == 47) _ _ (inl tt) (after_less r b)
fine (T.raw_end_tag_open r) b = pick (is_ascii_alphabetic b) _ _ (inl tt) (inl tt)
fine (T.raw_end_tag_name r buffer) b =
    pick (is_white_space b && T.is_appropriate r buffer) _ _ (inl tt) (pick ((b == 47) && T.is_appropriate r buffer) _ _ (inl tt)
    (pick ((b == 62) && T.is_appropriate r buffer) _ _ (emitted (T.own_end_tag r) false) (pick (is_ascii_alphabetic b) _ _ (inl tt) (inl (chars (codes "</" ++ buffer))))))
fine T.script_data_escape_start b = pick (b == 45) _ _ (inl tt) (inl tt)
fine T.script_data_escape_start_dash b = pick (b == 45) _ _ (inl tt) (inl tt)
fine (T.script_data_double_escape_start buffer) b = pick (ends_name b) _ _ (inl tt) (pick (is_ascii_alphabetic b) _ _ (inl tt) (inl tt))
fine T.script_data_double_escaped b = pick (b == 45) _ _ (inl tt) (pick (b == 60) _ _ (inl tt) (inl (chars (char_of b))))
fine T.script_data_double_escaped_dash b = pick (b == 45) _ _ (inl tt) (pick (b == 60) _ _ (inl tt) (inl (chars (char_of b))))
fine T.script_data_double_escaped_dash_dash b =
    pick (b == 45) _ _ (inl tt) (pick (b == 60) _ _ (inl tt) (pick (b == 62) _ _ (inl tt) (inl (chars (char_of b)))))
fine T.script_data_double_escaped_less_than_sign b = pick (b == 47) _ _ (inl tt) (inl tt)
fine (T.script_data_double_escape_end buffer) b = pick (ends_name b) _ _ (inl tt) (pick (is_ascii_alphabetic b) _ _ (inl tt) (inl tt))
fine (T.before_attribute_name tag) b =
    pick (is_white_space b) _ _ (inl tt) (pick (b == 47) _ _ (inl tt) (pick (b == 62) _ _ (emitted tag false) (pick (b == 61) _ _ (inl tt) (inl tt))))
fine (T.attribute_name tag key) b = pick (ends_name b) _ _ (inl tt) (pick (b == 61) _ _ (inl tt) (inl tt))
fine (T.after_attribute_name tag key) b =
    pick (is_white_space b) _ _ (inl tt) (pick (b == 47) _ _ (inl tt) (pick (b == 61) _ _ (inl tt) (pick (b == 62) _ _ (emitted (T.with_attribute tag key []) false) (inl tt))))
fine (T.before_attribute_value tag key) b =
    pick (is_white_space b) _ _ (inl tt) (pick (b == 34) _ _ (inl tt) (pick (b == 39) _ _ (inl tt) (pick (b == 62) _ _ (emitted (T.with_attribute tag key []) false) (inl tt))))
fine (T.double_quoted tag key value) b = pick (b == 34) _ _ (inl tt) (pick (b == 38) _ _ (inl tt) (inl tt))
fine (T.single_quoted tag key value) b = pick (b == 39) _ _ (inl tt) (pick (b == 38) _ _ (inl tt) (inl tt))
fine (T.unquoted tag key value) b =
    pick (is_white_space b) _ _ (inl tt) (pick (b == 38) _ _ (inl tt) (pick (b == 62) _ _ (emitted (T.with_attribute tag key value) false) (inl tt)))
fine (T.after_attribute_value tag) b = pick (is_white_space b) _ _ (inl tt) (pick (b == 47) _ _ (inl tt) (pick (b == 62) _ _ (emitted tag false) (inl tt)))
fine (T.self_closing_start_tag tag) b = pick (b == 62) _ _ (emitted tag true) (inl tt)
fine (T.bogus_comment bytes) b = pick (b == 62) _ _ (inl tt) (inl tt)
fine (T.markup_declaration_open buffer) b =
    pick (bytes_eq (buffer ++ b ∷ []) (codes "--")) _ _ (inl tt)
    (pick (bytes_eq (map to_ascii_lowercase (buffer ++ b ∷ [])) (codes "doctype")) _ _ (inl tt)
    (pick (T.begins (codes "--") (buffer ++ b ∷ []) || T.begins (codes "doctype") (buffer ++ b ∷ [])) _ _ (inl tt) (inl tt)))
fine T.comment_start b = pick (b == 45) _ _ (inl tt) (pick (b == 62) _ _ (inl tt) (inl tt))
fine T.comment_start_dash b = pick (b == 45) _ _ (inl tt) (pick (b == 62) _ _ (inl tt) (inl tt))
fine (T.comment bytes) b = pick (b == 60) _ _ (inl tt) (pick (b == 45) _ _ (inl tt) (inl tt))
fine (T.comment_less_than_sign bytes) b = pick (b == 33) _ _ (inl tt) (pick (b == 60) _ _ (inl tt) (inl tt))
fine (T.comment_less_than_sign_bang bytes) b = pick (b == 45) _ _ (inl tt) (inl tt)
fine (T.comment_less_than_sign_bang_dash bytes) b = pick (b == 45) _ _ (inl tt) (inl tt)
fine (T.comment_less_than_sign_bang_dash_dash bytes) b = inl tt
fine (T.comment_end_dash bytes) b = pick (b == 45) _ _ (inl tt) (inl tt)
fine (T.comment_end bytes) b = pick (b == 62) _ _ (inl tt) (pick (b == 33) _ _ (inl tt) (pick (b == 45) _ _ (inl tt) (inl tt)))
fine (T.comment_end_bang bytes) b = pick (b == 45) _ _ (inl tt) (pick (b == 62) _ _ (inl tt) (inl tt))
fine T.doctype b = pick (b == 62) _ _ (inl tt) (inl tt)
fine (T.character_reference s) b = pick (is_ascii_alphanumeric b) _ _ (inl tt) (pick (b == 35) _ _ (inl tt) (inl (flushed s (codes "&") true)))
fine (T.named_character_reference s buffer) b =
    pick (is_ascii_alphanumeric b) _ _ (inl tt) (pick (b == 59) _ _ (inl (flushed s (named_value (T.is_value s) (buffer ++ b ∷ []) []) false))
    (inl (flushed s (named_value (T.is_value s) buffer (b ∷ [])) true)))
fine (T.numeric_character_reference s) b = pick (to_ascii_lowercase b == 120) _ _ (inl tt) (inl tt)
fine (T.hexadecimal_start s x) b = pick (is_ascii_hexdigit b) _ _ (inl tt) (inl (flushed s (codes "&#" ++ x ∷ []) true))
fine (T.decimal_start s) b = pick (is_ascii_digit b) _ _ (inl tt) (inl (flushed s (codes "&#") true))
fine (T.hexadecimal s code) b = pick (is_ascii_hexdigit b) _ _ (inl tt) (inl (flushed s (number_value code) (not (b == 59))))
fine (T.decimal s code) b = pick (is_ascii_digit b) _ _ (inl tt) (inl (flushed s (number_value code) (not (b == 59))))

-- a step that is followed by another one emits no start tag
pub again_quiet : (x : Step) → Fine x → x.again ≡ true → NoStart x.emits
again_quiet x (inl h) y = h
again_quiet x (inr s) y = absurd (true≢false (sym y ∙ s.once))

-- a whole step: its last token may be a start tag
pub record Ends (x : Step) : Type 0 where
  pub front : List HtmlToken
  pub name : List ℕ
  pub attributes : List HtmlAttribute
  pub closes : Bool
  pub emits : x.emits ≡ front ++ StartTag name attributes closes ∷ []
  pub next : x.next ≡ T.after_start name

once : (x : Step) (again : Bool) → Fine x → NoStart x.emits ⊎ Ends (record { next = x.next; emits = x.emits; again = again })
once x again (inl h) = inl h
once x again (inr s) = inr (record { front = []; name = s.name; attributes = s.attributes; closes = s.closes; emits = s.emits; next = s.next })

joined : (x r : Step) → NoStart x.emits → NoStart r.emits ⊎ Ends r → NoStart (x.emits ++ r.emits) ⊎ Ends (record r { emits = x.emits ++ r.emits })
joined x r h (inl k) = inl (both x.emits r.emits h k)
joined x r h (inr e) = inr (record {
  front = x.emits ++ e.front;
  name = e.name;
  attributes = e.attributes;
  closes = e.closes;
  emits = ap (λ ts. x.emits ++ ts) e.emits ∙ sym (append_assoc x.emits e.front (StartTag e.name e.attributes e.closes ∷ []));
  next = e.next;
})

settled_ends : (n : ℕ) (x : Step) (b : ℕ) → Fine x → NoStart (settled n x b).emits ⊎ Ends (settled n x b)
settled_ends zero x b h = once x x.again h
settled_ends (suc n) x b h = elim (cases_Bool x.again) [
  | inl y ↦ rw y (joined x (settled n (step x.next b) b) (again_quiet x h y) (settled_ends n (step x.next b) b (fine x.next b)))
  | inr m ↦ rw m (once x false h)
]

pub whole_ends : (s : State) (b : ℕ) → NoStart (whole_step s b).emits ⊎ Ends (whole_step s b)
whole_ends s b = settled_ends 3 (step s b) b (fine s b)
