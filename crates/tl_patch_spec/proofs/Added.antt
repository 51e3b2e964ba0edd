-- A key that a tag lacks, put right after its name, stands first in the tag, and all else is as it was.
use Rattle.std.proofs.Common.{◌≡◌, ℕ, Bool, true, false, ◌||◌, ◌&&◌, not, ◌==◌, List, [], ◌∷◌, ◌++◌, refl, ap, ap₂, sym, subst, ◌∙◌, inl, inr, append_assoc, append-nil, if◌then◌else◌, true≢false}
use Rattle.std.specs.Char.{to_ascii_lowercase}
use Rattle.std.specs.List.{list_all, list_any}
use Rattle.std.specs.Str.{bytes_eq}
use Rattle.std.proofs.lemmas.Bool.{and_parts, cases_Bool, eqb-true, not-true}
use Rattle.std.proofs.lemmas.List.Folds.{list_any-append}
use Rattle.std.proofs.lemmas.Slice.Eq.{bytes_eq-Decides}
use Rattle.tl_html_spec.specs.HtmlTokenizer.{HtmlAttribute, HtmlToken, OpenTag, StartTag, State, Step, after_attribute_value, again_in, attribute_name, before_attribute_name, before_attribute_value, ends_name, is_white_space, settled, step, tag_name, to, whole_step, with_attribute}
use Rattle.tl_html_spec.specs.HtmlTokenizer.{emitted as tag_emitted}
use Rattle.tl_patch_spec.specs.TagChanges.{FirstLacks, Set, changed_first, has_attribute, has_key, with_key}
use Rattle.tl_html_spec.specs.Reader.{Reader, at, emitted, feed, read}
use Rattle.tl_patch_spec.proofs.Inside.{EndsWithout, Outcome, after_value, ended, inner_text, still, with_all}
use Rattle.tl_patch_spec.specs.Markup.{is_key, is_key_byte, is_without_nul, quoted_value, attribute_markup}
use Rattle.tl_html_spec.proofs.Fold.{emitted_append}
use Rattle.tl_patch_spec.proofs.Sets.{adding_if, attribute_is, end_emits, end_unchanged, has_all, neither, next_same, other_key, revalued_step, start_lacks, with_list}
use Rattle.tl_patch_spec.proofs.Tags.{emits_of, past, tag_text_emits}
use Rattle.tl_patch_spec.proofs.Writing.{Reads, quoted_value_reads, then_reads}

abbrev pub fronted : HtmlAttribute → OpenTag → OpenTag
fronted a tag = with_list tag (a ∷ tag.attributes)

front_if : (c : Bool) (a : HtmlAttribute) (tag : OpenTag) (k v : List ℕ) → adding_if c (fronted a tag) k v ≡ fronted a (adding_if c tag k v)
front_if true a tag k v = refl
front_if false a tag k v = refl

front_attribute : (a : HtmlAttribute) (tag : OpenTag) (k v : List ℕ) → bytes_eq a.0 k ≡ false → with_attribute (fronted a tag) k v ≡ fronted a (with_attribute tag k v)
front_attribute a tag k v n =
    attribute_is (fronted a tag) k v
    ∙ ap (λ (c : Bool). adding_if (c || has_attribute k tag) (fronted a tag) k v) n
    ∙ front_if (has_attribute k tag) a tag k v
    ∙ ap (fronted a) (sym (attribute_is tag k v))

pub other_way : (a b : List ℕ) → bytes_eq a b ≡ false → bytes_eq b a ≡ false
other_way a b n = elim (cases_Bool (bytes_eq b a)) [
  | inl y ↦ absurd (true≢false (sym ((bytes_eq-Decides a b).1 (sym ((bytes_eq-Decides b a).0 y))) ∙ n))
  | inr m ↦ m
]

pub record Lacks (key : List ℕ) (tag : OpenTag) (k : List ℕ) : Type 0 where
  pub before : has_attribute key tag ≡ false
  pub other : bytes_eq key k ≡ false

lacks_if : (c : Bool) (key : List ℕ) (tag : OpenTag) (k v : List ℕ) → has_attribute k tag ≡ c → has_attribute key (adding_if c tag k v) ≡ false → Lacks key tag k
lacks_if true key tag k v e h = record { before = h; other = other_key k key tag e h }
lacks_if false key tag k v e h =
    let p = neither (has_attribute key tag) (bytes_eq k key || false) (sym (list_any-append (has_key key) tag.attributes ((k, v) ∷ [])) ∙ h) in
    record { before = p.0; other = other_way k key (neither (bytes_eq k key) false p.1).0 }

pub lacks : (key : List ℕ) (tag : OpenTag) (k v : List ℕ) → has_attribute key (with_attribute tag k v) ≡ false → Lacks key tag k
lacks key tag k v h = lacks_if (has_attribute k tag) key tag k v refl (ap (has_attribute key) (sym (attribute_is tag k v)) ∙ h)

pub lacked : (key : List ℕ) (tag : OpenTag) (more : List HtmlAttribute) → has_attribute key (with_all tag more) ≡ false → has_attribute key tag ≡ false
lacked key tag more h = elim (cases_Bool (has_attribute key tag)) [
  | inl y ↦ absurd (true≢false (sym (has_all key tag more y) ∙ h))
  | inr n ↦ n
]

pub front_all : (a : HtmlAttribute) (tag : OpenTag) (more : List HtmlAttribute) → has_attribute a.0 (with_all tag more) ≡ false →
    with_all (fronted a tag) more ≡ fronted a (with_all tag more)
front_all a tag [] h = refl
front_all a tag (x ∷ more) h =
    ap (λ (t : OpenTag). with_all t more) (front_attribute a tag x.0 x.1 (lacks a.0 tag x.0 x.1 (lacked a.0 (with_attribute tag x.0 x.1) more h)).other)
    ∙ front_all a (with_attribute tag x.0 x.1) more h

pub with_key_first : (key value : List ℕ) (xs : List HtmlAttribute) → list_any (has_key key) xs ≡ false → with_key key value xs ≡ (key, value) ∷ xs
with_key_first key value [] h = refl
with_key_first key value (x ∷ xs) h = rw h refl

token_fronted : (is_end : Bool) (key value : List ℕ) (tag : OpenTag) (closes : Bool) (rest : List HtmlToken) → has_attribute key tag ≡ false →
    (revalued_step tag ((key, value) ∷ tag.attributes) closes is_end).emits ++ rest
    ≡ changed_first (Set key value) ((revalued_step tag tag.attributes closes is_end).emits ++ rest)
token_fronted true key value tag closes rest h = refl
token_fronted false key value tag closes rest h = ap (λ xs. StartTag tag.name xs closes ∷ rest) (sym (with_key_first key value tag.attributes h))

start_fronted : (key value : List ℕ) (tag : OpenTag) (o : Outcome) → EndsWithout key tag o →
    emits_of (fronted (key, value) tag) o ≡ changed_first (Set key value) (emits_of tag o)
start_fronted key value tag (still i returned more) h = refl
start_fronted key value tag (ended closes more returned rest) h =
    let u : OpenTag = with_all tag more in
    let xs : List HtmlAttribute = (key, value) ∷ u.attributes in
    ap (λ (t : OpenTag). (tag_emitted t closes).emits ++ emitted (past t closes returned) rest) (front_all (key, value) tag more h)
    ∙ ap (λ (s : State). (revalued_step u xs closes u.is_end).emits ++ emitted (record { state = s; after_return = returned }) rest) (next_same u.is_end u xs u.attributes closes)
    ∙ token_fronted u.is_end key value u closes (emitted (past u closes returned) rest) h

emits_fronted : (key value : List ℕ) (tag : OpenTag) (o : Outcome) → FirstLacks key (emits_of tag o) →
    emits_of (fronted (key, value) tag) o ≡ changed_first (Set key value) (emits_of tag o)
emits_fronted key value tag o h = elim (cases_Bool tag.is_end) [
  | inl y ↦ end_emits tag ((key, value) ∷ tag.attributes) o y ∙ sym (end_unchanged tag key value o y).0
  | inr n ↦ start_fronted key value tag o (start_lacks tag key o n h)
]

none_has : (key : List ℕ) (xs : List HtmlAttribute) → xs ≡ [] → list_any (has_key key) xs ≡ false
none_has key xs e = ap (list_any (has_key key)) e

pub fronted_first : (tag : OpenTag) (key value : List ℕ) → tag.attributes ≡ [] → with_attribute tag key value ≡ fronted (key, value) tag
fronted_first tag key value none =
    attribute_is tag key value
    ∙ ap (λ (c : Bool). adding_if c tag key value) (none_has key tag.attributes none)
    ∙ ap (λ (xs : List HtmlAttribute). with_list tag (xs ++ (key, value) ∷ [])) none
    ∙ sym (ap (λ (xs : List HtmlAttribute). with_list tag ((key, value) ∷ xs)) none)

abbrev reader_in : State → Bool → Reader
reader_in state returned = record { state = state; after_return = returned }

-- right after the name each byte reads as after a value

name_ends_step : (tag : OpenTag) (c : ℕ) → ends_name c ≡ true → whole_step (tag_name tag) c ≡ whole_step (after_attribute_value tag) c
name_ends_step tag c h = elim (cases_Bool (is_white_space c)) [
  | inl y ↦ simp y
  | inr n ↦ elim (cases_Bool (c == 47)) [
    | inl y ↦ simp (n, y)
    | inr m ↦ elim (cases_Bool (c == 62)) [
      | inl y ↦ simp (n, m, y)
      | inr k ↦ (let never : false ≡ true = simp (n, m, k) at h in absurd (true≢false (sym never)))
    ]
  ]
]

pub name_ends : (tag : OpenTag) (b : ℕ) → ends_name (feed b) ≡ true → read (at (tag_name tag)) b ≡ read (at (after_attribute_value tag)) b
unfolding read
name_ends tag b h = name_ends_step tag (feed b) h

-- the key

reads_byte : (s t : State) (b : ℕ) → (b == 13) ≡ false → whole_step s b ≡ to t → Reads s (b ∷ []) [] t
unfolding read
reads_byte s t b n e =
    let same : feed b ≡ b = ap (λ (v : Bool). if v then 10 else b) n in
    record {
      tokens_are = ap (λ c. (whole_step s c).emits ++ []) same ∙ ap (λ (x : Step). x.emits ++ []) e;
      state_is = ap₂ (λ (q : State) (v : Bool). reader_in q v) (ap (λ c. (whole_step s c).next) same ∙ ap (λ (x : Step). x.next) e) n;
    }

record IsPlain (b : ℕ) : Type 0 where
  no_return : (b == 13) ≡ false
  no_blank : is_white_space b ≡ false
  no_slash : (b == 47) ≡ false
  no_greater : (b == 62) ≡ false
  no_equals : (b == 61) ≡ false
  no_nul : (b == 0) ≡ false
  lower : to_ascii_lowercase b ≡ b

plain_byte : (b : ℕ) → is_key_byte b ≡ true → IsPlain b
plain_byte b h =
    let p = and_parts (not (b == 13)) (not (ends_name b) && (not (b == 61) && (not (b == 0) && (to_ascii_lowercase b == b)))) h in
    let q = and_parts (not (ends_name b)) (not (b == 61) && (not (b == 0) && (to_ascii_lowercase b == b))) p.1 in
    let r = and_parts (not (b == 61)) (not (b == 0) && (to_ascii_lowercase b == b)) q.1 in
    let l = and_parts (not (b == 0)) (to_ascii_lowercase b == b) r.1 in
    let e = neither (is_white_space b || (b == 47)) (b == 62) (not-true (ends_name b) q.0) in
    let f = neither (is_white_space b) (b == 47) e.0 in
    record {
      no_return = not-true (b == 13) p.0;
      no_blank = f.0;
      no_slash = f.1;
      no_greater = e.1;
      no_equals = not-true (b == 61) r.0;
      no_nul = not-true (b == 0) l.0;
      lower = eqb-true (to_ascii_lowercase b) b l.1;
    }

key_step : (tag : OpenTag) (w : List ℕ) (b : ℕ) → IsPlain b → step (attribute_name tag w) b ≡ to (attribute_name tag (w ++ b ∷ []))
key_step tag w b p = simp (p.no_blank, p.no_slash, p.no_greater, p.no_equals, p.lower, p.no_nul)

key_whole : (tag : OpenTag) (w : List ℕ) (b : ℕ) → IsPlain b → whole_step (attribute_name tag w) b ≡ to (attribute_name tag (w ++ b ∷ []))
key_whole tag w b p = ap (λ (x : Step). settled 3 x b) (key_step tag w b p)

first_step : (tag : OpenTag) (b : ℕ) → IsPlain b → step (before_attribute_name tag) b ≡ again_in (attribute_name tag [])
first_step tag b p = simp (p.no_blank, p.no_slash, p.no_greater, p.no_equals)

first_whole : (tag : OpenTag) (b : ℕ) → IsPlain b → whole_step (before_attribute_name tag) b ≡ to (attribute_name tag (b ∷ []))
first_whole tag b p = ap (λ (x : Step). settled 3 x b) (first_step tag b p) ∙ ap (λ (x : Step). settled 2 x b) (key_step tag [] b p)

key_reads : (tag : OpenTag) (w key : List ℕ) → list_all is_key_byte key ≡ true → Reads (attribute_name tag w) key [] (attribute_name tag (w ++ key))
key_reads tag w [] h = record { tokens_are = refl; state_is = ap (λ k. at (attribute_name tag k)) (sym (append-nil w)) }
key_reads tag w (b ∷ key) h =
    let c = and_parts (is_key_byte b) (list_all is_key_byte key) h in
    let p = plain_byte b c.0 in
    let both = then_reads (attribute_name tag w) (attribute_name tag (w ++ b ∷ [])) (attribute_name tag ((w ++ b ∷ []) ++ key)) (b ∷ []) key [] []
    (reads_byte (attribute_name tag w) (attribute_name tag (w ++ b ∷ [])) b p.no_return (key_whole tag w b p)) (key_reads tag (w ++ b ∷ []) key c.1) in
    record { tokens_are = both.tokens_are; state_is = both.state_is ∙ ap (λ k. at (attribute_name tag k)) (append_assoc w (b ∷ []) key) }

whole_key_reads : (tag : OpenTag) (key : List ℕ) → is_key key ≡ true → Reads (before_attribute_name tag) key [] (attribute_name tag key)
whole_key_reads tag [] h = absurd (true≢false (sym h))
whole_key_reads tag (b ∷ key) h =
    let c = and_parts (is_key_byte b) (list_all is_key_byte key) h in
    let p = plain_byte b c.0 in
    then_reads (before_attribute_name tag) (attribute_name tag (b ∷ [])) (attribute_name tag (b ∷ key)) (b ∷ []) key [] []
    (reads_byte (before_attribute_name tag) (attribute_name tag (b ∷ [])) b p.no_return (first_whole tag b p)) (key_reads tag (b ∷ []) key c.1)

space_reads : (tag : OpenTag) → Reads (tag_name tag) (32 ∷ []) [] (before_attribute_name tag)
unfolding read
space_reads tag = record { tokens_are = refl; state_is = refl }

equals_reads : (tag : OpenTag) (key : List ℕ) → Reads (attribute_name tag key) (61 ∷ []) [] (before_attribute_value tag key)
unfolding read
equals_reads tag key = record { tokens_are = refl; state_is = refl }

-- an attribute written after the name of a tag is the tag's
pub attribute_reads : (tag : OpenTag) (key value : List ℕ) → is_key key ≡ true → is_without_nul value ≡ true →
    Reads (tag_name tag) (attribute_markup key value) [] (after_attribute_value (with_attribute tag key value))
attribute_reads tag key value h v =
    let done : State = after_attribute_value (with_attribute tag key value) in
    then_reads (tag_name tag) (before_attribute_name tag) done (32 ∷ []) (key ++ (61 ∷ quoted_value value)) [] [] (space_reads tag)
    (then_reads (before_attribute_name tag) (attribute_name tag key) done key (61 ∷ quoted_value value) [] [] (whole_key_reads tag key h)
    (then_reads (attribute_name tag key) (before_attribute_value tag key) done (61 ∷ []) (quoted_value value) [] [] (equals_reads tag key) (quoted_value_reads tag key value v)))

-- and the rest of the tag reads as without it
pub added_reads : (tag : OpenTag) (key value : List ℕ) (b : ℕ) (text : List ℕ) →
    tag.attributes ≡ [] → is_key key ≡ true → is_without_nul value ≡ true → ends_name (feed b) ≡ true →
    FirstLacks key (emitted (at (tag_name tag)) (b ∷ text)) →
    emitted (at (tag_name tag)) (attribute_markup key value ++ b ∷ text) ≡ changed_first (Set key value) (emitted (at (tag_name tag)) (b ∷ text))
added_reads tag key value b text none h v e without =
    let w = attribute_reads tag key value h v in
    let first : with_attribute tag key value ≡ fronted (key, value) tag = fronted_first tag key value none in
    let was : emitted (at (tag_name tag)) (b ∷ text) ≡ emits_of tag (inner_text after_value false (b ∷ text)) =
    ap (λ (x : Step). x.emits ++ emitted (record { state = x.next; after_return = b == 13 }) text) (name_ends tag b e) ∙ tag_text_emits after_value tag (b ∷ text) in
    emitted_append (at (tag_name tag)) (attribute_markup key value) (b ∷ text)
    ∙ ap₂ (λ (ts : List HtmlToken) (r : Reader). ts ++ emitted r (b ∷ text)) w.tokens_are w.state_is
    ∙ ap (λ (t : OpenTag). emitted (at (after_attribute_value t)) (b ∷ text)) first
    ∙ tag_text_emits after_value (fronted (key, value) tag) (b ∷ text)
    ∙ emits_fronted key value tag (inner_text after_value false (b ∷ text)) (subst (FirstLacks key) was without)
    ∙ ap (changed_first (Set key value)) (sym was)
