-- A value in the place of another gives the same tag with that value.
use Rattle.std.proofs.Common.{◌≡◌, ℕ, Bool, true, false, ◌||◌, List, [], ◌∷◌, ◌++◌, map, refl, ap, ap₂, sym, subst, ◌∙◌, inl, inr, if◌then◌else◌, true≢false}
use Rattle.std.specs.List.{list_any}
use Rattle.std.specs.Str.{bytes_eq}
use Rattle.std.proofs.lemmas.Bool.{cases_Bool, or_left}
use Rattle.std.proofs.lemmas.List.{map_push}
use Rattle.std.proofs.lemmas.Slice.Eq.{bytes_eq-Decides}
use Rattle.tl_html_spec.specs.HtmlTokenizer.{EndTag, HtmlAttribute, HtmlToken, OpenTag, StartTag, State, Step, after_attribute_value, after_start, data_state, emitting_token, with_attribute}
use Rattle.tl_html_spec.specs.HtmlTokenizer.{emitted as tag_emitted}
use Rattle.tl_patch_spec.specs.TagChanges.{FirstLacks, Set, Unset, changed_first, has_attribute, has_key, value_if, with_key, with_value}
use Rattle.tl_html_spec.specs.Reader.{at, emitted}
use Rattle.tl_patch_spec.proofs.Inside.{EndsWithout, Outcome, after_value, ended, inner_text, still, with_all}
use Rattle.tl_patch_spec.proofs.Tags.{emits_of, past, tag_text_emits}

abbrev pub with_list : OpenTag → List HtmlAttribute → OpenTag
with_list tag xs = record tag { attributes = xs }

-- the tag with another value at a key
abbrev pub revalued : List ℕ → List ℕ → OpenTag → OpenTag
revalued key value tag = record tag { attributes = map (with_value key value) tag.attributes }

value_if_key : (c : Bool) (value : List ℕ) (a : HtmlAttribute) → (value_if c value a).0 ≡ a.0
value_if_key true value a = refl
value_if_key false value a = refl

any_same : (key value k : List ℕ) (xs : List HtmlAttribute) → list_any (has_key k) (map (with_value key value) xs) ≡ list_any (has_key k) xs
any_same key value k [] = refl
any_same key value k (a ∷ xs) =
    ap₂ (λ (n : List ℕ) (c : Bool). bytes_eq n k || c) (value_if_key (has_key key a) value a) (any_same key value k xs)

-- what `with_attribute` does, by whether the key is there
abbrev pub adding_if : Bool → OpenTag → List ℕ → List ℕ → OpenTag
adding_if true tag key value = tag
adding_if false tag key value = with_list tag (tag.attributes ++ (key, value) ∷ [])

adding_is : (c : Bool) (tag : OpenTag) (key value : List ℕ) → (if c then tag else with_list tag (tag.attributes ++ (key, value) ∷ [])) ≡ adding_if c tag key value
adding_is true tag key value = refl
adding_is false tag key value = refl

pub attribute_is : (tag : OpenTag) (key value : List ℕ) → with_attribute tag key value ≡ adding_if (has_attribute key tag) tag key value
attribute_is tag key value = adding_is (has_attribute key tag) tag key value

-- an attribute changes neither the name nor the kind of a tag

name_if : (c : Bool) (tag : OpenTag) (k v : List ℕ) → (adding_if c tag k v).name ≡ tag.name
name_if true tag k v = refl
name_if false tag k v = refl

kind_if : (c : Bool) (tag : OpenTag) (k v : List ℕ) → (adding_if c tag k v).is_end ≡ tag.is_end
kind_if true tag k v = refl
kind_if false tag k v = refl

pub name_kept : (tag : OpenTag) (more : List HtmlAttribute) → (with_all tag more).name ≡ tag.name
name_kept tag [] = refl
name_kept tag (a ∷ more) =
    name_kept (with_attribute tag a.0 a.1) more ∙ ap (λ (t : OpenTag). t.name) (attribute_is tag a.0 a.1) ∙ name_if (has_attribute a.0 tag) tag a.0 a.1

pub kind_kept : (tag : OpenTag) (more : List HtmlAttribute) → (with_all tag more).is_end ≡ tag.is_end
kind_kept tag [] = refl
kind_kept tag (a ∷ more) =
    kind_kept (with_attribute tag a.0 a.1) more ∙ ap (λ (t : OpenTag). t.is_end) (attribute_is tag a.0 a.1) ∙ kind_if (has_attribute a.0 tag) tag a.0 a.1

abbrev kind_step : Bool → List ℕ → List HtmlAttribute → Bool → Step
kind_step is_end name attributes closes =
    if is_end then emitting_token (EndTag name) data_state else emitting_token (StartTag name attributes closes) (after_start name)

-- of an end tag its name alone is emitted
pub end_step : (tag : OpenTag) (more : List HtmlAttribute) (closes : Bool) → tag.is_end ≡ true →
    tag_emitted (with_all tag more) closes ≡ emitting_token (EndTag tag.name) data_state
end_step tag more closes e =
    ap (λ (c : Bool). kind_step c (with_all tag more).name (with_all tag more).attributes closes) (kind_kept tag more ∙ e)
    ∙ ap (λ n. emitting_token (EndTag n) data_state) (name_kept tag more)

abbrev stepped : Step → Bool → List ℕ → List HtmlToken
stepped x returned rest = x.emits ++ emitted (record { state = x.next; after_return = returned }) rest

-- so its attributes change nothing
pub end_emits : (tag : OpenTag) (xs : List HtmlAttribute) (o : Outcome) → tag.is_end ≡ true → emits_of (with_list tag xs) o ≡ emits_of tag o
end_emits tag xs (still i returned more) e = refl
end_emits tag xs (ended closes more returned rest) e =
    ap (λ x. stepped x returned rest) (end_step (with_list tag xs) more closes e ∙ sym (end_step tag more closes e))

pub end_unchanged : (tag : OpenTag) (key value : List ℕ) (o : Outcome) → tag.is_end ≡ true →
    (changed_first (Set key value) (emits_of tag o) ≡ emits_of tag o) × (changed_first (Unset key) (emits_of tag o) ≡ emits_of tag o)
end_unchanged tag key value (still i returned more) e = (refl, refl)
end_unchanged tag key value (ended closes more returned rest) e =
    let is = ap (λ x. stepped x returned rest) (end_step tag more closes e) in
    (ap (changed_first (Set key value)) is ∙ sym is, ap (changed_first (Unset key)) is ∙ sym is)

-- a start tag that is emitted without a key had none at its end
pub start_lacks : (tag : OpenTag) (key : List ℕ) (o : Outcome) → tag.is_end ≡ false → FirstLacks key (emits_of tag o) → EndsWithout key tag o
start_lacks tag key (still i returned more) e h = tt
start_lacks tag key (ended closes more returned rest) e h =
    let u : OpenTag = with_all tag more in
    subst (λ (x : Step). FirstLacks key (stepped x returned rest))
    (ap (λ (c : Bool). kind_step c u.name u.attributes closes) (kind_kept tag more ∙ e)) h

-- a key that is there is another than one that isn't
pub other_key : (key k : List ℕ) (tag : OpenTag) → has_attribute key tag ≡ true → has_attribute k tag ≡ false → bytes_eq k key ≡ false
other_key key k tag h n = elim (cases_Bool (bytes_eq k key)) [
  | inl y ↦ absurd (true≢false (sym h ∙ ap (λ q. has_attribute q tag) (sym ((bytes_eq-Decides k key).0 y)) ∙ n))
  | inr m ↦ m
]

revalue_adding : (c : Bool) (key value : List ℕ) (tag : OpenTag) (k v : List ℕ) → has_attribute key tag ≡ true → has_attribute k tag ≡ c →
    adding_if c (revalued key value tag) k v ≡ revalued key value (adding_if c tag k v)
revalue_adding true key value tag k v h e = refl
revalue_adding false key value tag k v h e =
    ap (with_list tag) (sym (
    map_push (with_value key value) tag.attributes (k, v)
    ∙ ap (λ (c : Bool). map (with_value key value) tag.attributes ++ value_if c value (k, v) ∷ []) (other_key key k tag h e)))

revalue_attribute : (key value : List ℕ) (tag : OpenTag) (k v : List ℕ) → has_attribute key tag ≡ true →
    with_attribute (revalued key value tag) k v ≡ revalued key value (with_attribute tag k v)
revalue_attribute key value tag k v h =
    attribute_is (revalued key value tag) k v
    ∙ ap (λ (c : Bool). adding_if c (revalued key value tag) k v) (any_same key value k tag.attributes)
    ∙ revalue_adding (has_attribute k tag) key value tag k v h refl
    ∙ ap (revalued key value) (sym (attribute_is tag k v))

any_more : (key : List ℕ) (xs ys : List HtmlAttribute) → list_any (has_key key) xs ≡ true → list_any (has_key key) (xs ++ ys) ≡ true
any_more key [] ys h = absurd (true≢false (sym h))
any_more key (a ∷ xs) ys h = elim (cases_Bool (has_key key a)) [
  | inl y ↦ or_left (has_key key a) (list_any (has_key key) (xs ++ ys)) y
  | inr n ↦ ap (λ (c : Bool). c || list_any (has_key key) (xs ++ ys)) n ∙ any_more key xs ys (ap (λ (c : Bool). c || list_any (has_key key) xs) (sym n) ∙ h)
]

or_true : (c : Bool) → (c || true) ≡ true
or_true true = refl
or_true false = refl

any_last : (key : List ℕ) (xs : List HtmlAttribute) (a : HtmlAttribute) → has_key key a ≡ true → list_any (has_key key) (xs ++ a ∷ []) ≡ true
any_last key [] a h = or_left (has_key key a) false h
any_last key (x ∷ xs) a h = ap (λ (c : Bool). has_key key x || c) (any_last key xs a h) ∙ or_true (has_key key x)

pub neither : (x y : Bool) → (x || y) ≡ false → (x ≡ false) × (y ≡ false)
neither true y h = absurd (true≢false h)
neither false y h = (refl, h)

has_adding : (c : Bool) (key : List ℕ) (tag : OpenTag) (k v : List ℕ) → has_attribute key tag ≡ true → has_attribute key (adding_if c tag k v) ≡ true
has_adding true key tag k v h = h
has_adding false key tag k v h = any_more key tag.attributes ((k, v) ∷ []) h

pub has_kept : (key : List ℕ) (tag : OpenTag) (k v : List ℕ) → has_attribute key tag ≡ true → has_attribute key (with_attribute tag k v) ≡ true
has_kept key tag k v h = ap (has_attribute key) (attribute_is tag k v) ∙ has_adding (has_attribute k tag) key tag k v h

-- whatever is added later, the other value stays
pub revalue_all : (key value : List ℕ) (tag : OpenTag) (more : List HtmlAttribute) → has_attribute key tag ≡ true →
    with_all (revalued key value tag) more ≡ revalued key value (with_all tag more)
revalue_all key value tag [] h = refl
revalue_all key value tag (a ∷ more) h =
    ap (λ (t : OpenTag). with_all t more) (revalue_attribute key value tag a.0 a.1 h)
    ∙ revalue_all key value (with_attribute tag a.0 a.1) more (has_kept key tag a.0 a.1 h)

-- so the token is the same but for that value

abbrev pub revalued_step : OpenTag → List HtmlAttribute → Bool → Bool → Step
revalued_step tag xs closes is_end =
    if is_end then emitting_token (EndTag tag.name) data_state else emitting_token (StartTag tag.name xs closes) (after_start tag.name)

pub with_key_is : (key value : List ℕ) (xs : List HtmlAttribute) → list_any (has_key key) xs ≡ true → with_key key value xs ≡ map (with_value key value) xs
with_key_is key value xs h = ap (λ (c : Bool). if c then map (with_value key value) xs else (key, value) ∷ xs) h

token_set : (is_end : Bool) (key value : List ℕ) (tag : OpenTag) (closes : Bool) (rest : List HtmlToken) → has_attribute key tag ≡ true →
    (revalued_step tag (map (with_value key value) tag.attributes) closes is_end).emits ++ rest
    ≡ changed_first (Set key value) ((revalued_step tag tag.attributes closes is_end).emits ++ rest)
token_set true key value tag closes rest h = refl
token_set false key value tag closes rest h = ap (λ xs. StartTag tag.name xs closes ∷ rest) (sym (with_key_is key value tag.attributes h))

pub next_same : (is_end : Bool) (tag : OpenTag) (xs ys : List HtmlAttribute) (closes : Bool) →
    (revalued_step tag xs closes is_end).next ≡ (revalued_step tag ys closes is_end).next
next_same true tag xs ys closes = refl
next_same false tag xs ys closes = refl

pub has_all : (key : List ℕ) (tag : OpenTag) (more : List HtmlAttribute) → has_attribute key tag ≡ true → has_attribute key (with_all tag more) ≡ true
has_all key tag [] h = h
has_all key tag (a ∷ more) h = has_all key (with_attribute tag a.0 a.1) more (has_kept key tag a.0 a.1 h)

emits_revalued : (key value : List ℕ) (tag : OpenTag) (o : Outcome) → has_attribute key tag ≡ true →
    emits_of (revalued key value tag) o ≡ changed_first (Set key value) (emits_of tag o)
emits_revalued key value tag (still i returned more) h = refl
emits_revalued key value tag (ended closes more returned rest) h =
    let u : OpenTag = with_all tag more in
    let xs : List HtmlAttribute = map (with_value key value) u.attributes in
    ap (λ (t : OpenTag). (tag_emitted t closes).emits ++ emitted (past t closes returned) rest) (revalue_all key value tag more h)
    ∙ ap (λ (s : State). (revalued_step u xs closes u.is_end).emits ++ emitted (record { state = s; after_return = returned }) rest) (next_same u.is_end u xs u.attributes closes)
    ∙ token_set u.is_end key value u closes (emitted (past u closes returned) rest) (has_all key tag more h)

no_key : (key value : List ℕ) (xs : List HtmlAttribute) → list_any (has_key key) xs ≡ false → map (with_value key value) xs ≡ xs
no_key key value [] h = refl
no_key key value (a ∷ xs) h =
    let p = neither (has_key key a) (list_any (has_key key) xs) h in
    ap₂ (λ (c : Bool) (ys : List HtmlAttribute). value_if c value a ∷ ys) p.0 (no_key key value xs p.1)

pub fresh : (key old new : List ℕ) (tag : OpenTag) → has_attribute key tag ≡ false → with_attribute tag key new ≡ revalued key new (with_attribute tag key old)
fresh key old new tag h =
    attribute_is tag key new
    ∙ ap (λ (c : Bool). adding_if c tag key new) h
    ∙ ap (with_list tag) (sym (
    map_push (with_value key new) tag.attributes (key, old)
    ∙ ap₂ (λ (ys : List HtmlAttribute) (c : Bool). ys ++ value_if c new (key, old) ∷ []) (no_key key new tag.attributes h) ((bytes_eq-Decides key key).1 refl)))
    ∙ ap (revalued key new) (sym (attribute_is tag key old ∙ ap (λ (c : Bool). adding_if c tag key old) h))

pub has_fresh : (key value : List ℕ) (tag : OpenTag) → has_attribute key tag ≡ false → has_attribute key (with_attribute tag key value) ≡ true
has_fresh key value tag h =
    ap (has_attribute key) (attribute_is tag key value ∙ ap (λ (c : Bool). adding_if c tag key value) h)
    ∙ any_last key tag.attributes (key, value) ((bytes_eq-Decides key key).1 refl)

-- after a value in quotes: with another value there the tag has that value, and all else is as it was
pub set_reads : (tag : OpenTag) (key old new text : List ℕ) → has_attribute key tag ≡ false →
    emitted (at (after_attribute_value (with_attribute tag key new))) text
    ≡ changed_first (Set key new) (emitted (at (after_attribute_value (with_attribute tag key old))) text)
set_reads tag key old new text h =
    ap (λ (t : OpenTag). emitted (at (after_attribute_value t)) text) (fresh key old new tag h)
    ∙ tag_text_emits after_value (revalued key new (with_attribute tag key old)) text
    ∙ emits_revalued key new (with_attribute tag key old) (inner_text after_value false text) (has_fresh key old tag h)
    ∙ ap (changed_first (Set key new)) (sym (tag_text_emits after_value (with_attribute tag key old) text))
