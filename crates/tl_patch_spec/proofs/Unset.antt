-- A key taken out of a tag: the tag lacks it, and all else is as it was.
use Rattle.std.proofs.Common.{◌≡◌, ℕ, Bool, true, false, ◌||◌, List, [], ◌∷◌, ◌++◌, refl, ap, sym, subst, ◌∙◌, inl, inr, if◌then◌else◌}
use Rattle.std.specs.List.{list_any}
use Rattle.std.specs.Str.{bytes_eq}
use Rattle.std.proofs.lemmas.Bool.{cases_Bool}
use Rattle.std.proofs.lemmas.Slice.Eq.{bytes_eq-Decides}
use Rattle.tl_html_spec.specs.HtmlTokenizer.{HtmlAttribute, HtmlToken, OpenTag, State, after_attribute_value, with_attribute}
use Rattle.tl_html_spec.specs.HtmlTokenizer.{emitted as tag_emitted}
use Rattle.tl_patch_spec.specs.TagChanges.{FirstLacks, Unset, changed_first, has_attribute, has_key, without_key}
use Rattle.tl_html_spec.specs.Reader.{at, emitted}
use Rattle.tl_patch_spec.proofs.Inside.{EndsWithout, Outcome, after_value, ended, inner_text, still, with_all}
use Rattle.tl_patch_spec.proofs.Added.{lacked, lacks, other_way}
use Rattle.tl_patch_spec.proofs.Sets.{adding_if, attribute_is, end_emits, end_unchanged, neither, next_same, revalued_step, start_lacks, with_list}
use Rattle.tl_patch_spec.proofs.Tags.{emits_of, past, tag_text_emits}

abbrev pub dropped : List ℕ → OpenTag → OpenTag
dropped key tag = with_list tag (without_key key tag.attributes)

-- one pair

kept_pair : (key : List ℕ) (a : HtmlAttribute) (xs : List HtmlAttribute) → has_key key a ≡ false → without_key key (a ∷ xs) ≡ a ∷ without_key key xs
kept_pair key a xs n = ap (λ (c : Bool). if c then without_key key xs else a ∷ without_key key xs) n

gone_pair : (key : List ℕ) (a : HtmlAttribute) (xs : List HtmlAttribute) → has_key key a ≡ true → without_key key (a ∷ xs) ≡ without_key key xs
gone_pair key a xs y = ap (λ (c : Bool). if c then without_key key xs else a ∷ without_key key xs) y

-- another key is there or not, as before
other_stays : (key k : List ℕ) (xs : List HtmlAttribute) → bytes_eq key k ≡ false → list_any (has_key k) (without_key key xs) ≡ list_any (has_key k) xs
other_stays key k [] n = refl
other_stays key k (a ∷ xs) n = elim (cases_Bool (has_key key a)) [
  | inl y ↦ ap (list_any (has_key k)) (gone_pair key a xs y) ∙ other_stays key k xs n
      ∙ sym (ap (λ (c : Bool). c || list_any (has_key k) xs) (ap (λ w. bytes_eq w k) ((bytes_eq-Decides a.0 key).0 y) ∙ n))
  | inr m ↦ ap (list_any (has_key k)) (kept_pair key a xs m) ∙ ap (λ (c : Bool). has_key k a || c) (other_stays key k xs n)
]

-- a pair at the end
end_stays : (key : List ℕ) (xs : List HtmlAttribute) (a : HtmlAttribute) → has_key key a ≡ false → without_key key (xs ++ a ∷ []) ≡ without_key key xs ++ a ∷ []
end_stays key [] a n = kept_pair key a [] n
end_stays key (x ∷ xs) a n = elim (cases_Bool (has_key key x)) [
  | inl y ↦ gone_pair key x (xs ++ a ∷ []) y ∙ end_stays key xs a n ∙ sym (ap (λ ys. ys ++ a ∷ []) (gone_pair key x xs y))
  | inr m ↦ kept_pair key x (xs ++ a ∷ []) m ∙ ap (λ ys. x ∷ ys) (end_stays key xs a n) ∙ sym (ap (λ ys. ys ++ a ∷ []) (kept_pair key x xs m))
]

end_goes : (key : List ℕ) (xs : List HtmlAttribute) (a : HtmlAttribute) → list_any (has_key key) xs ≡ false → has_key key a ≡ true → without_key key (xs ++ a ∷ []) ≡ xs
end_goes key [] a h y = gone_pair key a [] y
end_goes key (x ∷ xs) a h y =
    let p = neither (has_key key x) (list_any (has_key key) xs) h in
    kept_pair key x (xs ++ a ∷ []) p.0 ∙ ap (λ ys. x ∷ ys) (end_goes key xs a p.1 y)

-- what is added later is added to both

drop_if : (c : Bool) (key : List ℕ) (tag : OpenTag) (k v : List ℕ) → bytes_eq k key ≡ false → dropped key (adding_if c tag k v) ≡ adding_if c (dropped key tag) k v
drop_if true key tag k v n = refl
drop_if false key tag k v n = ap (with_list tag) (end_stays key tag.attributes (k, v) n)

pub drop_attribute : (key : List ℕ) (tag : OpenTag) (k v : List ℕ) → bytes_eq key k ≡ false → dropped key (with_attribute tag k v) ≡ with_attribute (dropped key tag) k v
drop_attribute key tag k v n =
    ap (dropped key) (attribute_is tag k v)
    ∙ drop_if (has_attribute k tag) key tag k v (other_way key k n)
    ∙ ap (λ (c : Bool). adding_if c (dropped key tag) k v) (sym (other_stays key k tag.attributes n))
    ∙ sym (attribute_is (dropped key tag) k v)

-- of an attribute with the key nothing stays

end_dropped : (key : List ℕ) (xs : List HtmlAttribute) (a : HtmlAttribute) → has_key key a ≡ true → without_key key (xs ++ a ∷ []) ≡ without_key key xs
end_dropped key [] a y = gone_pair key a [] y
end_dropped key (x ∷ xs) a y = elim (cases_Bool (has_key key x)) [
  | inl z ↦ gone_pair key x (xs ++ a ∷ []) z ∙ end_dropped key xs a y ∙ sym (gone_pair key x xs z)
  | inr m ↦ kept_pair key x (xs ++ a ∷ []) m ∙ ap (λ ys. x ∷ ys) (end_dropped key xs a y) ∙ sym (kept_pair key x xs m)
]

dropped_if : (c : Bool) (key : List ℕ) (tag : OpenTag) (k v : List ℕ) → bytes_eq k key ≡ true → dropped key (adding_if c tag k v) ≡ dropped key tag
dropped_if true key tag k v y = refl
dropped_if false key tag k v y = ap (with_list tag) (end_dropped key tag.attributes (k, v) y)

pub dropped_same : (key : List ℕ) (tag : OpenTag) (k v : List ℕ) → bytes_eq k key ≡ true → dropped key (with_attribute tag k v) ≡ dropped key tag
dropped_same key tag k v y = ap (dropped key) (attribute_is tag k v) ∙ dropped_if (has_attribute k tag) key tag k v y

drop_all : (key : List ℕ) (tag : OpenTag) (more : List HtmlAttribute) → has_attribute key (with_all (dropped key tag) more) ≡ false →
    dropped key (with_all tag more) ≡ with_all (dropped key tag) more
drop_all key tag [] h = refl
drop_all key tag (a ∷ more) h =
    let n = (lacks key (dropped key tag) a.0 a.1 (lacked key (with_attribute (dropped key tag) a.0 a.1) more h)).other in
    let e = drop_attribute key tag a.0 a.1 n in
    drop_all key (with_attribute tag a.0 a.1) more (ap (λ (t : OpenTag). has_attribute key (with_all t more)) e ∙ h)
    ∙ ap (λ (t : OpenTag). with_all t more) e

-- so is the token

token_dropped : (is_end : Bool) (key : List ℕ) (tag : OpenTag) (closes : Bool) (rest : List HtmlToken) →
    (revalued_step tag (without_key key tag.attributes) closes is_end).emits ++ rest
    ≡ changed_first (Unset key) ((revalued_step tag tag.attributes closes is_end).emits ++ rest)
token_dropped true key tag closes rest = refl
token_dropped false key tag closes rest = refl

start_dropped : (key : List ℕ) (tag : OpenTag) (o : Outcome) → EndsWithout key (dropped key tag) o →
    emits_of (dropped key tag) o ≡ changed_first (Unset key) (emits_of tag o)
start_dropped key tag (still i returned more) h = refl
start_dropped key tag (ended closes more returned rest) h =
    let u : OpenTag = with_all tag more in
    let xs : List HtmlAttribute = without_key key u.attributes in
    ap (λ (t : OpenTag). (tag_emitted t closes).emits ++ emitted (past t closes returned) rest) (sym (drop_all key tag more h))
    ∙ ap (λ (s : State). (revalued_step u xs closes u.is_end).emits ++ emitted (record { state = s; after_return = returned }) rest) (next_same u.is_end u xs u.attributes closes)
    ∙ token_dropped u.is_end key u closes (emitted (past u closes returned) rest)

emits_dropped : (key : List ℕ) (tag : OpenTag) (o : Outcome) → FirstLacks key (emits_of (dropped key tag) o) →
    emits_of (dropped key tag) o ≡ changed_first (Unset key) (emits_of tag o)
emits_dropped key tag o h = elim (cases_Bool tag.is_end) [
  | inl y ↦ end_emits tag (without_key key tag.attributes) o y ∙ sym (end_unchanged tag key [] o y).1
  | inr n ↦ start_dropped key tag o (start_lacks (dropped key tag) key o n h)
]

dropped_fresh : (key value : List ℕ) (tag : OpenTag) → has_attribute key tag ≡ false → dropped key (with_attribute tag key value) ≡ tag
dropped_fresh key value tag h =
    ap (dropped key) (attribute_is tag key value ∙ ap (λ (c : Bool). adding_if c tag key value) h)
    ∙ ap (with_list tag) (end_goes key tag.attributes (key, value) h ((bytes_eq-Decides key key).1 refl))

-- after an attribute: without it the tag lacks its key, if that doesn't come again, and all else is as it was
pub unset_reads : (tag : OpenTag) (key value text : List ℕ) → has_attribute key tag ≡ false → FirstLacks key (emitted (at (after_attribute_value tag)) text) →
    emitted (at (after_attribute_value tag)) text ≡ changed_first (Unset key) (emitted (at (after_attribute_value (with_attribute tag key value))) text)
unset_reads tag key value text h without =
    let was : OpenTag = with_attribute tag key value in
    let e : dropped key was ≡ tag = dropped_fresh key value tag h in
    tag_text_emits after_value tag text
    ∙ ap (λ (t : OpenTag). emits_of t (inner_text after_value false text)) (sym e)
    ∙ emits_dropped key was (inner_text after_value false text)
    (subst (λ (t : OpenTag). FirstLacks key (emits_of t (inner_text after_value false text))) (sym e) (subst (FirstLacks key) (tag_text_emits after_value tag text) without))
    ∙ ap (changed_first (Unset key)) (sym (tag_text_emits after_value was text))
