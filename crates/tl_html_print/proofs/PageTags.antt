-- The tags, comments and doctypes of pages can be read again.
use Rattle.std.proofs.Common.{Bool, List, [], ap, ap₂, append-nil, append_assoc, codes, drop, false, filter, if◌then◌else◌, inl, inr, map, not, refl, subst, sym, true, true≢false, ℕ, ◌++◌, ◌||◌, ◌∙◌, ◌∷◌, ◌≡◌}
use Rattle.std.specs.Prelude.{⊤}
use Rattle.std.specs.Char.{to_ascii_lowercase}
use Rattle.std.specs.List.{list_all, list_any}
use Rattle.std.specs.Str.{bytes_eq}
use Rattle.std.proofs.lemmas.Bool.{and_parts, cases_Bool, cond_both, not-true}
use Rattle.std.proofs.lemmas.Slice.Eq.{bytes_eq-Decides}
use Rattle.tl_html_print.proofs.NoNuls.{HasNoNul}
use Rattle.tl_html_print.proofs.PageTokens.{AreApart, AreFit, EachIsFit}
use Rattle.tl_html_print.proofs.Reread.{neither-two}
use Rattle.tl_html_print.specs.ReadAgain.{is_key, is_name, lowered}
use Rattle.tl_html_print.specs.Serialized.{serialized_name}
use Rattle.tl_html_spec.specs.Balanced.{is_one_of, words}
use Rattle.tl_html_spec.specs.HtmlTokenizer.{HtmlAttribute}
use Rattle.tl_dom_spec.specs.Tags.{Attribute, Namespace, Tag, bare_tag, has_attribute, html_space, is_html, math_space, no_space, plain_attribute, svg_space, with_missing}
use Rattle.tl_dom_spec.specs.Adjusted.{cased, foreign_attribute, foreign_key, foreign_name, foreign_tag, prefixed, svg_keys, svg_names}

-- Keys that are apart

any-append : (p : HtmlAttribute → Bool) (xs ys : List HtmlAttribute) → list_any p (xs ++ ys) ≡ list_any p xs || list_any p ys
any-append p [] ys = refl
any-append p (x ∷ xs) ys = ap (λ b. p x || b) (any-append p xs ys) ∙ here (p x) (list_any p xs) (list_any p ys)
  where
    here : (a b c : Bool) → a || (b || c) ≡ (a || b) || c
    here true b c = refl
    here false b c = refl

abbrev has : List ℕ → List HtmlAttribute → Bool
has key attributes = list_any (λ (b : HtmlAttribute). bytes_eq b.0 key) attributes

in_first : (key : List ℕ) (xs ys : List HtmlAttribute) → has key (xs ++ ys) ≡ false → (has key xs ≡ false) × (has key ys ≡ false)
in_first key xs ys h = neither-two (has key xs) (has key ys) (sym (any-append (λ (b : HtmlAttribute). bytes_eq b.0 key) xs ys) ∙ h)

in_both : (key : List ℕ) (xs ys : List HtmlAttribute) → has key xs ≡ false → has key ys ≡ false → has key (xs ++ ys) ≡ false
in_both key xs ys h k = any-append (λ (b : HtmlAttribute). bytes_eq b.0 key) xs ys ∙ ap₂ (λ (a b : Bool). a || b) h k

apart_both : (before xs ys : List HtmlAttribute) → AreApart before xs → AreApart (before ++ xs) ys → AreApart before (xs ++ ys)
apart_both before [] ys h k = subst (λ z. AreApart z ys) (append-nil before) k
apart_both before (x ∷ xs) ys h k = (h.0, apart_both (before ++ x ∷ []) xs ys h.1 (subst (λ z. AreApart z ys) (sym (append_assoc before (x ∷ []) xs)) k))

-- attributes that these have not
abbrev is_missing : List HtmlAttribute → HtmlAttribute → Bool
is_missing xs y = not (has y.0 xs)

abbrev missing : List HtmlAttribute → List HtmlAttribute → List HtmlAttribute
missing xs [] = []
missing xs (y ∷ ys) = if is_missing xs y then y ∷ missing xs ys else missing xs ys

-- what neither these nor those before have, the first have not
Covers : List HtmlAttribute → List HtmlAttribute → List HtmlAttribute → Type 0
Covers xs before seen = (key : List ℕ) → has key xs ≡ false → has key seen ≡ false → has key before ≡ false

missing_apart : (xs before seen ys : List HtmlAttribute) → Covers xs before seen → AreApart seen ys → AreApart before (missing xs ys)
unfolding Covers
missing_apart xs before seen [] c h = tt
missing_apart xs before seen (y ∷ ys) c h = elim (cases_Bool (is_missing xs y)) [
  | inl m ↦ subst (AreApart before) (sym (ap (λ v. if v then y ∷ missing xs ys else missing xs ys) m))
      (c y.0 (not-true (has y.0 xs) m) h.0, missing_apart xs (before ++ y ∷ []) (seen ++ y ∷ []) ys (both y) h.1)
  | inr m ↦ subst (AreApart before) (sym (ap (λ v. if v then y ∷ missing xs ys else missing xs ys) m)) (missing_apart xs before (seen ++ y ∷ []) ys (first y) h.1)
]
  where
    both : (y : HtmlAttribute) → Covers xs (before ++ y ∷ []) (seen ++ y ∷ [])
    both y key n k = let p = in_first key seen (y ∷ []) k in in_both key before (y ∷ []) (c key n p.0) p.1

    first : (y : HtmlAttribute) → Covers xs before (seen ++ y ∷ [])
    first y key n k = c key n (in_first key seen (y ∷ []) k).0

each-missing : (xs ys : List HtmlAttribute) → EachIsFit ys → EachIsFit (missing xs ys)
each-missing xs [] h = tt
each-missing xs (y ∷ ys) h = cond_both (is_missing xs y) _ _ EachIsFit (λ _. (h.0, h.1, each-missing xs ys h.2)) (λ _. each-missing xs ys h.2)

each-both : (xs ys : List HtmlAttribute) → EachIsFit xs → EachIsFit ys → EachIsFit (xs ++ ys)
each-both [] ys h k = k
each-both (x ∷ xs) ys h k = (h.0, h.1, each-both xs ys h.2 k)

covered : (xs : List HtmlAttribute) → Covers xs xs []
unfolding Covers
covered xs key n k = n

fit_with : (xs ys : List HtmlAttribute) → AreFit xs → AreFit ys → AreFit (xs ++ missing xs ys)
fit_with xs ys h k = record {
  each = each-both xs (missing xs ys) h.each (each-missing xs ys k.each);
  apart = apart_both [] xs (missing xs ys) h.apart (missing_apart xs xs [] ys (covered xs) k.apart);
}

-- the same as tags have them
map-append : (xs ys : List HtmlAttribute) → map plain_attribute (xs ++ ys) ≡ map plain_attribute xs ++ map plain_attribute ys
map-append [] ys = refl
map-append (x ∷ xs) ys = ap (λ z. plain_attribute x ∷ z) (map-append xs ys)

has_is : (key : List ℕ) (xs : List HtmlAttribute) → has_attribute key (map plain_attribute xs) ≡ has key xs
has_is key [] = refl
has_is key (x ∷ xs) = ap (λ b. bytes_eq x.0 key || b) (has_is key xs)

missing_is : (xs ys : List HtmlAttribute) → map plain_attribute (missing xs ys) ≡ filter (λ (a : Attribute). not (has_attribute a.key (map plain_attribute xs))) (map plain_attribute ys)
missing_is xs [] = refl
missing_is xs (y ∷ ys) =
    here (is_missing xs y) (not (has_attribute y.0 (map plain_attribute xs))) (ap not (sym (has_is y.0 xs))) (missing xs ys)
    (filter (λ (a : Attribute). not (has_attribute a.key (map plain_attribute xs))) (map plain_attribute ys)) (missing_is xs ys)
  where
    here : (v u : Bool) → v ≡ u → (own : List HtmlAttribute) (other : List Attribute) → map plain_attribute own ≡ other →
        map plain_attribute (if v then y ∷ own else own) ≡ (if u then plain_attribute y ∷ other else other)
    here true true e own other h = ap (λ z. plain_attribute y ∷ z) h
    here false false e own other h = h
    here true false e own other h = cc
    here false true e own other h = cc

-- What holds of tags

-- the attributes of an HTML element are those of start tags
pub record OfHtml (attributes : List Attribute) : Type 0 where
  pub own : List HtmlAttribute
  pub are : attributes ≡ map plain_attribute own
  pub fit : AreFit own

abbrev pub EachIsWritten : List Attribute → Type 0
EachIsWritten [] = ⊤
EachIsWritten (a ∷ attributes) = (is_key (serialized_name a.space a.key) ≡ true) × HasNoNul a.value × EachIsWritten attributes

pub record IsWrittenTag (tag : Tag) : Type 0 where
  pub name : is_name tag.name ≡ true
  pub each : EachIsWritten tag.attributes
  pub html : is_html tag ≡ true → OfHtml tag.attributes
  pub low : is_html tag ≡ true → lowered tag.name ≡ tag.name

plain_written : (xs : List HtmlAttribute) → EachIsFit xs → EachIsWritten (map plain_attribute xs)
plain_written [] h = tt
plain_written (x ∷ xs) h = (h.0.0, h.1, plain_written xs h.2)

written-append : (xs ys : List Attribute) → EachIsWritten xs → EachIsWritten ys → EachIsWritten (xs ++ ys)
written-append [] ys h k = k
written-append (x ∷ xs) ys h k = (h.0, h.1, written-append xs ys h.2 k)

with_missing_is : (xs ys : List HtmlAttribute) → with_missing (map plain_attribute xs) (map plain_attribute ys) ≡ map plain_attribute (xs ++ missing xs ys)
with_missing_is xs ys = ap (λ z. map plain_attribute xs ++ z) (sym (missing_is xs ys)) ∙ sym (map-append xs (missing xs ys))

html_with : (own more : List Attribute) → OfHtml own → OfHtml more → OfHtml (with_missing own more)
html_with own more h k = record {
  own = h.own ++ missing h.own k.own;
  are = ap₂ with_missing h.are k.are ∙ with_missing_is h.own k.own;
  fit = fit_with h.own k.own h.fit k.fit;
}

written_filter : (p : Attribute → Bool) (ys : List Attribute) → EachIsWritten ys → EachIsWritten (filter p ys)
written_filter p [] h = tt
written_filter p (y ∷ ys) h = cond_both (p y) _ _ EachIsWritten (λ _. (h.0, h.1, written_filter p ys h.2)) (λ _. written_filter p ys h.2)

of_html_written : (more : List Attribute) → OfHtml more → EachIsWritten more
of_html_written more h = subst EachIsWritten (sym h.are) (plain_written h.own h.fit.each)

-- Foreign names and keys

name_cased : (name : List ℕ) (list : List (List ℕ)) → is_name name ≡ true → list_all is_name list ≡ true → is_name (cased name list) ≡ true
name_cased name [] h k = h
name_cased name (word ∷ list) h k =
    let q = and_parts (is_name word) (list_all is_name list) k in
    cond_both (bytes_eq name (map to_ascii_lowercase word)) word (cased name list) (λ w. is_name w ≡ true) (λ _. q.0) (λ _. name_cased name list h q.1)

key_cased : (key : List ℕ) (list : List (List ℕ)) → is_key key ≡ true → list_all is_key list ≡ true → is_key (cased key list) ≡ true
key_cased key [] h k = h
key_cased key (word ∷ list) h k =
    let q = and_parts (is_key word) (list_all is_key list) k in
    cond_both (bytes_eq key (map to_ascii_lowercase word)) word (cased key list) (λ w. is_key w ≡ true) (λ _. q.0) (λ _. key_cased key list h q.1)

pub foreign_named : (space : Namespace) (name : List ℕ) → is_name name ≡ true → is_name (foreign_name space name) ≡ true
foreign_named html_space name h = h
foreign_named math_space name h = h
foreign_named svg_space name h = name_cased name (words svg_names) h refl

foreign_keyed : (space : Namespace) (key : List ℕ) → is_key key ≡ true → is_key (foreign_key space key) ≡ true
foreign_keyed html_space key h = h
foreign_keyed math_space key h = key_cased key (codes "definitionURL" ∷ []) h refl
foreign_keyed svg_space key h = key_cased key (words svg_keys) h refl

abbrev IsWrittenKey : Attribute → Type 0
IsWrittenKey a = is_key (serialized_name a.space a.key) ≡ true

abbrev xlink_keys : List ℕ
xlink_keys = codes "xlink:actuate xlink:arcrole xlink:href xlink:role xlink:show xlink:title xlink:type"

dropped : (names : List (List ℕ)) (key : List ℕ) → list_all (λ (name : List ℕ). is_key (codes "xlink:" ++ drop 6 name)) names ≡ true → list_any (bytes_eq key) names ≡ true → is_key (codes "xlink:" ++ drop 6 key) ≡ true
dropped [] key h k = absurd (true≢false (sym k))
dropped (name ∷ names) key h k =
    let q = and_parts (is_key (codes "xlink:" ++ drop 6 name)) (list_all (λ (name : List ℕ). is_key (codes "xlink:" ++ drop 6 name)) names) h in
    elim (cases_Bool (bytes_eq key name)) [
      | inl y ↦ subst (λ w. is_key (codes "xlink:" ++ drop 6 w) ≡ true) (sym ((bytes_eq-Decides key name).0 y)) q.0
      | inr n ↦ dropped names key q.1 (sym (ap (λ b. b || list_any (bytes_eq key) names) n) ∙ k)
    ]

prefixed_key : (key value : List ℕ) → is_key key ≡ true → IsWrittenKey (prefixed (record { space = no_space; key = key; value = value }))
prefixed_key key value h =
    cond_both (bytes_eq key (codes "xmlns")) _ _ IsWrittenKey (λ y. rw ((bytes_eq-Decides key (codes "xmlns")).0 y) refl)
    (λ _. cond_both (bytes_eq key (codes "xmlns:xlink")) _ _ IsWrittenKey (λ _. refl)
    (λ _. cond_both (bytes_eq key (codes "xml:lang")) _ _ IsWrittenKey (λ _. refl)
    (λ _. cond_both (bytes_eq key (codes "xml:space")) _ _ IsWrittenKey (λ _. refl)
    (λ _. cond_both (is_one_of xlink_keys key) _ _ IsWrittenKey (λ y. dropped (words xlink_keys) key refl y) (λ _. h)))))

prefixed_value : (a : Attribute) → (prefixed a).value ≡ a.value
prefixed_value a =
    cond_both (bytes_eq a.key (codes "xmlns")) _ _ (λ (x : Attribute). x.value ≡ a.value) (λ _. refl)
    (λ _. cond_both (bytes_eq a.key (codes "xmlns:xlink")) _ _ (λ (x : Attribute). x.value ≡ a.value) (λ _. refl)
    (λ _. cond_both (bytes_eq a.key (codes "xml:lang")) _ _ (λ (x : Attribute). x.value ≡ a.value) (λ _. refl)
    (λ _. cond_both (bytes_eq a.key (codes "xml:space")) _ _ (λ (x : Attribute). x.value ≡ a.value) (λ _. refl)
    (λ _. cond_both (is_one_of xlink_keys a.key) _ _ (λ (x : Attribute). x.value ≡ a.value) (λ _. refl) (λ _. refl)))))

foreign_written : (space : Namespace) (xs : List HtmlAttribute) → EachIsFit xs → EachIsWritten (map (foreign_attribute space) (map plain_attribute xs))
foreign_written space [] h = tt
foreign_written space (x ∷ xs) h =
    let key = foreign_key space x.0 in (
      prefixed_key key x.1 (foreign_keyed space x.0 h.0.0),
      subst HasNoNul (sym (prefixed_value (record { space = no_space; key = key; value = x.1 }))) h.1,
      foreign_written space xs h.2,
    )

pub foreign_tag_written : (space : Namespace) (t : Tag) → is_html (foreign_tag space t) ≡ false → is_name t.name ≡ true → OfHtml t.attributes → IsWrittenTag (foreign_tag space t)
foreign_tag_written space t n h k = record {
  name = h;
  each = subst (λ (a : List Attribute). EachIsWritten (map (foreign_attribute space) a)) (sym k.are) (foreign_written space k.own k.fit.each);
  html = λ y. absurd (true≢false (sym y ∙ n));
  low = λ y. absurd (true≢false (sym y ∙ n));
}

pub html_tag_written : (t : Tag) → is_name t.name ≡ true → lowered t.name ≡ t.name → OfHtml t.attributes → IsWrittenTag t
html_tag_written t h l k = record { name = h; each = of_html_written t.attributes k; html = λ _. k; low = λ _. l }

none_of_html : OfHtml []
none_of_html = record { own = []; are = refl; fit = record { each = tt; apart = tt } }

pub bare_written : (name : List ℕ) → is_name name ≡ true → lowered name ≡ name → IsWrittenTag (bare_tag name)
bare_written name h l = record { name = h; each = tt; html = λ _. none_of_html; low = λ _. l }

pub more_written : (t : Tag) (more : List Attribute) → IsWrittenTag t → OfHtml more → IsWrittenTag (record t { attributes = with_missing t.attributes more })
more_written t more h k = record {
  name = h.name;
  each = written-append t.attributes _ h.each (written_filter _ more (of_html_written more k));
  html = λ y. html_with t.attributes more (h.html y) k;
  low = h.low;
}
