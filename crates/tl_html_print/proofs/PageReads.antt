-- The trees of pages that are read again.
use Rattle.std.proofs.Common.{Bool, List, [], ap, ap₂, append-nil, codes, false, if◌then◌else◌, inl, inr, map, not, refl, subst, sym, true, true≢false, ℕ, ◌&&◌, ◌++◌, ◌==◌, ◌||◌, ◌∙◌, ◌∷◌, ◌≡◌, ◌⊎◌, ◌↔◌}
use Rattle.std.specs.List.{list_all, list_any}
use Rattle.std.specs.Str.{bytes_eq}
use Rattle.std.proofs.lemmas.Bool.{and_from, and_parts, cases_Bool, cond_both, eq-eqb, eqb-true, not-true}
use Rattle.std.proofs.lemmas.Slice.Eq.{bytes_eq-Decides}
use Rattle.tl_dom_spec.specs.HtmlForest.{HtmlForest, comment, doctype, element, no_trees, text}
use Rattle.tl_dom_spec.specs.Lawful.{is_void, void_names}
use Rattle.tl_dom_spec.specs.Tags.{Attribute, Tag, is_any, is_html, plain_attribute}
use Rattle.tl_names.specs.Elements.{is_among, rawtext_names, rcdata_names}
use Rattle.tl_html_print.proofs.NoNuls.{HasNoNul}
use Rattle.tl_html_print.proofs.PageTags.{EachIsWritten, IsWrittenTag}
use Rattle.tl_html_print.proofs.PageTokens.{AreApart, EachIsFit}
use Rattle.tl_html_print.proofs.PageTrees.{AreWritten}
use Rattle.tl_html_print.proofs.Printing.{if-false}
use Rattle.tl_html_print.specs.Again.{are_apart, are_text_and_end, ends_itself, has_no_return, has_own_keys, holds_one_text, is_in_data, is_read_again, values_have_none}
use Rattle.tl_html_print.specs.ReadAgain.{AreReadable, CanBeReadAgain, HoldsItself, HoldsMarkup, IsReadAs, attribute_read, end_tokens, is_kept, is_kept_in_value, lowered, unless_empty}
use Rattle.tl_html_print.specs.Serialized.{end_tag, escaped, is_literal, is_literal_in, parent_below, serialized_text, unless_void}
use Rattle.tl_html_spec.specs.Balanced.{is_one_of, is_raw, words}
use Rattle.tl_html_spec.specs.HtmlTokenizer.{Character, EndTag, HtmlAttribute, HtmlToken, State, after_start, data_state}
use Rattle.tl_html_spec.specs.Reader.{Reader, after, at, emitted}
use Rattle.tl_html_spec.specs.References.{not_zero}

-- Attributes

both_kept : (value : List ℕ) → has_no_return value ≡ true → HasNoNul value → list_all is_kept_in_value value ≡ true
both_kept [] h k = refl
both_kept (b ∷ value) h k =
    let p = and_parts (is_kept b) (list_all is_kept value) h in
    let q = and_parts (not_zero b) (list_all not_zero value) k in
    and_from _ _ (rw (not-true (b == 13) p.0, not-true (b == 0) q.0) refl) (both_kept value p.1 q.1)

foreign_readable : (before : List HtmlAttribute) (attributes : List Attribute) → EachIsWritten attributes → list_all (λ (a : Attribute). has_no_return a.value) attributes ≡ true → are_apart before attributes ≡ true → AreReadable before attributes
foreign_readable before [] e v a = tt
foreign_readable before (x ∷ xs) e v a =
    let p = and_parts (has_no_return x.value) (list_all (λ (a : Attribute). has_no_return a.value) xs) v in
    let q = and_parts (not (list_any (λ (b : HtmlAttribute). bytes_eq b.0 (attribute_read x).0) before)) (are_apart (before ++ attribute_read x ∷ []) xs) a in
    (e.0, both_kept x.value p.0 e.1, not-true (list_any (λ (b : HtmlAttribute). bytes_eq b.0 (attribute_read x).0) before) q.0, foreign_readable (before ++ attribute_read x ∷ []) xs e.2 p.1 q.1)

html_readable : (before xs : List HtmlAttribute) → EachIsFit xs → list_all (λ (a : Attribute). has_no_return a.value) (map plain_attribute xs) ≡ true → AreApart before xs → AreReadable before (map plain_attribute xs)
html_readable before [] e v a = tt
html_readable before (x ∷ xs) e v a =
    let p = and_parts (has_no_return x.1) (list_all (λ (a : Attribute). has_no_return a.value) (map plain_attribute xs)) v in
    let is : (lowered x.0, x.1) ≡ x = ap (λ (k : List ℕ). (k, x.1)) e.0.1 in (
      e.0.0,
      both_kept x.1 p.0 e.1,
      ap (λ (k : List ℕ). list_any (λ (b : HtmlAttribute). bytes_eq b.0 k) before) e.0.1 ∙ a.0,
      subst (λ (y : HtmlAttribute). AreReadable (before ++ y ∷ []) (map plain_attribute xs)) (sym is) (html_readable (before ++ x ∷ []) xs e.2 p.1 a.1),
    )

attributes_readable : (tag : Tag) → IsWrittenTag tag → values_have_none tag ≡ true → has_own_keys tag ≡ true → AreReadable [] tag.attributes
attributes_readable tag w v k = elim (cases_Bool (is_html tag)) [
  | inl y ↦ (
      let own = w.html y in
      subst (AreReadable []) (sym own.are)
      (html_readable [] own.own own.fit.each (ap (λ (xs : List Attribute). list_all (λ (a : Attribute). has_no_return a.value) xs) (sym own.are) ∙ v) own.fit.apart))
  | inr n ↦ foreign_readable [] tag.attributes w.each v (sym (ap (λ b. b || are_apart [] tag.attributes) n) ∙ k)
]

-- Elements that hold markup

abbrev literals : List ℕ
literals = codes "style script xmp iframe noembed noframes plaintext"

pub listed : (p : List ℕ → Bool) (names : List (List ℕ)) (name : List ℕ) → list_all p names ≡ true → list_any (bytes_eq name) names ≡ true → p name ≡ true
listed p [] name h k = absurd (true≢false (sym k))
listed p (n ∷ names) name h k =
    let q = and_parts (p n) (list_all p names) h in
    elim (cases_Bool (bytes_eq name n)) [
      | inl y ↦ subst (λ w. p w ≡ true) (sym ((bytes_eq-Decides name n).0 y)) q.0
      | inr m ↦ listed p names name q.1 (sym (ap (λ b. b || list_any (bytes_eq name) names) m) ∙ k)
    ]

abbrev is_raw_below : List ℕ → Bool
is_raw_below name = is_raw (lowered name)

abbrev holds_markup_below : List ℕ → Bool
holds_markup_below name = not (is_raw (lowered name))

not_literal : (tag : Tag) → is_raw (lowered tag.name) ≡ false → is_literal false tag ≡ false
not_literal tag n = elim (cases_Bool (is_any literals tag)) [
  | inl y ↦ absurd (true≢false (sym (listed is_raw_below (words literals) tag.name refl (and_parts (is_html tag) (is_one_of literals tag.name) y).1) ∙ n))
  | inr m ↦ ap (λ b. b || false) m
]

neither_of_three : (a b c d : Bool) → ((a || b) || (c || (d || false))) ≡ false → (a ≡ false) × (b ≡ false) × (c ≡ false) × (d ≡ false)
neither_of_three false false false false h = (refl, refl, refl, refl)
neither_of_three true b c d h = cc
neither_of_three false true c d h = cc
neither_of_three false false true d h = cc
neither_of_three false false false true h = cc

none_of : (a b c d : Bool) (w x y z s : State) → a ≡ false → b ≡ false → c ≡ false → d ≡ false → (if a then w else if b then x else if c then y else if d then z else s) ≡ s
none_of false false false false w x y z s e f g h = refl
none_of true b c d w x y z s e f g h = cc
none_of false true c d w x y z s e f g h = cc
none_of false false true d w x y z s e f g h = cc
none_of false false false true w x y z s e f g h = cc

markup_state : (name : List ℕ) → is_raw name ≡ false → after_start name ≡ data_state
markup_state name n =
    let h = neither_of_three (is_among rcdata_names name) (is_among rawtext_names name) (bytes_eq name (codes "script")) (bytes_eq name (codes "plaintext")) n in
    none_of (is_among rcdata_names name) (is_among rawtext_names name) (bytes_eq name (codes "script")) (bytes_eq name (codes "plaintext")) _ _ _ _ data_state h.0 h.1 h.2 h.3

pub markup_held : (tag : Tag) → is_raw (lowered tag.name) ≡ false → HoldsMarkup tag
markup_held tag n = (markup_state (lowered tag.name) n, not_literal tag n)

-- Elements that hold a text

text_is : (name bytes : List ℕ) (tokens : List HtmlToken) → are_text_and_end name bytes tokens ≡ true → tokens ≡ map Character bytes ++ EndTag name ∷ []
text_is name (b ∷ bytes) (Character c ∷ tokens) h =
    let p = and_parts (b == c) (are_text_and_end name bytes tokens) h in
    ap₂ (λ (x : ℕ) (y : List HtmlToken). Character x ∷ y) (sym (eqb-true b c p.0)) (text_is name bytes tokens p.1)
text_is name [] (EndTag other ∷ []) h = ap (λ n. EndTag n ∷ []) ((bytes_eq-Decides other name).0 h)
text_is name _ _ h = absurd (true≢false (sym h))

at_data : (s : State) (v : Bool) → is_in_data (record { state = s; after_return = v }) ≡ true → record { state = s; after_return = v } ≡ at data_state
at_data data_state false h = refl
at_data data_state true h = absurd (true≢false (sym h))
at_data _ v h = absurd (true≢false (sym h))

data_is : (r : Reader) → is_in_data r ≡ true → r ≡ at data_state
data_is r h = at_data r.state r.after_return h

text_held : (tag : Tag) (bytes : List ℕ) → ends_itself tag bytes ≡ true →
    IsReadAs (after_start (lowered tag.name)) (serialized_text false (parent_below tag) bytes ++ end_tag tag) (map Character bytes ++ EndTag (lowered tag.name) ∷ [])
text_held tag bytes h =
    let start = at (after_start (lowered tag.name)) in
    let printed = serialized_text false (parent_below tag) bytes ++ end_tag tag in
    let p = and_parts (are_text_and_end (lowered tag.name) bytes (emitted start printed)) (is_in_data (after start printed)) h in
    (text_is (lowered tag.name) bytes (emitted start printed) p.0, data_is (after start printed) p.1)

-- and no other text is

itself : (name bytes : List ℕ) → are_text_and_end name bytes (map Character bytes ++ EndTag name ∷ []) ≡ true
itself name [] = (bytes_eq-Decides name name).1 refl
itself name (b ∷ bytes) = and_from _ _ (eq-eqb b b refl) (itself name bytes)

pub exactly : (tag : Tag) (bytes : List ℕ) → (ends_itself tag bytes ≡ true) ↔ IsReadAs (after_start (lowered tag.name)) (serialized_text false (parent_below tag) bytes ++ end_tag tag) (map Character bytes ++ EndTag (lowered tag.name) ∷ [])
exactly tag bytes = (
  text_held tag bytes,
  λ h. and_from _ _ (ap (are_text_and_end (lowered tag.name) bytes) h.0 ∙ itself (lowered tag.name) bytes) (ap is_in_data h.1),
)

not_void : (tag : Tag) → is_raw (lowered tag.name) ≡ true → is_void tag ≡ false
not_void tag r = elim (cases_Bool (is_void tag)) [
  | inl y ↦ absurd (true≢false (sym (listed holds_markup_below (words void_names) tag.name refl (and_parts (is_html tag) (is_one_of void_names tag.name) y).1) ∙ ap not r))
  | inr n ↦ n
]

literal_nothing : (tag : Tag) → serialized_text false (parent_below tag) [] ≡ []
literal_nothing tag = cond_both (is_literal_in false (parent_below tag)) [] (escaped false []) (λ (x : List ℕ). x ≡ []) (λ _. refl) (λ _. refl)

held : (tag : Tag) (printed bytes : List ℕ) (tokens : List HtmlToken) → is_void tag ≡ false → printed ≡ serialized_text false (parent_below tag) bytes → tokens ≡ map Character bytes → ends_itself tag bytes ≡ true →
    IsReadAs (after_start (lowered tag.name)) (unless_void tag printed ++ end_tag tag) (unless_empty tag tokens ++ end_tokens tag)
held tag printed bytes tokens v e k h =
    let s = after_start (lowered tag.name) in
    let own = text_held tag bytes h in
    let x : unless_void tag printed ++ end_tag tag ≡ serialized_text false (parent_below tag) bytes ++ end_tag tag = ap (λ y. y ++ end_tag tag) (if-false (is_void tag) [] printed v ∙ e) in
    let y : unless_empty tag tokens ++ end_tokens tag ≡ map Character bytes ++ EndTag (lowered tag.name) ∷ [] =
    ap₂ (λ (a b : List HtmlToken). a ++ b) (if-false (is_void tag) [] tokens v ∙ k) (if-false (is_void tag) [] (EndTag (lowered tag.name) ∷ []) v) in
    (ap (emitted (at s)) x ∙ own.0 ∙ sym y, ap (after (at s)) x ∙ own.1)

one_text_held : (tag : Tag) (below : HtmlForest) → is_raw (lowered tag.name) ≡ true → holds_one_text tag below ≡ true → HoldsItself tag below
one_text_held tag no_trees r h = held tag [] [] [] (not_void tag r) (sym (literal_nothing tag)) refl h
one_text_held tag (text own no_trees) r h =
    let bytes = own.said in
    held tag (serialized_text false (parent_below tag) bytes ++ []) bytes (map Character bytes ++ []) (not_void tag r) (append-nil (serialized_text false (parent_below tag) bytes)) (append-nil (map Character bytes)) h
one_text_held tag _ r h = absurd (true≢false (sym h))

-- Trees

below_reads : (tag : Tag) (below : HtmlForest) → (if is_raw (lowered tag.name) then holds_one_text tag below else is_read_again below) ≡ true → (is_read_again below ≡ true → CanBeReadAgain below) →
    (HoldsMarkup tag × CanBeReadAgain below) ⊎ HoldsItself tag below
below_reads tag below h k = elim (cases_Bool (is_raw (lowered tag.name))) [
  | inl y ↦ inr (one_text_held tag below y (sym (ap (λ v. if v then holds_one_text tag below else is_read_again below) y) ∙ h))
  | inr n ↦ inl (markup_held tag n, k (sym (ap (λ v. if v then holds_one_text tag below else is_read_again below) n) ∙ h))
]

pub can_be : (trees : HtmlForest) → AreWritten trees → is_read_again trees ≡ true → CanBeReadAgain trees
can_be no_trees w h = tt
can_be (text own more) w h = let p = and_parts (has_no_return own.said) (is_read_again more) h in (p.0, can_be more w p.1)
can_be (comment bytes more) w h = (w.0, can_be more w.1 h)
can_be (doctype own more) w h = (w.0, can_be more w.1 h)
can_be (element tag below more) w h =
    let p = and_parts (values_have_none tag && has_own_keys tag) _ h in
    let own = and_parts (values_have_none tag) (has_own_keys tag) p.0 in
    let q = and_parts (if is_raw (lowered tag.name) then holds_one_text tag below else is_read_again below) (is_read_again more) p.1 in (
      (w.0.name, attributes_readable tag w.0 own.0 own.1),
      below_reads tag below q.0 (λ k. can_be below w.1 k),
      can_be more w.2 q.1,
    )
