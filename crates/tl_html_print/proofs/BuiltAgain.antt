-- Trees that stay are built again of their print, but for the numbers of start tags.
use Rattle.std.proofs.Common.{Bool, List, None, Option, Some, [], ap, ap₂, append-nil, codes, false, if◌then◌else◌, inl, inr, map, not, refl, subst, sym, true, true≢false, ℕ, ◌&&◌, ◌++◌, ◌==◌, ◌∙◌, ◌∷◌, ◌≡◌, ◌||◌}
use Rattle.std.specs.Prelude.{slice_get, ⊤}
use Rattle.std.specs.List.{list_all, list_any}
use Rattle.std.specs.Str.{bytes_eq}
use Rattle.std.proofs.lemmas.Bool.{and_from, and_parts, cases_Bool, eq-eqb}
use Rattle.tl_names.specs.Elements.{is_among, rawtext_names, rcdata_names}
use Rattle.tl_dom_spec.proofs.PartTrees.{flow_is, partial_is_whole}
use Rattle.tl_dom_spec.proofs.PlainLaw.{bare_fragment, named_tokens}
use Rattle.tl_dom_spec.proofs.TextLaw.{fragment_texts}
use Rattle.tl_dom_spec.specs.Builder.{Flags}
use Rattle.tl_dom_spec.specs.HtmlForest as D
use Rattle.tl_dom_spec.specs.HtmlTree.{Context, context_state, fragment_of_tokens, html_fragment_by, html_tree_by, standard}
use Rattle.tl_dom_spec.specs.Lawful.{HaveHtmlDoctypes, HavePlainNames, driven_by_names, is_plain_name}
use Rattle.tl_dom_spec.specs.Lawful as L
use Rattle.tl_dom_spec.specs.Marks.{Marked, unmarked}
use Rattle.tl_dom_spec.specs.Partial.{is_flow_context, reading_in, unnumbered, whole, without_numbers}
use Rattle.tl_dom_spec.specs.Tags.{Attribute, Tag, html_tag, is_html, plain_attribute}
use Rattle.tl_html_print.proofs.PagePlaces.{at_place, each_written, outer_is}
use Rattle.tl_html_print.proofs.PageReads.{can_be, listed}
use Rattle.tl_html_print.proofs.PageTokens.{EachIsFit}
use Rattle.tl_html_print.proofs.PageTrees.{AreWritten, fragment_written, page_written}
use Rattle.tl_html_print.proofs.Reread.{print_read}
use Rattle.tl_html_print.specs.Again.{built_in, is_read_again}
use Rattle.tl_html_print.specs.Places.{a_node, outer_at, places}
use Rattle.tl_html_print.specs.ReadAgain.{CanBeReadAgain, attribute_read, end_tokens, lowered, tokens_of_trees, unless_empty}
use Rattle.tl_html_print.specs.Serialized.{end_tag, escaped, is_literal_in, parent_below, serialized, start_tag, unless_void}
use Rattle.tl_html_spec.proofs.Fold.{all_stays, feeds_read}
use Rattle.tl_html_spec.specs.Balanced.{is_one_of, is_raw, words}
use Rattle.tl_html_spec.specs.Driven.{Emission, bare, doctype_of, plain}
use Rattle.tl_html_spec.specs.HtmlTokenizer.{Character, CommentToken, DoctypeToken, EndTag, HtmlAttribute, HtmlToken, StartTag, data_state, plaintext, raw, rcdata, tokens_from, tokens_in_page, with_feeds}
use Rattle.tl_html_spec.specs.Reader.{at, tokens_of}
use Rattle.tl_html_spec.specs.Sound.{IsSome}
use Rattle.tl_spec.specs.Lex.ByteClass as C
use Rattle.tl_spec.specs.Tree.Forest.{comment, none, tag, text}
use Rattle.tl_tree_spec.proofs.Texts.{normal}
use Rattle.tl_tree_spec.proofs.Trees.{stays_where}
use Rattle.tl_tree_spec.specs.Builder.{is_flow, mode_of}
use Rattle.tl_tree_spec.specs.Groups.{Group, elsewhere, group, misplaced}
use Rattle.tl_tree_spec.specs.HtmlForest.{HtmlForest, HtmlTag, begins_with_text, html_tokens_of, is_empty, is_normal, normal_form}
use Rattle.tl_tree_spec.specs.Stays.{is_alone, is_none, is_preformatted, begins_line, may_be_read, may_stand, stands, stay}

-- Numbers of start tags are not printed

alike_below : (t : Tag) → is_literal_in false (parent_below (unnumbered t)) ≡ is_literal_in false (parent_below t)
alike_below t = here (D.has_contents t)
  where
    here : (v : Bool) → is_literal_in false (if v then None else Some (unnumbered t)) ≡ is_literal_in false (if v then None else Some t)
    here true = refl
    here false = refl

pub printed_alike : (trees : D.HtmlForest) (p q : Option Tag) → is_literal_in false p ≡ is_literal_in false q → serialized false p (without_numbers trees) ≡ serialized false q trees
printed_alike D.no_trees p q e = refl
printed_alike (D.text own more) p q e = ap₂ (λ (x y : List ℕ). x ++ y) (ap (λ v. if v then own.said else escaped false own.said) e) (printed_alike more p q e)
printed_alike (D.comment own more) p q e = ap (λ x. codes "<!--" ++ (own.said ++ codes "-->") ++ x) (printed_alike more p q e)
printed_alike (D.doctype own more) p q e = ap (λ x. (codes "<!DOCTYPE " ++ (own.said.name ++ codes ">")) ++ x) (printed_alike more p q e)
printed_alike (D.element t below more) p q e =
    ap₂ (λ (x y : List ℕ). start_tag t ++ (unless_void t x ++ (end_tag t ++ y)))
    (printed_alike below (parent_below (unnumbered t)) (parent_below t) (alike_below t))
    (printed_alike more p q e)

pub read_alike : (trees : D.HtmlForest) → tokens_of_trees (without_numbers trees) ≡ tokens_of_trees trees
read_alike D.no_trees = refl
read_alike (D.text own more) = ap (λ x. map Character own.said ++ x) (read_alike more)
read_alike (D.comment own more) = ap (λ x. CommentToken own.said ∷ x) (read_alike more)
read_alike (D.doctype own more) = ap (λ x. DoctypeToken ∷ x) (read_alike more)
read_alike (D.element t below more) =
    ap₂ (λ (x y : List HtmlToken). StartTag (lowered t.name) (map attribute_read t.attributes) false ∷ (unless_empty t x ++ (end_tokens t ++ y))) (read_alike below) (read_alike more)

-- What stays has no element of another part

is_nowhere_group : Group → Bool
is_nowhere_group elsewhere = true
is_nowhere_group misplaced = true
is_nowhere_group _ = false

abbrev is_nowhere : List ℕ → Bool
is_nowhere n = is_nowhere_group (group n)

never : (v : Bool) → v && false ≡ false
never true = refl
never false = refl

nowhere_stands : (g : Group) (names : List (List ℕ)) (n : List ℕ) → is_nowhere_group g ≡ true → stands g names n ≡ false
unfolding is_nowhere_group
nowhere_stands elsewhere names n h = never (is_flow (mode_of names))
nowhere_stands misplaced names n h = never (is_flow (mode_of names))
nowhere_stands _ names n h = absurd (true≢false (sym h))

not_nowhere : (names : List (List ℕ)) (n : List ℕ) → may_stand names n ≡ true → is_nowhere n ≡ false
not_nowhere names n h = elim (cases_Bool (is_nowhere n)) [
  | inl y ↦ absurd (true≢false (sym h ∙ nowhere_stands (group n) names n y))
  | inr m ↦ m
]

abbrev void_or_nowhere : List ℕ → Bool
void_or_nowhere n = C.is_void n || is_nowhere n

abbrev is_void_name : List ℕ → Bool
is_void_name n = is_one_of L.void_names n

first_of : (a b : Bool) → a || b ≡ true → b ≡ false → a ≡ true
first_of true b h k = refl
first_of false b h k = absurd (true≢false (sym h ∙ k))

pub void_same : (names : List (List ℕ)) (n : List ℕ) → may_stand names n ≡ true → is_void_name n ≡ C.is_void n
unfolding is_nowhere_group
void_same names n h = elim (cases_Bool (is_void_name n)) [
  | inl y ↦ y ∙ sym (first_of (C.is_void n) (is_nowhere n) (listed void_or_nowhere (words L.void_names) n refl y) (not_nowhere names n h))
  | inr m ↦ elim (cases_Bool (C.is_void n)) [
    | inl y ↦ absurd (true≢false (sym (listed is_void_name C.void_names n refl y) ∙ m))
    | inr k ↦ m ∙ sym k
  ]
]

no_list : (list : List (List ℕ)) (n : List ℕ) → list_all is_nowhere list ≡ true → is_nowhere n ≡ false → list_any (bytes_eq n) list ≡ false
no_list list n h k = elim (cases_Bool (list_any (bytes_eq n) list)) [
  | inl y ↦ absurd (true≢false (sym (listed is_nowhere list n h y) ∙ k))
  | inr m ↦ m
]

none_of_five : (a b c d : Bool) → a ≡ false → b ≡ false → c ≡ false → d ≡ false → not ((a || b) || ((c || d) || false)) ≡ true
none_of_five false false false false e f g h = refl
none_of_five true b c d e f g h = cc
none_of_five false true c d e f g h = cc
none_of_five false false true d e f g h = cc
none_of_five false false false true e f g h = cc

none_of_three : (a b c : Bool) → a ≡ false → b ≡ false → c ≡ false → (a || b) || c ≡ false
none_of_three false false false e f g = refl
none_of_three true b c e f g = cc
none_of_three false true c e f g = cc
none_of_three false false true e f g = cc

-- what may stand holds markup
pub standing_is_markup : (names : List (List ℕ)) (n : List ℕ) → may_stand names n ≡ true → is_raw n ≡ false
unfolding is_nowhere_group
standing_is_markup names n h =
    let k = not_nowhere names n h in
    none_of_three (is_among rcdata_names n) (is_among rawtext_names n) (is_one_of (codes "script plaintext") n)
    (no_list rcdata_names n refl k) (no_list rawtext_names n refl k) (no_list (words (codes "script plaintext")) n refl k)

-- with scripting off
abbrev by : Bool → Flags
by counts_search = record standard { counts_search = counts_search }

plain_standing : (v : Bool) (names : List (List ℕ)) (n : List ℕ) → may_stand names n ≡ true → is_plain_name (by v) n ≡ true
unfolding is_nowhere_group
plain_standing v names n h =
    let k = not_nowhere names n h in
    none_of_five (is_one_of (codes "math svg") n) (is_among rcdata_names n) (is_among rawtext_names n) (is_one_of (codes "script plaintext") n)
    (no_list (words (codes "math svg")) n refl k) (no_list rcdata_names n refl k) (no_list rawtext_names n refl k) (no_list (words (codes "script plaintext")) n refl k)

-- The tokens of trees that stay

-- names and keys are in lower case
abbrev pub EachIsLow : List HtmlAttribute → Type 0
EachIsLow [] = ⊤
EachIsLow (a ∷ attributes) = (lowered a.0 ≡ a.0) × EachIsLow attributes

abbrev pub AreLow : HtmlForest → Type 0
AreLow none = ⊤
AreLow (text bytes more) = AreLow more
AreLow (comment bytes more) = AreLow more
AreLow (tag own children more) = (lowered own.name ≡ own.name) × EachIsLow own.attributes × AreLow children × AreLow more

keys_read : (xs : List HtmlAttribute) → EachIsLow xs → map attribute_read (map plain_attribute xs) ≡ xs
keys_read [] h = refl
keys_read (x ∷ xs) h = ap₂ (λ (k : List ℕ) (ys : List HtmlAttribute). (k, x.1) ∷ ys) h.0 (keys_read xs h.1)

abbrev Inside : List (List ℕ) → HtmlTag → HtmlForest → Bool → Bool
Inside names own children void =
    if void then is_alone (group own.name) && is_none children
    else not (is_alone (group own.name)) && not (is_preformatted (group own.name) && begins_line children) && stay (own.name ∷ names) children

inside_same : (own : HtmlTag) (children more : HtmlForest) → (names : List (List ℕ)) → (stay (own.name ∷ names) children ≡ true → tokens_of_trees (whole children) ≡ html_tokens_of children) → lowered own.name ≡ own.name →
    (v u : Bool) → v ≡ u → tokens_of_trees (whole more) ≡ html_tokens_of more → Inside names own children u ≡ true →
    (if v then [] else tokens_of_trees (whole children)) ++ ((if v then [] else EndTag (lowered own.name) ∷ []) ++ tokens_of_trees (whole more))
    ≡ (if u then html_tokens_of more else html_tokens_of children ++ (EndTag own.name ∷ html_tokens_of more))
inside_same own children more names below low true true e k s = k
inside_same own children more names below low false false e k s =
    ap₂ (λ (x y : List HtmlToken). x ++ y) (below (and_parts _ (stay (own.name ∷ names) children) s).1) (ap₂ (λ (n : List ℕ) (ts : List HtmlToken). EndTag n ∷ ts) low k)
inside_same own children more names below low true false e k s = cc
inside_same own children more names below low false true e k s = cc

pub tokens_same : (names : List (List ℕ)) (f : HtmlForest) → AreLow f → stay names f ≡ true → tokens_of_trees (whole f) ≡ html_tokens_of f
tokens_same names none l h = refl
tokens_same names (text bytes more) l h =
    ap (λ x. map Character bytes ++ x) (tokens_same names more l (and_parts (list_all (may_be_read (is_flow (mode_of names))) bytes) (stay names more) h).1)
tokens_same names (comment bytes more) l h = absurd (true≢false (sym h))
tokens_same names (tag own children more) l h =
    let q = and_parts (may_stand names own.name && Inside names own children (C.is_void own.name)) (stay names more) h in
    let p = and_parts (may_stand names own.name) (Inside names own children (C.is_void own.name)) q.0 in
    let later = tokens_same names more l.3 q.1 in
    ap₂ (λ (n : List ℕ) (a : List HtmlAttribute). StartTag n a false ∷ (unless_empty (html_tag own.name own.attributes) (tokens_of_trees (whole children)) ++ (end_tokens (html_tag own.name own.attributes) ++ tokens_of_trees (whole more)))) l.0 (keys_read own.attributes l.1)
    ∙ ap (λ (ts : List HtmlToken). StartTag own.name own.attributes false ∷ ts)
    (inside_same own children more names (λ k. tokens_same (own.name ∷ names) children l.2 k) l.0 (is_void_name own.name) (C.is_void own.name) (void_same names own.name p.0) later p.1)

plain-append : (v : Bool) (xs ys : List HtmlToken) → HavePlainNames (by v) xs → HavePlainNames (by v) ys → HavePlainNames (by v) (xs ++ ys)
plain-append v [] ys h k = k
plain-append v (Character c ∷ xs) ys h k = plain-append v xs ys h k
plain-append v (StartTag n a closes ∷ xs) ys h k = (h.0, plain-append v xs ys h.1 k)
plain-append v (EndTag n ∷ xs) ys h k = plain-append v xs ys h k
plain-append v (CommentToken bytes ∷ xs) ys h k = plain-append v xs ys h k
plain-append v (DoctypeToken ∷ xs) ys h k = plain-append v xs ys h k

plain-characters : (v : Bool) (bytes : List ℕ) → HavePlainNames (by v) (map Character bytes)
plain-characters v [] = tt
plain-characters v (b ∷ bytes) = plain-characters v bytes

plain_inside : (v : Bool) (names : List (List ℕ)) (own : HtmlTag) (children more : HtmlForest) → (stay (own.name ∷ names) children ≡ true → HavePlainNames (by v) (html_tokens_of children)) → (u : Bool) → HavePlainNames (by v) (html_tokens_of more) → Inside names own children u ≡ true →
    HavePlainNames (by v) (if u then html_tokens_of more else html_tokens_of children ++ (EndTag own.name ∷ html_tokens_of more))
plain_inside v names own children more below true k s = k
plain_inside v names own children more below false k s =
    plain-append v (html_tokens_of children) (EndTag own.name ∷ html_tokens_of more) (below (and_parts _ (stay (own.name ∷ names) children) s).1) k

plain_names : (v : Bool) (names : List (List ℕ)) (f : HtmlForest) → stay names f ≡ true → HavePlainNames (by v) (html_tokens_of f)
plain_names v names none h = tt
plain_names v names (text bytes more) h =
    plain-append v (map Character bytes) (html_tokens_of more) (plain-characters v bytes)
    (plain_names v names more (and_parts (list_all (may_be_read (is_flow (mode_of names))) bytes) (stay names more) h).1)
plain_names v names (comment bytes more) h = absurd (true≢false (sym h))
plain_names v names (tag own children more) h =
    let q = and_parts (may_stand names own.name && Inside names own children (C.is_void own.name)) (stay names more) h in
    let p = and_parts (may_stand names own.name) (Inside names own children (C.is_void own.name)) q.0 in
    (plain_standing v names own.name p.0, plain_inside v names own children more (λ k. plain_names v (own.name ∷ names) children k) (C.is_void own.name) (plain_names v names more q.1) p.1)

-- no doctype is among them
abbrev HaveNoDoctype : List HtmlToken → Type 0
HaveNoDoctype [] = ⊤
HaveNoDoctype (DoctypeToken ∷ tokens) = ⊥
HaveNoDoctype (token ∷ tokens) = HaveNoDoctype tokens

none-append : (xs ys : List HtmlToken) → HaveNoDoctype xs → HaveNoDoctype ys → HaveNoDoctype (xs ++ ys)
none-append [] ys h k = k
none-append (Character c ∷ xs) ys h k = none-append xs ys h k
none-append (StartTag n a closes ∷ xs) ys h k = none-append xs ys h k
none-append (EndTag n ∷ xs) ys h k = none-append xs ys h k
none-append (CommentToken bytes ∷ xs) ys h k = none-append xs ys h k
none-append (DoctypeToken ∷ xs) ys h k = absurd h

none-characters : (bytes : List ℕ) → HaveNoDoctype (map Character bytes)
none-characters [] = tt
none-characters (b ∷ bytes) = none-characters bytes

none_inside : (own : HtmlTag) (children more : HtmlForest) → HaveNoDoctype (html_tokens_of children) → HaveNoDoctype (html_tokens_of more) → (u : Bool) → HaveNoDoctype (if u then html_tokens_of more else html_tokens_of children ++ (EndTag own.name ∷ html_tokens_of more))
none_inside own children more h k true = k
none_inside own children more h k false = none-append (html_tokens_of children) (EndTag own.name ∷ html_tokens_of more) h k

no_doctype : (f : HtmlForest) → HaveNoDoctype (html_tokens_of f)
no_doctype none = tt
no_doctype (text bytes more) = none-append (map Character bytes) (html_tokens_of more) (none-characters bytes) (no_doctype more)
no_doctype (comment bytes more) = no_doctype more
no_doctype (tag own children more) = none_inside own children more (no_doctype children) (no_doctype more) (C.is_void own.name)

html_doctypes : (es : List Emission) → HaveNoDoctype (map bare es) → HaveHtmlDoctypes es
html_doctypes [] h = tt
html_doctypes (doctype_of own ∷ es) h = absurd h
html_doctypes (plain (Character c) ∷ es) h = html_doctypes es h
html_doctypes (plain (StartTag n a closes) ∷ es) h = html_doctypes es h
html_doctypes (plain (EndTag n) ∷ es) h = html_doctypes es h
html_doctypes (plain (CommentToken bytes) ∷ es) h = html_doctypes es h
html_doctypes (plain DoctypeToken ∷ es) h = absurd h

-- The trees

in_page : (bytes : List ℕ) → tokens_of (at data_state) bytes ≡ tokens_in_page bytes
in_page bytes = feeds_read false data_state bytes ∙ ap (λ t. tokens_from data_state (with_feeds t)) (all_stays bytes)

-- in a context element of flow content the tokenizer begins in the data state
no_state : (html a b c : Bool) → (a || b) || c ≡ false → (if html && a then raw (rcdata []) else if html && ((b || c) || false) then plaintext else data_state) ≡ data_state
no_state true false false false h = refl
no_state false false false false h = refl
no_state html true b c h = absurd (true≢false h)
no_state html false true c h = absurd (true≢false h)
no_state html false false true h = absurd (true≢false h)

begins_in_data : (v : Bool) (context : Context) → is_raw context.tag.name ≡ false → context_state (by v) context.tag ≡ data_state
begins_in_data v context h =
    no_state (is_html context.tag) (is_among rcdata_names context.tag.name) (is_among rawtext_names context.tag.name) (is_one_of (codes "script plaintext") context.tag.name) h

-- texts that stand side by side are one text then
pub built_joined : (context : Context) → is_flow_context context ≡ true → (v : Bool) (trees : D.HtmlForest) (f : HtmlForest) → without_numbers trees ≡ whole f → CanBeReadAgain trees → AreLow f → stay (codes "html" ∷ []) f ≡ true → without_numbers (built_in context v (serialized false None trees)) ≡ whole (normal_form f)
built_joined context k v trees f e c l h =
    let flow = flow_is context k in
    let print = serialized false None trees in
    let read : tokens_in_page print ≡ html_tokens_of f =
    sym (in_page print)
    ∙ ap (tokens_of (at data_state)) (sym (append-nil print))
    ∙ print_read trees [] c
    ∙ append-nil (tokens_of_trees trees)
    ∙ sym (read_alike trees)
    ∙ ap tokens_of_trees e
    ∙ tokens_same (codes "html" ∷ []) f l h in
    let named = subst (HavePlainNames (by v)) (sym read) (plain_names v (codes "html" ∷ []) f h) in
    let doctypes = html_doctypes (driven_by_names print) (subst HaveNoDoctype (sym (named_tokens print ∙ read)) (no_doctype f)) in
    ap without_numbers (bare_fragment (by v) context print flow.html (begins_in_data v context flow.markup) named doctypes)
    ∙ ap (λ ts. without_numbers (fragment_of_tokens (by v) context ts)) read
    ∙ partial_is_whole context v (html_tokens_of f) (normal_form f) k (stays_where (reading_in context v) f h)

pub built_again : (context : Context) → is_flow_context context ≡ true → (v : Bool) (trees : D.HtmlForest) (f : HtmlForest) → without_numbers trees ≡ whole f → CanBeReadAgain trees → AreLow f → stay (codes "html" ∷ []) f ≡ true → is_normal f ≡ true → without_numbers (built_in context v (serialized false None trees)) ≡ without_numbers trees
built_again context k v trees f e c l h n = built_joined context k v trees f e c l h ∙ ap whole (normal f n) ∙ sym e

-- names and keys of pages are in lower case

each_low : (xs ys : List HtmlAttribute) → EachIsFit xs → map plain_attribute xs ≡ map plain_attribute ys → EachIsLow ys
each_low [] [] h e = tt
each_low [] (y ∷ ys) h e = cc
each_low (x ∷ xs) [] h e = cc
each_low (x ∷ xs) (y ∷ ys) h e =
    let first : plain_attribute x ≡ plain_attribute y = cc in
    let more : map plain_attribute xs ≡ map plain_attribute ys = cc in
    (subst (λ (k : List ℕ). lowered k ≡ k) (ap (λ (a : Attribute). a.key) first) h.0.1, each_low xs ys h.2 more)

abbrev kind : D.HtmlForest → ℕ
kind D.no_trees = 0
kind (D.text bytes more) = 1
kind (D.comment bytes more) = 2
kind (D.doctype own more) = 3
kind (D.element t below more) = 4

differ : (n m : ℕ) → (n == m) ≡ false → n ≡ m → ⊥
differ n m h e = true≢false (sym (eq-eqb n m e) ∙ h)

no_doctype_kind : (f : HtmlForest) → (3 == kind (whole f)) ≡ false
no_doctype_kind none = refl
no_doctype_kind (text bytes more) = refl
no_doctype_kind (comment bytes more) = refl
no_doctype_kind (tag own children more) = refl

low_trees : (trees : D.HtmlForest) (f : HtmlForest) → AreWritten trees → without_numbers trees ≡ whole f → AreLow f
low_trees D.no_trees none w e = tt
low_trees (D.text bytes more) (text other rest) w e = let m : without_numbers more ≡ whole rest = cc in low_trees more rest w m
low_trees (D.comment bytes more) (comment other rest) w e = let m : without_numbers more ≡ whole rest = cc in low_trees more rest w.1 m
low_trees (D.element t below more) (tag own children rest) w e =
    let same : unnumbered t ≡ html_tag own.name own.attributes = cc in
    let b : without_numbers below ≡ whole children = cc in
    let m : without_numbers more ≡ whole rest = cc in
    let html = ap is_html same in
    let name = ap (λ (x : Tag). x.name) same in
    let attributes = ap (λ (x : Tag). x.attributes) same in
    let fit = w.0.html html in (
      subst (λ (n : List ℕ). lowered n ≡ n) name (w.0.low html),
      each_low fit.own own.attributes fit.fit.each (sym fit.are ∙ attributes),
      low_trees below children w.1 b,
      low_trees more rest w.2 m,
    )
low_trees (D.doctype own more) f w e = absurd (differ 3 (kind (whole f)) (no_doctype_kind f) (ap kind e))
low_trees trees f w e = absurd (differ (kind (without_numbers trees)) (kind (whole f)) refl (ap kind e))

-- texts of pages are whole

begins_alike : (trees : D.HtmlForest) (f : HtmlForest) → without_numbers trees ≡ whole f → L.begins_with_text trees ≡ begins_with_text f
begins_alike D.no_trees none e = refl
begins_alike (D.text bytes more) (text other rest) e = refl
begins_alike (D.comment bytes more) (comment other rest) e = refl
begins_alike (D.element own below more) (tag other children rest) e = refl
begins_alike (D.doctype own more) f e = absurd (differ 3 (kind (whole f)) (no_doctype_kind f) (ap kind e))
begins_alike trees f e = absurd (differ (kind (without_numbers trees)) (kind (whole f)) refl (ap kind e))

normal_of : (trees : D.HtmlForest) (f : HtmlForest) → L.EachText (λ own. IsSome own.said) trees → L.AreApart trees → without_numbers trees ≡ whole f → is_normal f ≡ true
normal_of D.no_trees none t a e = refl
normal_of (D.text bytes more) (text other rest) t a e =
    let u : unmarked bytes.said ≡ unmarked other = cc in
    let b : bytes.said ≡ other = ap (λ (own : Marked (List ℕ)). own.said) u in
    let m : without_numbers more ≡ whole rest = cc in
    and_from _ _ (subst (λ w. not (is_empty w) ≡ true) b (some_is bytes.said t.0))
    (and_from _ _ (sym (ap not (begins_alike more rest m)) ∙ ap not a.0) (normal_of more rest t.1 a.1 m))
  where
    some_is : (w : List ℕ) → IsSome w → not (is_empty w) ≡ true
    some_is (c ∷ w) h = refl
    some_is [] h = absurd h
normal_of (D.comment bytes more) (comment other rest) t a e = let m : without_numbers more ≡ whole rest = cc in normal_of more rest t a m
normal_of (D.element own below more) (tag other children rest) t a e =
    let b : without_numbers below ≡ whole children = cc in
    let m : without_numbers more ≡ whole rest = cc in
    and_from _ _ (normal_of below children t.0 a.0 b) (normal_of more rest t.1 a.1 m)
normal_of (D.doctype own more) f t a e = absurd (differ 3 (kind (whole f)) (no_doctype_kind f) (ap kind e))
normal_of trees f t a e = absurd (differ (kind (without_numbers trees)) (kind (whole f)) refl (ap kind e))

-- The laws

pub node_built_again : (around : Context) (v : Bool) (flags : Flags) (page : List ℕ) (number : ℕ) (parent : Option Tag) (tree : D.HtmlForest) (f : HtmlForest) → is_flow_context around ≡ true → slice_get (places None (html_tree_by flags page).trees) number ≡ Some (a_node parent tree) → is_literal_in false parent ≡ false →
    without_numbers tree ≡ whole f → is_read_again tree ≡ true → stay (codes "html" ∷ []) f ≡ true → is_normal f ≡ true → without_numbers (built_in around v (outer_at false (html_tree_by flags page).trees number)) ≡ without_numbers tree
node_built_again around v flags page number parent tree f k at_number l e r h n =
    let trees = (html_tree_by flags page).trees in
    let w : AreWritten tree = at_place (places None trees) number (a_node parent tree) (each_written None trees (page_written flags page)) at_number in
    ap (λ (x : List ℕ). without_numbers (built_in around v x)) (outer_is trees number parent tree at_number ∙ sym (printed_alike tree parent parent refl) ∙ printed_alike tree parent None l)
    ∙ built_again around k v tree f e (can_be tree w r) (low_trees tree f w e) h n

pub fragment_built_again : (around : Context) (v : Bool) (flags : Flags) (context : Context) (bytes : List ℕ) (f : HtmlForest) → is_flow_context around ≡ true → without_numbers (html_fragment_by flags context bytes) ≡ whole f → is_read_again (html_fragment_by flags context bytes) ≡ true → stay (codes "html" ∷ []) f ≡ true →
    without_numbers (built_in around v (serialized false None (html_fragment_by flags context bytes))) ≡ without_numbers (html_fragment_by flags context bytes)
fragment_built_again around v flags context bytes f k e r h =
    let trees = html_fragment_by flags context bytes in
    let w = fragment_written flags context bytes in
    let t = fragment_texts flags context bytes in
    built_again around k v trees f e (can_be trees w r) (low_trees trees f w e) h (normal_of trees f t.0 t.1 e)
