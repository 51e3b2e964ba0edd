-- The rules of "in body", of tables, templates, and after the body and its framesets: each keeps what holds of a builder further in.
use Rattle.std.proofs.Common.{Bool, List, None, Option, Some, [], ap, arith, codes, false, if◌then◌else◌, inl, inr, is_none, not, refl, subst, suc, sym, true, true≢false, ℕ, ◌&&◌, ◌<◌, ◌==◌, ◌∙◌, ◌∷◌, ◌≡◌, ◌≤◌, ◌⊎◌}
use Rattle.std.specs.Prelude.{⊤}
use Rattle.std.specs.Str.{bytes_eq}
use Rattle.std.proofs.lemmas.Bool.{and_from, and_parts, and_right, cases_Bool, cases_order, cond_both, false_from_ne_true, or_from}
use Rattle.std.proofs.lemmas.Slice.Eq.{bytes_eq-Decides}
use Rattle.tl_names.specs.Elements.{implied_ends, is_among}
use Rattle.tl_html_spec.specs.Balanced.{is_one_of, words}
use Rattle.tl_dom_spec.specs.Tags.{Tag, bare_tag, is_any, is_heading, is_html, is_implied, is_implied_thoroughly, is_named, is_scope, is_select, is_special, is_template, math_space, no_tag, svg_space}
use Rattle.tl_dom_spec.specs.Groups.{Group, a_base, a_block, a_break, a_button, a_caption, a_cell, a_column, a_column_group, a_description, a_detail, a_form, a_format, a_frame, a_frameset, a_heading, a_link, a_mark, a_math, a_nobr, a_noembed, a_noframes, a_noscript, a_paragraph, a_plaintext, a_preformatted, a_row, a_ruby_base, a_ruby_text, a_rule, a_script, a_select, a_style, a_table, a_table_body, a_template, a_textarea, a_title, a_void, an_anchor, an_example, an_iframe, an_image, an_input, an_item, an_option, an_option_group, an_svg, any_other, group, the_body, the_head, the_html}
use Rattle.tl_dom_spec.specs.Path.{Frame, Path, Place, caught_up, elements, has_tag, here, implied_closed, new_frame, place_in, popped, popped_to, popped_while, top_settled, within}
use Rattle.tl_dom_spec.specs.Builder.{Again, Builder, Done, Mode, Token, a_character, a_comment, a_doctype, a_start, after_after_body, after_after_frameset, after_body, after_frameset, after_head, an_end, before_head, before_html, close_except_for, end_of_file, frameset_not_ok, has_in_scope, has_template, in_body, in_caption, in_cell, in_column_group, in_frameset, in_head, in_head_noscript, in_row, in_table, in_table_body, in_table_text, in_template, initial, insert_element, insert_marker, is_context, parse_raw_text, pushed_at, switch_to, text_mode, with_path}
use Rattle.tl_dom_spec.specs.Formatting.{listed, reconstruct_formatting}
use Rattle.tl_dom_spec.specs.Adoption.{any_other_end_tag}
use Rattle.tl_dom_spec.specs.Reset.{close_template, template_end_tag}
use Rattle.tl_dom_spec.specs.Body.{anchor_ended, body_end, body_number, body_start, close_in_scope, close_p, file_ended, frameset_start_at, from_html, heading_closed, in_body_step, input_inserted, item_closed, nobr_ended, ruby_closed, rule_start}
use Rattle.tl_dom_spec.proofs.Allowed.{Each}
use Rattle.tl_dom_spec.proofs.Words.{any_word}
use Rattle.tl_dom_spec.proofs.SeatedPaths.{AreComments, BodyNext, Falls, HeadAlone, IsBody, IsCell, IsDocument, IsHtml, IsRoot, Rest, Seated, bar_names, bare, behind_head, bodied, body-settled, cell, cell_no_body, high, inside, joined-alone, joined-body, off-Seated, one_of_these, popped-Sought, popped_through-Seated, rooted, search-Sought, settled-Seated, settled_while-Seated, template_no_body, under_head}
use Rattle.tl_dom_spec.proofs.SeatedBuilders.{Deep, DeepOf, Fits, Kept, fewer, formatting-Deep, insert-Deep, later_listed, later_numbers, listed-kept, no_bar_any, number_fresh, on_path, reconstruct-Deep}
use Rattle.tl_dom_spec.proofs.SeatedAdoption.{agency-Deep, other_end-Deep, scope_bounds, special_bounds}
use Rattle.tl_dom_spec.proofs.GroupNames.{IsTiedTag, any_of, free_of, name_of, no_bar_named, other_name, plain_of}
use Rattle.tl_dom_spec.proofs.Grounds.{Lax, below_three, close-Ground, closed_off, closes_of, deep, low_most, opened}
use Rattle.tl_dom_spec.proofs.SeatedBody.{IsTaking, Stage, StageAfter, alone-Deep, anchor_ended-Deep, any_not_implied, body_character-Deep, body_start_at-Deep, but_itself, close_in_scope-Deep, close_p-Deep, comment-Deep, done, foreign-Deep, form_at-Deep, form_ended-Deep, ground, head_part-Stage, heading_closed-Deep, heading_unimplied, html_start-Deep, if_after, if_deep, input_inserted-Deep, item_closed-Deep, item_ended-Deep, listed_anchor, listed_same, mark_ended-Deep, marker-Deep, named-Deep, no_bar_heading, nobr_ended-Deep, noscript_start-Stage, not_ok-Deep, option_start-Deep, p_ended-Deep, raw_text-Stage, ruby_closed-Deep, rule_start-Deep, select_start-Deep, skip-Stage, switch-Deep, table_start-Deep, unimplied, void_start-Deep}
use Rattle.std.proofs.lemmas.Bool.Decides.{nat_tests}

-- a start tag of `frameset`, where the body may still be taken out: the path up to `html`

abbrev Framed : Bool → Path → Type 0
Framed ok path = (h : Frame) × (d : Frame) × (from_html path ≡ h ∷ d ∷ []) × IsRoot h × IsDocument d × ((HeadAlone h.children × (ok ≡ true → AreComments h.waiting)) ⊎ BodyNext h.children)

above_one : (k : ℕ) → 2 < k → (k == 1) ≡ false
above_one k l = grind (arith, nat_tests)

above_by : {m : ℕ} (k : ℕ) → k ≡ m → 2 < m → 2 < k
above_by k e l = omega (arith, e, l)

numbered : (n : ℕ) (f : Frame) (path other : Path) → 2 < f.number → (if f.number == 1 then path else other) ≡ other
numbered n f path other l = ap (λ (x : Bool). if x then path else other) (above_one f.number l)

from_inside : {S L : List ℕ} {N : ℕ} {ok : Bool} {low m : ℕ} {tg : Tag} {path : Path} (f : Frame) → 2 < f.number → Seated S L N ok low m tg path → from_html (f ∷ path) ≡ from_html path
from_inside f l (high t rest b i r) = numbered 1 f (f ∷ t ∷ rest) (from_html (t ∷ rest)) l
from_inside f l (bodied g h d b p i r a w e) = numbered 1 f (f ∷ g ∷ h ∷ d ∷ []) (from_html (g ∷ h ∷ d ∷ [])) l
from_inside f l (rooted h d r e n b) = numbered 1 f (f ∷ h ∷ d ∷ []) (from_html (h ∷ d ∷ [])) l
from_inside f l (cell g p b q i s) = numbered 1 f (f ∷ g ∷ p) (from_html (g ∷ p)) l
from_inside f l (inside g p q s) = numbered 1 f (f ∷ g ∷ p) (from_html (g ∷ p)) l

framed : {S L : List ℕ} {N : ℕ} {ok : Bool} {low m : ℕ} {tg : Tag} {path : Path} → low ≤ 2 → Seated S L N ok low m tg path → Framed ok path
framed e (high t rest b i r) = absurd (omega (arith, e))
framed e (bodied g h d b p i r a w k) =
    (h, d, numbered 1 g (g ∷ h ∷ d ∷ []) (from_html (h ∷ d ∷ [])) (above_by g.number b.number b.above) ∙ ap (λ (x : Bool). if x then h ∷ d ∷ [] else from_html (d ∷ [])) (ap (λ n. n == 1) r.number), r, k, inl (a, w))
framed e (rooted h d r k n b) = (h, d, ap (λ (x : Bool). if x then h ∷ d ∷ [] else from_html (d ∷ [])) (ap (λ n. n == 1) r.number), r, b, inr n)
framed e (cell f p b l i s) = let t = framed e s in (t.0, t.1, from_inside f l.above s ∙ t.2, t.3, t.4, t.5)
framed e (inside f p l s) = let t = framed e s in (t.0, t.1, from_inside f l.above s ∙ t.2, t.3, t.4, t.5)

-- before the body there is none

no_body_tag : (names : List ℕ) (t : Tag) → Each (λ name. is_one_of (codes "body") name ≡ false) (words names) → is_any names t ≡ true → is_any (codes "body") t ≡ false
no_body_tag names t k e =
    and_right (is_html t) _ (any_word (λ name. is_one_of (codes "body") name ≡ false) (words names) t.name k (and_parts (is_html t) (is_one_of names t.name) e).1)

-- two elements at least, of which the second to last is no body
abbrev NoBody : List Frame → Type 0
NoBody fs = (g : Frame) × (h : Frame) × (more : List Frame) × (fs ≡ g ∷ h ∷ more) × (body_number (g ∷ h ∷ more) ≡ None)

no_body_more : (f : Frame) (fs : List Frame) → NoBody fs → NoBody (f ∷ fs)
no_body_more f fs n = (f, n.0, n.1 ∷ n.2, ap (λ x. f ∷ x) n.3, n.4)

rest_no_body : (t : Frame) (place : Place) (rest : Path) → t.is_open ≡ true → is_template t.tag ≡ true → Rest place rest → NoBody (elements (t ∷ rest))
rest_no_body t place rest o i (under_head f h d q r c w e) =
    subst NoBody (sym (opened t (f ∷ h ∷ d ∷ []) o))
    (no_body_more t (elements (f ∷ h ∷ d ∷ [])) (
      f,
      h,
      [],
      opened f (h ∷ d ∷ []) q.open_still ∙ ap (λ x. f ∷ x) (opened h (d ∷ []) r.open_still ∙ ap (λ x. h ∷ x) (closed_off d [] e.closed)),
      ap (λ (x : Bool). if x then Some f.number else None) (no_body_tag (codes "head") f.tag (refl, tt) q.tag),
    ))
rest_no_body t place rest o i (behind_head h d r c w e) = (
  t,
  h,
  [],
  opened t (h ∷ d ∷ []) o ∙ ap (λ x. t ∷ x) (opened h (d ∷ []) r.open_still ∙ ap (λ x. h ∷ x) (closed_off d [] e.closed)),
  ap (λ (x : Bool). if x then Some t.number else None) (no_body_tag (codes "template") t.tag (refl, tt) i),
)

no_body : {S L : List ℕ} {N : ℕ} {ok : Bool} {low m : ℕ} {tg : Tag} {path : Path} → low ≡ 3 → Seated S L N ok low m tg path → NoBody (elements path)
no_body y (high t rest b i r) = rest_no_body t t.place rest b.open_still (ap (λ x. is_template x) b.tag ∙ i) r
no_body y (bodied g h d b p i r a w k) = absurd (omega (arith, y))
no_body y (rooted h d r k n b) = absurd (omega (arith, y))
no_body y (cell f p b l i s) = subst NoBody (sym (opened f p b.open_still)) (no_body_more f (elements p) (no_body y s))
no_body y (inside f p l s) = cond_both f.is_open (f ∷ elements p) (elements p) NoBody (λ _. no_body_more f (elements p) (no_body y s)) (λ _. no_body y s)

scoped_off : (f : Frame) (path : Path) → f.is_open ≡ true → is_any (codes "body") f.tag ≡ false → is_scope f.tag ≡ true → within (has_tag (is_any (codes "body"))) (has_tag is_scope) (elements (f ∷ path)) ≡ false
scoped_off f path o e k =
    ap (within (has_tag (is_any (codes "body"))) (has_tag is_scope)) (opened f path o)
    ∙ or_from (is_any (codes "body") f.tag) _ e (ap (λ x. not x && within (has_tag (is_any (codes "body"))) (has_tag is_scope) (elements path)) k)

body_within : {S L : List ℕ} {N : ℕ} {ok : Bool} {low m : ℕ} {tg : Tag} {path : Path} → low ≡ 3 → Seated S L N ok low m tg path → within (has_tag (is_any (codes "body"))) (has_tag is_scope) (elements path) ≡ false
body_within y (bodied g h d b p i r a w k) = absurd (omega (arith, y))
body_within y (rooted h d r k n b) = absurd (omega (arith, y))
body_within y (high t rest b i r) =
    scoped_off t rest b.open_still (no_body_tag (codes "template") t.tag (refl, tt) (ap (λ x. is_template x) b.tag ∙ i))
    (scope_bounds t.tag (one_of_these [] [] 0 true (codes "template") (codes "html template td th") t.tag (refl, tt) (ap (λ x. is_template x) b.tag ∙ i)))
body_within y (cell f p b l i s) =
    scoped_off f p b.open_still (no_body_tag (codes "td th") f.tag (refl, (refl, tt)) (ap (λ x. is_any (codes "td th") x) b.tag ∙ i))
    (scope_bounds f.tag (one_of_these [] [] 0 true (codes "td th") (codes "html template td th") f.tag (refl, (refl, tt)) (ap (λ x. is_any (codes "td th") x) b.tag ∙ i)))
body_within y (inside f p l s) =
    elim (cases_Bool f.is_open) [
      | inr n ↦ ap (within (has_tag (is_any (codes "body"))) (has_tag is_scope)) (closed_off f p n) ∙ body_within y s
      | inl o ↦ ap (within (has_tag (is_any (codes "body"))) (has_tag is_scope)) (opened f p o)
          ∙ or_from (is_any (codes "body") f.tag) _ (fewer (codes "body") (codes "body frameset") f.tag (refl, tt) (l.tag.no_body (omega (arith, y)))) (and_right (not (is_scope f.tag)) _ (body_within y s))
    ]

pub three_is : (low : ℕ) → 3 ≤ low → low ≤ 3 → low ≡ 3
three_is low l m = elim (cases_order low 3) [ inl e ↦ e | inr o ↦ elim o [ inl x ↦ absurd (omega (arith, l, x)) | inr x ↦ absurd (omega (arith, m, x)) ] ]

-- what is tied to the names of a token
abbrev pub IsTied : Token → Type 0
IsTied (a_start g t closes) = IsTiedTag g t
IsTied (an_end g name) = group name ≡ g
IsTied _ = ⊤

-- html and a template, or the body
pub root_or_body : (t : Tag) → is_any (codes "html template body frameset") t ≡ true → (is_any (codes "html template") t ≡ true) ⊎ IsBody t
root_or_body t e =
    let y = and_parts (is_html t) (is_one_of (codes "html template body frameset") t.name) e in
    elim (any_word (λ name. (is_one_of (codes "html template") name ≡ true) ⊎ (is_one_of (codes "body frameset") name ≡ true)) (words (codes "html template body frameset")) t.name (inl refl, (inl refl, (inr refl, (inr refl, tt)))) y.1) [
      | inl x ↦ inl (and_from (is_html t) _ y.0 x)
      | inr x ↦ inr (and_from (is_html t) _ y.0 x)
    ]

abbrev pub NoRoot : (Tag → Bool) → Type 0
NoRoot s = (t : Tag) → is_any (codes "html template body frameset") t ≡ true → s t ≡ false

pub no_root_any : (names : List ℕ) → Each (λ name. is_one_of names name ≡ false) (words (codes "html template body frameset")) → NoRoot (λ t. is_any names t)
no_root_any names k t e =
    and_right (is_html t) (is_one_of names t.name)
    (any_word (λ name. is_one_of names name ≡ false) (words (codes "html template body frameset")) t.name k (and_parts (is_html t) (is_one_of (codes "html template body frameset") t.name) e).1)

-- the implied end tags that are generated thoroughly
thorough_root : NoRoot is_implied_thoroughly
thorough_root t e =
    let y = and_parts (is_html t) (is_one_of (codes "html template body frameset") t.name) e in
    or_from (is_implied t) _
    (and_right (is_html t) _ (any_word (λ name. is_among implied_ends name ≡ false) (words (codes "html template body frameset")) t.name (refl, (refl, (refl, (refl, tt)))) y.1))
    (no_root_any (codes "caption colgroup tbody td tfoot th thead tr") (refl, (refl, (refl, (refl, tt)))) t e)

template_thorough : (t : Tag) → is_template t ≡ true → is_implied_thoroughly t ≡ false
template_thorough t e = thorough_root t (one_of_these [] [] 0 true (codes "template") (codes "html template body frameset") t (refl, tt) e)

-- modes but that of a cell
abbrev pub IsNoCell : Mode → Type 0
IsNoCell in_cell = ⊥
IsNoCell _ = ⊤

pub least_one : {S L : List ℕ} {N : ℕ} {ok : Bool} {low m : ℕ} {tg : Tag} {path : Path} → Seated S L N ok low m tg path → 1 ≤ low
least_one (high t rest b i r) = omega arith
least_one (bodied g h d b p i r a w e) = omega arith
least_one (rooted h d r e n b) = omega arith
least_one (cell f p b l i s) = least_one s
least_one (inside f p l s) = least_one s

only_one : (n : ℕ) → n ≤ 1 → 1 ≤ n → n ≡ 1
only_one n a b = elim (cases_order n 1) [ inl e ↦ e | inr o ↦ elim o [ inl x ↦ absurd (omega (arith, b, x)) | inr x ↦ absurd (omega (arith, a, x)) ] ]

fall_fits : (low least : ℕ) (tg own : Tag) (mode original : Mode) → IsNoCell mode → least ≤ low → 1 ≤ least → Fits low tg mode original → Fits least own mode original
fall_fits low least tg own initial original k l o f = absurd f
fall_fits low least tg own before_html original k l o f = absurd f
fall_fits low least tg own before_head original k l o f = absurd f
fall_fits low least tg own in_head original k l o f = absurd f
fall_fits low least tg own in_head_noscript original k l o f = absurd f
fall_fits low least tg own after_head original k l o f = only_one least (omega (arith, l, f)) o
fall_fits low least tg own in_body original k l o f = f
fall_fits low least tg own text_mode original k l o f = absurd f
fall_fits low least tg own in_table original k l o f = f
fall_fits low least tg own in_table_text original k l o f = f
fall_fits low least tg own in_caption original k l o f = f
fall_fits low least tg own in_column_group original k l o f = f
fall_fits low least tg own in_table_body original k l o f = f
fall_fits low least tg own in_row original k l o f = f
fall_fits low least tg own in_cell original k l o f = absurd k
fall_fits low least tg own in_template original k l o f = f
fall_fits low least tg own after_body original k l o f = omega (arith, l, f)
fall_fits low least tg own in_frameset original k l o f = omega (arith, l, f)
fall_fits low least tg own after_frameset original k l o f = omega (arith, l, f)
fall_fits low least tg own after_after_body original k l o f = omega (arith, l, f)
fall_fits low least tg own after_after_frameset original k l o f = omega (arith, l, f)

cell_or_not : (m : Mode) → (m ≡ in_cell) ⊎ IsNoCell m
cell_or_not initial = inr tt
cell_or_not before_html = inr tt
cell_or_not before_head = inr tt
cell_or_not in_head = inr tt
cell_or_not in_head_noscript = inr tt
cell_or_not after_head = inr tt
cell_or_not in_body = inr tt
cell_or_not text_mode = inr tt
cell_or_not in_table = inr tt
cell_or_not in_table_text = inr tt
cell_or_not in_caption = inr tt
cell_or_not in_column_group = inr tt
cell_or_not in_table_body = inr tt
cell_or_not in_row = inr tt
cell_or_not in_cell = inl refl
cell_or_not in_template = inr tt
cell_or_not after_body = inr tt
cell_or_not in_frameset = inr tt
cell_or_not after_frameset = inr tt
cell_or_not after_after_body = inr tt
cell_or_not after_after_frameset = inr tt

-- how far the page is, at most
abbrev pub Fell : Mode → Builder → Type 0
Fell md b = (least : ℕ) × Deep least md b

-- an end tag of a cell isn't read by the rules of "in body" in a cell
abbrev pub IsEnd : Mode → Group → Type 0
IsEnd md a_cell = IsNoCell md
IsEnd md _ = ⊤

abbrev pub IsEndOf : Mode → Token → Type 0
IsEndOf md (an_end g name) = IsEnd md g
IsEndOf md _ = ⊤

-- an end tag of a name that these haven't
named_off : (text : List ℕ) (test : Group → Bool) (g : Group) (name : List ℕ) (t : Tag) → Each (λ word. test (group word) ≡ true) (words text) → group name ≡ g → test g ≡ false → is_any text t ≡ true → is_named name t ≡ false
named_off text test g name t k e n y =
    false_from_ne_true (is_named name t) (λ x.
    true≢false (sym (and_parts (is_html t) (is_one_of text t.name) y).1
    ∙ (ap (λ z. is_one_of text z) (sym ((bytes_eq-Decides name t.name).0 (and_parts (is_html t) (bytes_eq name t.name) x).1)) ∙ other_name text test g name k e n)))

abbrev is_first_group : Group → Bool
is_first_group the_html = true
is_first_group the_head = true
is_first_group a_template = true
is_first_group _ = false

abbrev is_most_but_frameset : Group → Bool
is_most_but_frameset the_html = true
is_most_but_frameset the_body = true
is_most_but_frameset a_template = true
is_most_but_frameset a_cell = true
is_most_but_frameset _ = false

abbrev is_most_group : Group → Bool
is_most_group a_frameset = true
is_most_group g = is_most_but_frameset g

html_no_body : (t : Tag) → IsHtml t → IsBody t → ⊥
html_no_body t e i =
    true≢false (sym i ∙ and_right (is_html t) (is_one_of (codes "body frameset") t.name)
    (any_word (λ name. is_one_of (codes "body frameset") name ≡ false) (words (codes "html")) t.name (refl, tt) (and_parts (is_html t) (is_one_of (codes "html") t.name) e).1))

-- a frameset on a path
abbrev FramesAt : Builder → Tag → Path → Bool → Type 0
FramesAt b t path is_fostering = (least : ℕ) × DeepOf least in_frameset
    (pushed_at (place_in is_fostering path) (new_frame b.next t (place_in is_fostering path)) path)
    b.active (suc b.next) b.form b.is_frameset_ok in_frameset b.original b.templates b.is_fostering b.has_head b.context

module _ (low : ℕ) (md : Mode) where
  abbrev pub lax : (b : Builder) → Deep low md b → Lax low b
  lax b d = record {
    S = d.S;
    L = d.L;
    m = d.m;
    tg = d.tg;
    held = d.held;
    templates_fit = d.quiet.templates_fit;
    fostering = d.quiet.fostering;
    head = d.quiet.head;
    page = d.quiet.page;
    early = d.quiet.early;
  }

  body_there : (b : Builder) (n : ℕ) → body_number (elements b.path) ≡ Some n → Deep low md b → 3 ≤ low → ⊥
  body_there b n e d three =
      let more = no_body (three_is low three (low_most d.held.seats)) d.held.seats in
      true≢false (ap is_none (sym more.4 ∙ sym (ap body_number more.3) ∙ e))

  -- the path is another one, and the page no further on
  pub fall-Deep : (b : Builder) (path : Path) → IsNoCell md → (d : Deep low md b) → Falls d.S d.L b.next b.is_frameset_ok low path → Fell md (with_path b path)
  fall-Deep b path k d f = (
    f.0,
    record {
      S = d.S;
      L = d.L;
      m = f.1;
      mode_is = d.mode_is;
      tg = f.2;
      held = record { seats = f.5; active = d.held.active; form = d.held.form; numbers = d.held.numbers; listed = d.held.listed; above = d.held.above };
      quiet = record {
        fits = fall_fits low f.0 d.tg f.2 b.mode b.original (subst IsNoCell (sym d.mode_is) k) f.3 (least_one f.5) d.quiet.fits;
        templates_fit = d.quiet.templates_fit;
        fostering = d.quiet.fostering;
        calm = d.quiet.calm;
        head = d.quiet.head;
        page = d.quiet.page;
        early = λ x. d.quiet.early (omega (arith, x, f.3));
      };
    },
  )

  -- without its cell
  pub bare-Deep : (b : Builder) → IsNoCell md → Deep low md b → (d : Deep low md b) × (is_any (codes "html template body frameset") d.tg ≡ true)
  bare-Deep b k d =
      let t = bare d.S d.L b.next b.is_frameset_ok d.held.seats in (
        record {
          S = d.S;
          L = d.L;
          m = t.0;
          mode_is = d.mode_is;
          tg = t.1;
          held = record { seats = t.3; active = d.held.active; form = d.held.form; numbers = d.held.numbers; listed = d.held.listed; above = d.held.above };
          quiet = record {
            fits = fall_fits low low d.tg t.1 b.mode b.original (subst IsNoCell (sym d.mode_is) k) (omega arith) (least_one d.held.seats) d.quiet.fits;
            templates_fit = d.quiet.templates_fit;
            fostering = d.quiet.fostering;
            calm = d.quiet.calm;
            head = d.quiet.head;
            page = d.quiet.page;
            early = d.quiet.early;
          };
        },
        t.2,
      )

  frameset_opened : (b : Builder) (t : Tag) → b.is_frameset_ok ≡ true → low ≤ 2 → IsTiedTag a_frameset t → Deep low md b → Stage (switch_to in_frameset (insert_element t (with_path b (from_html b.path))))
  frameset_opened b t ok two k d =
      let f = framed two d.held.seats in
      let here_is : b.is_fostering ≡ false = false_from_ne_true b.is_fostering (λ y. true≢false (sym ok ∙ d.quiet.fostering y)) in
      let h = d.held in
      let N : ℕ = b.next in
      let root : IsRoot (caught_up f.0) = record { number = f.3.number; open_still = f.3.open_still; tag = f.3.tag; place = f.3.place } in
      let frame : Frame = new_frame N t here in
      let body : IsBody t = any_of (codes "body frameset") (codes "frameset") t refl k.html (name_of a_frameset t.name k.named) in
      let made : (least m : ℕ) (tg : Tag) → least ≤ 2 → Seated d.S d.L (suc N) b.is_frameset_ok least m tg (frame ∷ caught_up f.0 ∷ f.1 ∷ []) → FramesAt b t (f.0 ∷ f.1 ∷ []) false = λ least m tg l s. (
        least,
        record {
          S = d.S;
          L = d.L;
          m = m;
          mode_is = refl;
          tg = tg;
          held = record { seats = s; active = h.active; form = h.form; numbers = later_numbers d.S N h.numbers; listed = later_listed d.L N h.listed; above = omega (arith, h.above) };
          quiet = record {
            fits = l;
            templates_fit = d.quiet.templates_fit;
            fostering = d.quiet.fostering;
            calm = λ _. refl;
            head = d.quiet.head;
            page = d.quiet.page;
            early = λ x. absurd (omega (arith, x, l));
          };
        },
      ) in
      let found_is : FramesAt b t (f.0 ∷ f.1 ∷ []) false = elim f.5 [
        | inl a ↦ made 2 N t (omega arith) (bodied frame (caught_up f.0) f.1 (record { number = refl; above = h.above; below = omega arith; open_still = refl; tag = refl; bars = number_fresh d.S N h.numbers }) refl body root
            (joined-alone f.0.children f.0.waiting a.0 (a.1 ok)) (λ _. tt) f.4)
        | inr n ↦ made 1 1 f.0.tag (omega arith) (inside frame (caught_up f.0 ∷ f.1 ∷ []) (record {
          above = h.above;
          below = omega arith;
          place = tt;
          tag = record {
            no_root = and_right (is_html t) _ (other_name (codes "html head") is_first_group a_frameset t.name (refl, (refl, tt)) k.named refl);
            no_body = λ x. absurd (omega (arith, x));
            no_template = λ _. and_right (is_html t) _ (other_name (codes "template") is_first_group a_frameset t.name (refl, tt) k.named refl);
          };
          bars = λ i. absurd (number_fresh d.S N h.numbers i);
          still = λ _. refl;
          shut = λ _. k.html;
        }) (rooted (caught_up f.0) f.1 root refl (joined-body f.0.children f.0.waiting n) f.4))
      ] in
      let all : FramesAt b t (from_html b.path) b.is_fostering = subst (λ p. FramesAt b t p b.is_fostering) (sym f.2) (subst (FramesAt b t (f.0 ∷ f.1 ∷ [])) (sym here_is) found_is) in
      ground (deep {low = all.0} all.1)

  -- an end tag of a name that `html` and templates haven't, where the body may be settled
  top-falls : {S L : List ℕ} {N : ℕ} {ok : Bool} {from m : ℕ} {tg : Tag} (path : Path) → IsBody tg → Seated S L N ok from m tg path → Falls S L N ok from (popped path)
  top-falls {S} {L} {N} {ok} {from} {m} {tg} path i (high t rest b e r) = absurd (template_no_body S L N ok tg e i)
  top-falls {S} {L} {N} {ok} path i (bodied g h d b p k r a w e) =
      (1, 1, h.tag, omega arith, (λ x. absurd (omega (arith, x))), settled-Seated S L N ok (top_settled (g ∷ h ∷ d ∷ [])) (body-settled S L N ok g h d b p k r a e))
  top-falls {tg} path i (rooted h d r e n b) = absurd (html_no_body tg (subst IsHtml e r.tag) i)
  top-falls {S} {L} {N} {ok} {tg} path i (cell f p b l e s) = absurd (cell_no_body S L N ok tg e i)
  top-falls {S} {L} {N} {ok} {from} {m} {tg} path i (inside f p l s) = (from, m, tg, omega arith, (λ x. x), settled-Seated S L N ok (top_settled (f ∷ p)) (off-Seated S L N ok f l.place s))

  bar_end-Fell : (g : Group) (name : List ℕ) (b : Builder) → group name ≡ g → is_first_group g ≡ false → IsNoCell md → Deep low md b → Fell md (any_other_end_tag name b)
  bar_end-Fell g name b k n nc e =
      let ready = bare-Deep b nc e in
      let d : Deep low md b = ready.0 in
      let ok : Bool = b.is_frameset_ok in
      let off : (t : Tag) → is_any (codes "html template") t ≡ true → is_named name t ≡ false = λ t y. named_off (codes "html template") is_first_group g name t (refl, (refl, tt)) k n y in
      let q : (m : ℕ) (t : Tag) → is_named name t ≡ true → (is_implied t && not (is_named name t)) ≡ false = λ _ t y. but_itself (is_named name) t y in
      let closed : Path = implied_closed (is_named name) b.path in
      cond_both (within (has_tag (is_named name)) (has_tag (is_special b.flags.counts_search)) (elements b.path)) (close_except_for (is_named name) (is_named name) b) b (Fell md)
      (λ y. elim (cases_Bool (is_named name d.tg)) [
        | inr x ↦ (
          low,
          on_path low md b _ d (popped_through-Seated d.S d.L b.next ok (λ _ t. is_named name t) closed
              (popped-Sought d.S d.L b.next ok (λ _ t. is_named name t) (λ _ t. is_implied t && not (is_named name t)) b.path b.path q
              (search-Sought d.S d.L b.next ok (λ _ t. is_named name t) (is_special b.flags.counts_search) (record {
                bar = x;
                root = λ t z. off t (one_of_these [] [] 0 true (codes "html") (codes "html template") t (refl, tt) z);
                bounds_root = λ t z. special_bounds b.flags.counts_search t (one_of_these [] [] 0 true (codes "html") (codes "html template td th") t (refl, tt) z);
                bounds_bar = elim (root_or_body d.tg ready.1) [ inl z ↦ inr (special_bounds b.flags.counts_search d.tg (one_of_these [] [] 0 true (codes "html template") (codes "html template td th") d.tg (refl, (refl, tt)) z)) | inr z ↦ inl z ];
              }) y d.held.seats))),
        )
        | inl x ↦ fall-Deep b _ nc d (top-falls (popped_to (has_tag (is_named name)) closed)
            (elim (root_or_body d.tg ready.1) [ inl z ↦ absurd (true≢false (sym x ∙ off d.tg z)) | inr z ↦ z ])
            (settled_while-Seated d.S d.L b.next ok (λ _ t. not (is_named name t)) closed closed (ap not x)
            (settled_while-Seated d.S d.L b.next ok (λ _ t. is_implied t && not (is_named name t)) b.path b.path (q 0 d.tg x) d.held.seats)))
      ])
      (λ _. (low, d))

  -- a frameset in the place of the body
  pub frameset-Stage : (n : Option ℕ) (b : Builder) (t : Tag) → body_number (elements b.path) ≡ n → IsTiedTag a_frameset t → Deep low md b → Stage (frameset_start_at n b t)
  frameset-Stage None b t e k d = done low md d
  frameset-Stage (Some n) b t e k d =
      cond_both b.is_frameset_ok (switch_to in_frameset (insert_element t (with_path b (from_html b.path)))) b Stage
      (λ ok. frameset_opened b t ok (below_three low (λ three. body_there b n e d three)) k d) (λ _. done low md d)

  pub template_end-Stage : (b : Builder) → Deep low md b → Stage (template_end_tag b)
  template_end-Stage b d =
      let closed : Builder = with_path b (popped_while (λ (f : Frame). is_implied_thoroughly f.tag) b.path) in
      let t = bare d.S d.L b.next b.is_frameset_ok d.held.seats in
      let l : Lax low closed = record {
        S = d.S;
        L = d.L;
        m = t.0;
        tg = t.1;
        held = record {
          seats = settled_while-Seated d.S d.L b.next b.is_frameset_ok (λ _ x. is_implied_thoroughly x) b.path b.path (thorough_root t.1 t.2) t.3;
          active = d.held.active;
          form = d.held.form;
          numbers = d.held.numbers;
          listed = d.held.listed;
          above = d.held.above;
        };
        templates_fit = d.quiet.templates_fit;
        fostering = d.quiet.fostering;
        head = d.quiet.head;
        page = d.quiet.page;
        early = d.quiet.early;
      } in
      cond_both (has_template b) (close_template closed) b Stage
      (λ e. ground (close-Ground low closed l (elim (closes_of low b (lax b d) e) [
        | inl x ↦ inl x
        | inr x ↦ inr (x.0, x.1, popped-Sought d.S d.L b.next b.is_frameset_ok (λ _ y. is_template y) (λ _ y. is_implied_thoroughly y) b.path b.path (λ _ y z. template_thorough y z) x.2)
      ])))
      (λ _. done low md d)

  pub file_ended-Stage : (b : Builder) → Deep low md b → StageAfter (file_ended b)
  file_ended-Stage b d = if_after (has_template b) (Again (close_template b)) (Done b) (λ e. ground (close-Ground low b (lax b d) (closes_of low b (lax b d) e))) (λ _. done low md d)

  pub body_start-Stage : (b : Builder) (g : Group) (t : Tag) (closes : Bool) → IsTaking md → IsTiedTag g t → Deep low md b → StageAfter (body_start b g t closes)
  body_start-Stage b the_html t closes k i d = done low md (html_start-Deep low md b t d)
  body_start-Stage b a_base t closes k i d = head_part-Stage low md b a_base t k i refl d
  body_start-Stage b a_link t closes k i d = head_part-Stage low md b a_link t k i refl d
  body_start-Stage b a_noframes t closes k i d = head_part-Stage low md b a_noframes t k i refl d
  body_start-Stage b a_script t closes k i d = head_part-Stage low md b a_script t k i refl d
  body_start-Stage b a_style t closes k i d = head_part-Stage low md b a_style t k i refl d
  body_start-Stage b a_template t closes k i d = head_part-Stage low md b a_template t k i refl d
  body_start-Stage b a_title t closes k i d = head_part-Stage low md b a_title t k i refl d
  body_start-Stage b the_body t closes k i d = done low md (body_start_at-Deep low md (body_number (elements b.path)) b t d)
  body_start-Stage b a_frameset t closes k i d = frameset-Stage (body_number (elements b.path)) b t refl i d
  body_start-Stage b a_paragraph t closes k i d = done low md (insert-Deep low md t (close_p b) (plain_of a_paragraph t i refl) (close_p-Deep low md b d))
  body_start-Stage b a_block t closes k i d = done low md (insert-Deep low md t (close_p b) (plain_of a_block t i refl) (close_p-Deep low md b d))
  body_start-Stage b a_heading t closes k i d = done low md (insert-Deep low md t (heading_closed (close_p b)) (plain_of a_heading t i refl) (heading_closed-Deep low md (close_p b) (close_p-Deep low md b d)))
  body_start-Stage b a_preformatted t closes k i d =
      skip-Stage (frameset_not_ok (insert_element t (close_p b))) (done low md (not_ok-Deep low md (insert_element t (close_p b)) (insert-Deep low md t (close_p b) (plain_of a_preformatted t i refl) (close_p-Deep low md b d))))
  body_start-Stage b a_form t closes k i d = done low md (form_at-Deep low md (has_template b) b.form b t (free_of a_form t i refl) d)
  body_start-Stage b an_item t closes k i d =
      done low md (insert-Deep low md t (item_closed (is_any (codes "li")) (frameset_not_ok b)) (plain_of an_item t i refl)
      (item_closed-Deep low md (codes "li") (frameset_not_ok b) (no_bar_any (codes "li") (refl, (refl, (refl, (refl, (refl, (refl, tt))))))) (not_ok-Deep low md b d)))
  body_start-Stage b a_description t closes k i d =
      done low md (insert-Deep low md t (item_closed (is_any (codes "dd dt")) (frameset_not_ok b)) (plain_of a_description t i refl)
      (item_closed-Deep low md (codes "dd dt") (frameset_not_ok b) (no_bar_any (codes "dd dt") (refl, (refl, (refl, (refl, (refl, (refl, tt))))))) (not_ok-Deep low md b d)))
  body_start-Stage b a_plaintext t closes k i d = done low md (insert-Deep low md t (close_p b) (plain_of a_plaintext t i refl) (close_p-Deep low md b d))
  body_start-Stage b a_button t closes k i d =
      let closed : Builder = close_in_scope no_tag (is_any (codes "button")) b in
      done low md (not_ok-Deep low md (insert_element t (reconstruct_formatting closed)) (insert-Deep low md t (reconstruct_formatting closed) (plain_of a_button t i refl)
      (reconstruct-Deep low md closed (close_in_scope-Deep low md no_tag (is_any (codes "button")) b (no_bar_any (codes "button") (refl, (refl, (refl, (refl, (refl, (refl, tt))))))) (λ x e. unimplied no_tag x (any_not_implied (codes "button") x (refl, tt) e)) d))))
  body_start-Stage b an_anchor t closes k i d =
      let own = listed t.name b.active in
      done low md (formatting-Deep low md t (reconstruct_formatting (anchor_ended own b)) (free_of an_anchor t i refl)
      (reconstruct-Deep low md (anchor_ended own b) (anchor_ended-Deep low md own b d (listed_anchor low md d.S d.L t.name own i.named (listed-kept (Kept d.S d.L) t.name b.active d.held.active) (listed_same low md t.name b.active)))))
  body_start-Stage b a_format t closes k i d = done low md (formatting-Deep low md t (reconstruct_formatting b) (free_of a_format t i refl) (reconstruct-Deep low md b d))
  body_start-Stage b a_nobr t closes k i d =
      done low md (formatting-Deep low md t (nobr_ended t.name (reconstruct_formatting b)) (free_of a_nobr t i refl)
      (nobr_ended-Deep low md t.name (reconstruct_formatting b) (no_bar_named a_nobr t.name i.named refl) (reconstruct-Deep low md b d)))
  body_start-Stage b a_mark t closes k i d =
      let put : Builder = insert_element t (reconstruct_formatting b) in
      done low md (not_ok-Deep low md (insert_marker put) (marker-Deep low md put (insert-Deep low md t (reconstruct_formatting b) (plain_of a_mark t i refl) (reconstruct-Deep low md b d))))
  body_start-Stage b a_table t closes k i d = done low in_table (table_start-Deep low md b t (plain_of a_table t i refl) d)
  body_start-Stage b a_break t closes k i d = done low md (void_start-Deep low md b t d)
  body_start-Stage b a_void t closes k i d = done low md (void_start-Deep low md b t d)
  body_start-Stage b an_image t closes k i d = done low md (void_start-Deep low md b (record t { name = codes "img" }) d)
  body_start-Stage b an_input t closes k i d = done low md (if_deep low md (is_context is_select b.context) b (input_inserted t b) (λ _. d) (λ _. input_inserted-Deep low md t b d))
  body_start-Stage b a_detail t closes k i d = done low md (alone-Deep low md t b d)
  body_start-Stage b a_rule t closes k i d = done low md (not_ok-Deep low md (rule_start (close_p b) t) (rule_start-Deep low md (close_p b) t (close_p-Deep low md b d)))
  body_start-Stage b a_textarea t closes k i d = skip-Stage (parse_raw_text t (frameset_not_ok b)) (raw_text-Stage low md a_textarea t (frameset_not_ok b) k i refl refl (not_ok-Deep low md b d))
  body_start-Stage b an_example t closes k i d =
      raw_text-Stage low md an_example t (frameset_not_ok (reconstruct_formatting (close_p b))) k i refl refl
      (not_ok-Deep low md (reconstruct_formatting (close_p b)) (reconstruct-Deep low md (close_p b) (close_p-Deep low md b d)))
  body_start-Stage b an_iframe t closes k i d = raw_text-Stage low md an_iframe t (frameset_not_ok b) k i refl refl (not_ok-Deep low md b d)
  body_start-Stage b a_noembed t closes k i d = raw_text-Stage low md a_noembed t b k i refl refl d
  body_start-Stage b a_noscript t closes k i d = noscript_start-Stage low md b t k i d
  body_start-Stage b a_select t closes k i d = done low md (select_start-Deep low md b t (plain_of a_select t i refl) d)
  body_start-Stage b an_option t closes k i d = done low md (option_start-Deep low md (is_any (codes "optgroup")) b t (plain_of an_option t i refl) d)
  body_start-Stage b an_option_group t closes k i d = done low md (option_start-Deep low md no_tag b t (plain_of an_option_group t i refl) d)
  body_start-Stage b a_ruby_base t closes k i d = done low md (insert-Deep low md t (ruby_closed no_tag b) (plain_of a_ruby_base t i refl) (ruby_closed-Deep low md no_tag b d))
  body_start-Stage b a_ruby_text t closes k i d = done low md (insert-Deep low md t (ruby_closed (is_any (codes "rtc")) b) (plain_of a_ruby_text t i refl) (ruby_closed-Deep low md (is_any (codes "rtc")) b d))
  body_start-Stage b a_math t closes k i d = done low md (foreign-Deep low md math_space t closes (reconstruct_formatting b) refl (reconstruct-Deep low md b d))
  body_start-Stage b an_svg t closes k i d = done low md (foreign-Deep low md svg_space t closes (reconstruct_formatting b) refl (reconstruct-Deep low md b d))
  body_start-Stage b a_caption t closes k i d = done low md d
  body_start-Stage b a_column t closes k i d = done low md d
  body_start-Stage b a_column_group t closes k i d = done low md d
  body_start-Stage b a_frame t closes k i d = done low md d
  body_start-Stage b the_head t closes k i d = done low md d
  body_start-Stage b a_table_body t closes k i d = done low md d
  body_start-Stage b a_cell t closes k i d = done low md d
  body_start-Stage b a_row t closes k i d = done low md d
  body_start-Stage b any_other t closes k i d = done low md (insert-Deep low md t (reconstruct_formatting b) (plain_of any_other t i refl) (reconstruct-Deep low md b d))

  -- in a cell
  other_end-At : (name : List ℕ) (b : Builder) → ((t : Tag) → is_any (codes "html template td th") t ≡ true → is_named name t ≡ false) → (d : Deep low md b) → IsCell d.tg → Deep low md (any_other_end_tag name b)
  other_end-At name b off d i =
      let ok : Bool = b.is_frameset_ok in
      let q : (m : ℕ) (t : Tag) → is_named name t ≡ true → (is_implied t && not (is_named name t)) ≡ false = λ _ t y. but_itself (is_named name) t y in
      let at : is_any (codes "html template td th") d.tg ≡ true = one_of_these [] [] 0 true (codes "td th") (codes "html template td th") d.tg (refl, (refl, tt)) i in
      if_deep low md (within (has_tag (is_named name)) (has_tag (is_special b.flags.counts_search)) (elements b.path)) (close_except_for (is_named name) (is_named name) b) b
      (λ y. on_path low md b _ d (popped_through-Seated d.S d.L b.next ok (λ _ t. is_named name t) (implied_closed (is_named name) b.path)
      (popped-Sought d.S d.L b.next ok (λ _ t. is_named name t) (λ _ t. is_implied t && not (is_named name t)) b.path b.path q
      (search-Sought d.S d.L b.next ok (λ _ t. is_named name t) (is_special b.flags.counts_search) (record {
        bar = off d.tg at;
        root = λ t z. off t (one_of_these [] [] 0 true (codes "html") (codes "html template td th") t (refl, tt) z);
        bounds_root = λ t z. special_bounds b.flags.counts_search t (one_of_these [] [] 0 true (codes "html") (codes "html template td th") t (refl, tt) z);
        bounds_bar = inr (special_bounds b.flags.counts_search d.tg at);
      }) y d.held.seats)))) (λ _. d)

  -- `</frameset>`: in a cell there is none
  frameset_end-Stage : (name : List ℕ) (b : Builder) → group name ≡ a_frameset → Deep low md b → Stage (any_other_end_tag name b)
  frameset_end-Stage name b k d =
      elim (cell_or_not md) [
        | inl e ↦ done low md (other_end-At name b (λ t y. named_off (codes "html template td th") is_most_but_frameset a_frameset name t (refl, (refl, (refl, (refl, tt)))) k refl y) d (subst (λ x. Fits low d.tg x b.original) (d.mode_is ∙ e) d.quiet.fits))
        | inr n ↦ (let r = bar_end-Fell a_frameset name b k refl n d in done r.0 md r.1)
      ]

  after_body-Stage : (b : Builder) → has_in_scope (is_any (codes "body")) b ≡ true → Deep low md b → Deep low after_body (switch_to after_body b)
  after_body-Stage b e d =
      switch-Deep low md after_body b d (below_three low (λ three. true≢false (sym e ∙ body_within (three_is low three (low_most d.held.seats)) d.held.seats))) (λ _. refl)

  pub body_end-Stage : (b : Builder) (g : Group) (name : List ℕ) → group name ≡ g → IsEnd md g → Deep low md b → StageAfter (body_end b g name)
  body_end-Stage b a_template name k c d = template_end-Stage b d
  body_end-Stage b the_body name k c d = cond_both (has_in_scope (is_any (codes "body")) b) (switch_to after_body b) b Stage (λ e. done low after_body (after_body-Stage b e d)) (λ _. done low md d)
  body_end-Stage b the_html name k c d = if_after (has_in_scope (is_any (codes "body")) b) (Again (switch_to after_body b)) (Done b) (λ e. done low after_body (after_body-Stage b e d)) (λ _. done low md d)
  body_end-Stage b a_block name k c d = done low md (named-Deep low md a_block name b k refl refl d)
  body_end-Stage b a_button name k c d = done low md (named-Deep low md a_button name b k refl refl d)
  body_end-Stage b a_preformatted name k c d = done low md (named-Deep low md a_preformatted name b k refl refl d)
  body_end-Stage b a_select name k c d = done low md (named-Deep low md a_select name b k refl refl d)
  body_end-Stage b a_form name k c d = done low md (form_ended-Deep low md b d)
  body_end-Stage b a_paragraph name k c d = done low md (p_ended-Deep low md b d)
  body_end-Stage b an_item name k c d = done low md (item_ended-Deep low md b d)
  body_end-Stage b a_description name k c d =
      done low md (close_in_scope-Deep low md (is_named name) (is_named name) b (no_bar_named a_description name k refl) (λ t e. but_itself (is_named name) t e) d)
  body_end-Stage b a_heading name k c d = done low md (close_in_scope-Deep low md no_tag is_heading b no_bar_heading (λ t e. unimplied no_tag t (heading_unimplied t e)) d)
  body_end-Stage b an_anchor name k c d = done low md (agency-Deep low md name b (no_bar_named an_anchor name k refl) d)
  body_end-Stage b a_format name k c d = done low md (agency-Deep low md name b (no_bar_named a_format name k refl) d)
  body_end-Stage b a_nobr name k c d = done low md (agency-Deep low md name b (no_bar_named a_nobr name k refl) d)
  body_end-Stage b a_mark name k c d = done low md (mark_ended-Deep low md name b k d)
  body_end-Stage b a_break name k c d = done low md (void_start-Deep low md b (bare_tag (codes "br")) d)
  body_end-Stage b the_head name k c d = done low md (other_end-Deep low md name b (λ t y. named_off bar_names is_most_group the_head name t (refl, (refl, (refl, (refl, (refl, (refl, tt)))))) k refl y) d)
  body_end-Stage b a_frameset name k c d = frameset_end-Stage name b k d
  body_end-Stage b a_frame name k c d = done low md (other_end-Deep low md name b (no_bar_named a_frame name k refl) d)
  body_end-Stage b a_base name k c d = done low md (other_end-Deep low md name b (no_bar_named a_base name k refl) d)
  body_end-Stage b a_link name k c d = done low md (other_end-Deep low md name b (no_bar_named a_link name k refl) d)
  body_end-Stage b a_title name k c d = done low md (other_end-Deep low md name b (no_bar_named a_title name k refl) d)
  body_end-Stage b a_noframes name k c d = done low md (other_end-Deep low md name b (no_bar_named a_noframes name k refl) d)
  body_end-Stage b a_style name k c d = done low md (other_end-Deep low md name b (no_bar_named a_style name k refl) d)
  body_end-Stage b a_noscript name k c d = done low md (other_end-Deep low md name b (no_bar_named a_noscript name k refl) d)
  body_end-Stage b a_script name k c d = done low md (other_end-Deep low md name b (no_bar_named a_script name k refl) d)
  body_end-Stage b a_plaintext name k c d = done low md (other_end-Deep low md name b (no_bar_named a_plaintext name k refl) d)
  body_end-Stage b a_table name k c d = done low md (other_end-Deep low md name b (no_bar_named a_table name k refl) d)
  body_end-Stage b a_void name k c d = done low md (other_end-Deep low md name b (no_bar_named a_void name k refl) d)
  body_end-Stage b an_image name k c d = done low md (other_end-Deep low md name b (no_bar_named an_image name k refl) d)
  body_end-Stage b an_input name k c d = done low md (other_end-Deep low md name b (no_bar_named an_input name k refl) d)
  body_end-Stage b a_detail name k c d = done low md (other_end-Deep low md name b (no_bar_named a_detail name k refl) d)
  body_end-Stage b a_rule name k c d = done low md (other_end-Deep low md name b (no_bar_named a_rule name k refl) d)
  body_end-Stage b a_textarea name k c d = done low md (other_end-Deep low md name b (no_bar_named a_textarea name k refl) d)
  body_end-Stage b an_example name k c d = done low md (other_end-Deep low md name b (no_bar_named an_example name k refl) d)
  body_end-Stage b an_iframe name k c d = done low md (other_end-Deep low md name b (no_bar_named an_iframe name k refl) d)
  body_end-Stage b a_noembed name k c d = done low md (other_end-Deep low md name b (no_bar_named a_noembed name k refl) d)
  body_end-Stage b an_option name k c d = done low md (other_end-Deep low md name b (no_bar_named an_option name k refl) d)
  body_end-Stage b an_option_group name k c d = done low md (other_end-Deep low md name b (no_bar_named an_option_group name k refl) d)
  body_end-Stage b a_ruby_base name k c d = done low md (other_end-Deep low md name b (no_bar_named a_ruby_base name k refl) d)
  body_end-Stage b a_ruby_text name k c d = done low md (other_end-Deep low md name b (no_bar_named a_ruby_text name k refl) d)
  body_end-Stage b a_math name k c d = done low md (other_end-Deep low md name b (no_bar_named a_math name k refl) d)
  body_end-Stage b an_svg name k c d = done low md (other_end-Deep low md name b (no_bar_named an_svg name k refl) d)
  body_end-Stage b a_caption name k c d = done low md (other_end-Deep low md name b (no_bar_named a_caption name k refl) d)
  body_end-Stage b a_column_group name k c d = done low md (other_end-Deep low md name b (no_bar_named a_column_group name k refl) d)
  body_end-Stage b a_column name k c d = done low md (other_end-Deep low md name b (no_bar_named a_column name k refl) d)
  body_end-Stage b a_table_body name k c d = done low md (other_end-Deep low md name b (no_bar_named a_table_body name k refl) d)
  body_end-Stage b a_row name k c d = done low md (other_end-Deep low md name b (no_bar_named a_row name k refl) d)
  body_end-Stage b a_cell name k c d = (let r = bar_end-Fell a_cell name b k refl c d in done r.0 md r.1)
  body_end-Stage b any_other name k c d = done low md (other_end-Deep low md name b (no_bar_named any_other name k refl) d)

  pub in_body_step-Stage : (b : Builder) (token : Token) → IsTaking md → IsTied token → IsEndOf md token → Deep low md b → StageAfter (in_body_step b token)
  in_body_step-Stage b (a_character x) k i e d = done low md (body_character-Deep low md x b d)
  in_body_step-Stage b (a_comment bytes) k i e d = done low md (comment-Deep low md bytes b d)
  in_body_step-Stage b (a_doctype own) k i e d = done low md d
  in_body_step-Stage b (a_start g t closes) k i e d = body_start-Stage b g t closes k i d
  in_body_step-Stage b (an_end g name) k i e d = body_end-Stage b g name i e d
  in_body_step-Stage b end_of_file k i e d = file_ended-Stage b d
