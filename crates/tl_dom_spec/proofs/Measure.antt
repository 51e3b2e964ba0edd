-- How often a token may yet be reprocessed: a number that each rule makes less which reprocesses it.
use Rattle.std.proofs.Common.{Bool, List, None, Option, Some, [], ap, arith, codes, false, if◌then◌else◌, inl, inr, map, not, refl, subst, suc, sym, true, true≢false, ℕ, ◌&&◌, ◌<◌, ◌∙◌, ◌∷◌, ◌≡◌, ◌≤◌, ◌⊎◌}
use Rattle.std.specs.Prelude.{nat_lt, ⊤, ◌*◌, ◌+◌}
use Rattle.std.proofs.lemmas.Bool.{and_from, and_parts, cases_Bool, cond_both}
use Rattle.std.proofs.lemmas.Bool.Decides.{nat_tests}
use Rattle.tl_dom_spec.specs.Tags.{Tag, is_html, is_table, is_table_scope, is_template}
use Rattle.tl_dom_spec.specs.Groups.{Group, a_caption, a_cell, a_column, a_column_group, a_frameset, a_row, a_table, a_table_body, a_template, group, the_body, the_head, the_html}
use Rattle.tl_dom_spec.specs.Path.{Frame, elements, has_tag, no_frame, within}
use Rattle.tl_dom_spec.specs.Builder.{Again, Builder, Done, Mode, Outcome, Token, a_character, a_comment, a_doctype, a_start, after_after_body, after_body, after_head, an_end, before_head, before_html, clear_to_last_marker, end_of_file, has_in_table_scope, has_template, in_body, in_caption, in_cell, in_column_group, in_head, in_head_noscript, in_row, in_table, in_table_body, in_table_text, in_template, initial, pop_until, text_mode}
use Rattle.tl_dom_spec.specs.Reset.{close_template, current_template_mode, last_tag, mode_at, mode_of, or_mode, tag_mode, templates_popped}
use Rattle.tl_dom_spec.specs.Body.{file_ended}
use Rattle.tl_dom_spec.specs.Tables.{table_closed}
use Rattle.tl_html_spec.specs.Balanced.{is_one_of, words}
use Rattle.tl_dom_spec.proofs.Words.{any_word}
use Rattle.tl_dom_spec.specs.Lawful.{AreTemplateModes, IsSteady, is_template_mode, is_text_mode}
use Rattle.tl_dom_spec.proofs.PathTags.{EndOf, or_right_of, tags, through, through-tags}

-- elements that count

-- a `head` element, by which the insertion mode may be reset
abbrev pub is_head_group : Group → Bool
is_head_group the_head = true
is_head_group _ = false

abbrev pub is_head : Tag → Bool
is_head t = is_html t && is_head_group (group t.name)

abbrev pub count : (Tag → Bool) → List Tag → ℕ
count test [] = 0
count test (t ∷ ts) = if test t then suc (count test ts) else count test ts

-- the `head` elements around the innermost template
abbrev pub below : List Tag → ℕ
below [] = 0
below (t ∷ ts) = if is_template t then count is_head ts else below ts

-- start tags, where so many tables are open

abbrev in_table_left : Group → ℕ → ℕ
in_table_left a_table c = 4 + 2 * c
in_table_left a_cell c = 2
in_table_left a_row c = 1
in_table_left a_column c = 1
in_table_left _ c = 0

abbrev in_table_body_left : Group → ℕ → ℕ
in_table_body_left a_table c = 4 + 2 * c
in_table_body_left a_cell c = 1
in_table_body_left a_column c = 2
in_table_body_left a_caption c = 1
in_table_body_left a_column_group c = 1
in_table_body_left a_table_body c = 1
in_table_body_left _ c = 0

abbrev in_row_left : Group → ℕ → ℕ
in_row_left a_table c = 4 + 2 * c
in_row_left a_row c = 1
in_row_left a_column c = 3
in_row_left a_caption c = 2
in_row_left a_column_group c = 2
in_row_left a_table_body c = 2
in_row_left _ c = 0

abbrev in_cell_left : Group → ℕ
in_cell_left a_cell = 1
in_cell_left a_row = 2
in_cell_left a_column = 4
in_cell_left a_caption = 3
in_cell_left a_column_group = 3
in_cell_left a_table_body = 3
in_cell_left _ = 0

abbrev in_caption_left : Group → ℕ
in_caption_left a_cell = 3
in_caption_left a_row = 2
in_caption_left a_column = 2
in_caption_left a_caption = 1
in_caption_left a_column_group = 1
in_caption_left a_table_body = 1
in_caption_left _ = 0

abbrev in_column_group_left : Group → ℕ → ℕ
in_column_group_left a_table c = 5 + 2 * c
in_column_group_left a_cell c = 3
in_column_group_left a_row c = 2
in_column_group_left a_column c = 0
in_column_group_left _ c = 1

abbrev pub start_left : Group → Mode → ℕ → ℕ
start_left g initial c = 5
start_left g before_html c = 4
start_left g before_head c = 3
start_left g in_head c = 2
start_left g in_head_noscript c = 3
start_left g after_head c = 1
start_left g after_body c = 1
start_left g after_after_body c = 1
start_left g in_template c = 1
start_left g in_table_text c = 6 + 2 * c
start_left g in_table c = in_table_left g c
start_left g in_table_body c = in_table_body_left g c
start_left g in_row c = in_row_left g c
start_left g in_cell c = in_cell_left g
start_left g in_caption c = in_caption_left g
start_left g in_column_group c = in_column_group_left g c
start_left g _ c = 0

-- end tags

abbrev pub body_end_left : Group → ℕ
body_end_left the_html = 1
body_end_left _ = 0

abbrev after_body_end_left : Group → ℕ
after_body_end_left the_html = 0
after_body_end_left _ = 1

abbrev pub end_left : Group → Mode → ℕ
end_left g initial = 6
end_left g before_html = 5
end_left g before_head = 4
end_left g in_head = 3
end_left g in_head_noscript = 4
end_left g after_head = 2
end_left g after_after_body = 2
end_left g in_table_text = 7
end_left g in_table_body = 1
end_left g in_row = 2
end_left g in_cell = 3
end_left g in_caption = 1
end_left g in_column_group = 1
end_left g in_body = body_end_left g
end_left g after_body = after_body_end_left g
end_left g _ = 0

-- characters

abbrev pub character_left : Mode → ℕ
character_left initial = 5
character_left before_html = 4
character_left before_head = 3
character_left in_head = 2
character_left in_head_noscript = 3
character_left after_head = 1
character_left in_table = 1
character_left in_table_body = 1
character_left in_row = 1
character_left in_column_group = 2
character_left after_body = 1
character_left after_after_body = 1
character_left _ = 0

-- comments and doctypes
abbrev pub quiet_left : Mode → ℕ
quiet_left in_table_text = 1
quiet_left _ = 0

-- the end, where the head element pointer is set or not

abbrev pub calm_left : Bool → ℕ
calm_left true = 0
calm_left false = 2

abbrev pub file_left : Bool → Mode → ℕ
file_left h initial = 5
file_left h before_html = 4
file_left h before_head = 3
file_left h in_head = 2 + calm_left h
file_left h in_head_noscript = 3 + calm_left h
file_left h after_head = 1 + calm_left h
file_left h text_mode = 6
file_left h in_table_text = 6
file_left h _ = calm_left h

abbrev pub left_in : Token → Mode → Bool → List Tag → ℕ
left_in (a_character c) m has_head ts = character_left m
left_in (a_start g t closes) m has_head ts = start_left g m (count is_table ts)
left_in (an_end g name) m has_head ts = end_left g m
left_in (a_comment bytes) m has_head ts = quiet_left m
left_in (a_doctype own) m has_head ts = quiet_left m
left_in end_of_file m has_head ts = 2 * count is_template ts + below ts + file_left has_head m

abbrev pub left_of : Token → Mode → Builder → ℕ
left_of token m b = left_in token m b.has_head (tags b.path)

abbrev pub Less : Token → ℕ → Outcome → Type 0
Less token n (Done b) = ⊤
Less token n (Again b) = left_of token b.mode b < n

-- bounds

pub less : (m n : ℕ) → nat_lt m n ≡ true → m < n
less m n e = grind (arith, nat_tests)

pub calm_most : (h : Bool) → calm_left h ≤ 2
calm_most true = omega arith
calm_most false = omega arith

pub count-more : (test : Tag → Bool) (t : Tag) (ts : List Tag) → count test ts ≤ count test (t ∷ ts)
count-more test t ts = cond_both (test t) _ _ (λ (x : ℕ). count test ts ≤ x) (λ _. omega arith) (λ _. omega arith)

pub below-most : (ts : List Tag) → below ts ≤ count is_head ts
below-most [] = omega arith
below-most (t ∷ ts) =
    cond_both (is_template t) (count is_head ts) (below ts) (λ (x : ℕ). x ≤ count is_head (t ∷ ts))
    (λ _. count-more is_head t ts) (λ _. omega (arith, below-most ts, count-more is_head t ts))

pub end-count : (test : Tag → Bool) (us ts : List Tag) → EndOf us ts → count test ts ≤ count test us
end-count test [] ts e = subst (λ (x : List Tag). count test x ≤ count test []) (sym e) (omega arith)
end-count test (u ∷ us) ts (inl e) = subst (λ (x : List Tag). count test x ≤ count test (u ∷ us)) (sym e) (omega arith)
end-count test (u ∷ us) ts (inr e) = omega (arith, end-count test us ts e, count-more test u us)

pub end-below : (us ts : List Tag) → EndOf us ts → below ts ≤ below us
end-below [] ts e = subst (λ (x : List Tag). below x ≤ below []) (sym e) (omega arith)
end-below (u ∷ us) ts (inl e) = subst (λ (x : List Tag). below x ≤ below (u ∷ us)) (sym e) (omega arith)
end-below (u ∷ us) ts (inr e) =
    cond_both (is_template u) (count is_head us) (below us) (λ (x : ℕ). below ts ≤ x)
    (λ _. omega (arith, end-below us ts e, below-most us)) (λ _. end-below us ts e)

-- what is popped through

abbrev tags_of : List Frame → List Tag
tags_of fs = map (λ (f : Frame). f.tag) fs

pub through-passes : (test : Tag → Bool) (stops : Frame → Bool) (fs : List Frame) → within (has_tag test) stops fs ≡ true →
    suc (count test (through test (tags_of fs))) ≡ count test (tags_of fs)
through-passes test stops [] e = absurd (true≢false (sym e))
through-passes test stops (f ∷ fs) e = elim (cases_Bool (test f.tag)) [
  | inl y ↦ rw y refl
  | inr n ↦ (
      let more = and_parts (not (stops f)) (within (has_tag test) stops fs) (or_right_of (test f.tag) _ n e) in
      rw n (through-passes test stops fs more.1))
]

pub through-below : (ts : List Tag) → below ts ≡ count is_head (through is_template ts)
through-below [] = refl
through-below (t ∷ ts) = elim (cases_Bool (is_template t)) [ inl y ↦ rw y refl | inr n ↦ rw n (through-below ts) ]

-- the mode that is reset appropriately

abbrev Fits : Bool → Bool → Tag → Mode → Type 0
Fits h is_last t m = (file_left h m < 2 + calm_left h) ⊎ ((file_left h m ≤ 2 + calm_left h) × (is_last ≡ false) × (is_head t ≡ true))

abbrev IfFits : Bool → Bool → Tag → Option Mode → Type 0
IfFits h is_last t None = ⊤
IfFits h is_last t (Some m) = Fits h is_last t m

calm_low : (h : Bool) → calm_left h < 2 + calm_left h
calm_low h = omega arith

template_low : (h : Bool) (m : Mode) → is_template_mode m ≡ true → file_left h m < 2 + calm_left h
template_low h in_template e = calm_low h
template_low h in_table e = calm_low h
template_low h in_column_group e = calm_low h
template_low h in_table_body e = calm_low h
template_low h in_row e = calm_low h
template_low h in_body e = calm_low h
template_low h _ e = absurd (true≢false (sym e))

current_low : (h : Bool) (modes : List Mode) → AreTemplateModes modes → file_left h (current_template_mode modes) < 2 + calm_left h
current_low h [] k = calm_low h
current_low h (m ∷ modes) k = template_low h m k.0

html_low : (h : Bool) → file_left h (if h then after_head else before_head) < 2 + calm_left h
html_low true = omega arith
html_low false = omega arith

at-fits : (b : Builder) (is_last : Bool) (t : Tag) (g : Group) → group t.name ≡ g → is_html t ≡ true → AreTemplateModes b.templates →
    IfFits b.has_head is_last t (mode_at b is_last g)
at-fits b is_last t a_cell e y k = cond_both is_last None (Some in_cell) (IfFits b.has_head is_last t) (λ _. tt) (λ _. inl (calm_low b.has_head))
at-fits b is_last t a_row e y k = inl (calm_low b.has_head)
at-fits b is_last t a_table_body e y k = inl (calm_low b.has_head)
at-fits b is_last t a_caption e y k = inl (calm_low b.has_head)
at-fits b is_last t a_column_group e y k = inl (calm_low b.has_head)
at-fits b is_last t a_table e y k = inl (calm_low b.has_head)
at-fits b is_last t a_template e y k = inl (current_low b.has_head b.templates k)
at-fits b is_last t the_head e y k =
    cond_both is_last None (Some in_head) (IfFits b.has_head is_last t) (λ _. tt)
    (λ n. inr ((let z : 2 + calm_left b.has_head ≤ 2 + calm_left b.has_head = omega arith in z), n, and_from (is_html t) (is_head_group (group t.name)) y (ap is_head_group e)))
at-fits b is_last t the_body e y k = inl (calm_low b.has_head)
at-fits b is_last t a_frameset e y k = inl (calm_low b.has_head)
at-fits b is_last t the_html e y k = inl (html_low b.has_head)
at-fits b is_last t _ e y k = tt

tag-fits : (b : Builder) (is_last : Bool) (t : Tag) → AreTemplateModes b.templates → IfFits b.has_head is_last t (tag_mode b is_last t)
tag-fits b is_last t k =
    cond_both (is_html t) (mode_at b is_last (group t.name)) None (IfFits b.has_head is_last t)
    (λ y. at-fits b is_last t (group t.name) refl y k) (λ _. tt)

pub template_group : (t : Tag) → is_template t ≡ true → (is_html t ≡ true) × (group t.name ≡ a_template)
template_group t e =
    let parts = and_parts (is_html t) (is_one_of (codes "template") t.name) e in
    (parts.0, any_word (λ name. group name ≡ a_template) (words (codes "template")) t.name (refl, tt) parts.1)

template-mode : (b : Builder) (t : Tag) → is_template t ≡ true → tag_mode b false t ≡ Some (current_template_mode b.templates)
template-mode b t e =
    let g = template_group t e in
    ap (λ (v : Bool). if v then mode_at b false (group t.name) else None) g.0 ∙ ap (mode_at b false) g.1

or-last : (h : Bool) (t : Tag) (o : Option Mode) → IfFits h true t o → file_left h (or_mode o in_body) < 2 + calm_left h
or-last h t None f = calm_low h
or-last h t (Some m) (inl l) = l
or-last h t (Some m) (inr l) = absurd (true≢false l.1)

or-low : (h : Bool) (t : Tag) (o : Option Mode) (m : Mode) → IfFits h false t o → file_left h m ≤ 2 + calm_left h → file_left h (or_mode o m) ≤ 2 + calm_left h
or-low h t None m f l = l
or-low h t (Some n) m (inl f) l = omega (arith, f)
or-low h t (Some n) m (inr f) l = f.0

pub mode-low : (b : Builder) (fs : List Frame) → AreTemplateModes b.templates → file_left b.has_head (mode_of b fs) ≤ 2 + calm_left b.has_head
mode-low b [] k = omega arith
mode-low b (f ∷ []) k =
    let t : Tag = last_tag b.context f.tag in
    let low = or-last b.has_head t (tag_mode b true t) (tag-fits b true t k) in
    omega (arith, low)
mode-low b (f ∷ g ∷ fs) k = or-low b.has_head f.tag (tag_mode b false f.tag) (mode_of b (g ∷ fs)) (tag-fits b false f.tag k) (mode-low b (g ∷ fs) k)

-- how much is left with a mode, where the stack is so
abbrev FitsIn : Bool → Mode → List Tag → Type 0
FitsIn h m ts = file_left h m + below ts < 2 + calm_left h + count is_head ts

low-fits : (h : Bool) (m : Mode) (ts : List Tag) → file_left h m < 2 + calm_left h → FitsIn h m ts
low-fits h m ts l = omega (arith, l, below-most ts)

not_template : (t : Tag) (ts : List Tag) → is_template t ≡ false → below (t ∷ ts) ≡ below ts
not_template t ts n = ap (λ (v : Bool). if v then count is_head ts else below ts) n

head_counts : (t : Tag) (ts : List Tag) → is_head t ≡ true → count is_head (t ∷ ts) ≡ suc (count is_head ts)
head_counts t ts y = ap (λ (v : Bool). if v then suc (count is_head ts) else count is_head ts) y

or-fits : (h : Bool) (t : Tag) (ts : List Tag) (o : Option Mode) (m : Mode) → is_template t ≡ false → IfFits h false t o → FitsIn h m ts → FitsIn h (or_mode o m) (t ∷ ts)
or-fits h t ts None m n f l = omega (arith, l, not_template t ts n, count-more is_head t ts)
or-fits h t ts (Some own) m n (inl f) l = low-fits h own (t ∷ ts) f
or-fits h t ts (Some own) m n (inr f) l = omega (arith, f.0, not_template t ts n, head_counts t ts f.2, below-most ts)

pub mode-fits : (b : Builder) (fs : List Frame) → AreTemplateModes b.templates → FitsIn b.has_head (mode_of b fs) (tags_of fs)
mode-fits b [] k = low-fits b.has_head in_body [] (calm_low b.has_head)
mode-fits b (f ∷ []) k =
    let t : Tag = last_tag b.context f.tag in
    low-fits b.has_head (mode_of b (f ∷ [])) (f.tag ∷ []) (or-last b.has_head t (tag_mode b true t) (tag-fits b true t k))
mode-fits b (f ∷ g ∷ fs) k = elim (cases_Bool (is_template f.tag)) [
  | inl y ↦ (
      let low : file_left b.has_head (mode_of b (f ∷ g ∷ fs)) < 2 + calm_left b.has_head =
      subst (λ (o : Option Mode). file_left b.has_head (or_mode o (mode_of b (g ∷ fs))) < 2 + calm_left b.has_head)
      (sym (template-mode b f.tag y)) (current_low b.has_head b.templates k) in
      low-fits b.has_head (mode_of b (f ∷ g ∷ fs)) (tags_of (f ∷ g ∷ fs)) low)
  | inr n ↦ or-fits b.has_head f.tag (tags_of (g ∷ fs)) (tag_mode b false f.tag) (mode_of b (g ∷ fs)) n (tag-fits b false f.tag k) (mode-fits b (g ∷ fs) k)
]

-- the start tag of a table, where the mode was reset
pub table-most : (h : Bool) (m : Mode) (c : ℕ) → file_left h m ≤ 2 + calm_left h → start_left a_table m c ≤ 5 + 2 * c
table-most h in_table_text c l = absurd (omega (arith, l, calm_most h))
table-most h _ c l = omega arith

pub body_end-most : (g : Group) → body_end_left g ≤ 1
body_end-most the_html = omega arith
body_end-most _ = omega arith

-- any start tag, in a mode without a text
pub start-most : (g : Group) (m : Mode) (c : ℕ) → is_text_mode m ≡ false → start_left g m c ≤ 5 + 2 * c
start-most g in_table_text c n = absurd (true≢false n)
start-most g in_table c n = table_left g
  where
    table_left : (g : Group) → in_table_left g c ≤ 5 + 2 * c
    table_left a_table = omega arith
    table_left _ = omega arith
start-most g in_table_body c n = table_body_left g
  where
    table_body_left : (g : Group) → in_table_body_left g c ≤ 5 + 2 * c
    table_body_left a_table = omega arith
    table_body_left _ = omega arith
start-most g in_row c n = row_left g
  where
    row_left : (g : Group) → in_row_left g c ≤ 5 + 2 * c
    row_left a_table = omega arith
    row_left _ = omega arith
start-most g in_cell c n = cell_left g
  where
    cell_left : (g : Group) → in_cell_left g ≤ 5 + 2 * c
    cell_left a_cell = omega arith
    cell_left _ = omega arith
start-most g in_caption c n = caption_left g
  where
    caption_left : (g : Group) → in_caption_left g ≤ 5 + 2 * c
    caption_left a_cell = omega arith
    caption_left _ = omega arith
start-most g in_column_group c n = column_left g
  where
    column_left : (g : Group) → in_column_group_left g c ≤ 5 + 2 * c
    column_left a_table = omega arith
    column_left _ = omega arith
start-most g _ c n = omega arith

pub end-most : (g : Group) (m : Mode) → is_text_mode m ≡ false → end_left g m ≤ 6
end-most g in_table_text n = absurd (true≢false n)
end-most g in_body n = omega (arith, body_end-most g)
end-most g after_body n = after_left g
  where
    after_left : (g : Group) → after_body_end_left g ≤ 6
    after_left the_html = omega arith
    after_left _ = omega arith
end-most g _ n = omega arith

pub quiet-most : (m : Mode) → is_text_mode m ≡ false → quiet_left m < 1
quiet-most in_table_text n = absurd (true≢false n)
quiet-most _ n = omega arith

pub file-most : (h : Bool) (m : Mode) → is_text_mode m ≡ false → file_left h m ≤ 5
file-most h text_mode n = absurd (true≢false n)
file-most h in_table_text n = absurd (true≢false n)
file-most h _ n = omega (arith, calm_most h)

-- the end of the file, where a template is closed

pub file_ended-less : (b : Builder) → IsSteady b → Less end_of_file (2 * count is_template (tags b.path) + below (tags b.path) + calm_left b.has_head) (file_ended b)
file_ended-less b r =
    cond_both (has_template b) (Again (close_template b)) (Done b)
    (Less end_of_file (2 * count is_template (tags b.path) + below (tags b.path) + calm_left b.has_head))
    (λ e. let c : Builder = close_template b in
    let is : tags c.path ≡ through is_template (tags b.path) = through-tags is_template b.path r.0 in
    let n = ap (count is_template) is in
    let k = ap (count is_head) is in
    let passes = through-passes is_template no_frame (elements b.path) e in
    let around = through-below (tags b.path) in
    let fits : FitsIn b.has_head c.mode (tags c.path) =
    mode-fits (record (clear_to_last_marker (pop_until is_template b)) { templates = templates_popped b.templates }) (elements c.path) (popped-modes b.templates r.2) in
    omega (arith, n, k, passes, around, fits))
    (λ _. tt)
  where
    popped-modes : (modes : List Mode) → AreTemplateModes modes → AreTemplateModes (templates_popped modes)
    popped-modes [] k = tt
    popped-modes (m ∷ modes) k = k.1

pub table_closed-less : (b : Builder) (t : Tag) (closes : Bool) → IsSteady b → has_in_table_scope is_table b ≡ true →
    Less (a_start a_table t closes) (4 + 2 * count is_table (tags b.path)) (Again (table_closed b))
table_closed-less b t closes r e =
    let c : Builder = table_closed b in
    let is : tags c.path ≡ through is_table (tags b.path) = through-tags is_table b.path r.0 in
    let n = ap (count is_table) is in
    let passes = through-passes is_table (has_tag is_table_scope) (elements b.path) e in
    let low = mode-low (pop_until is_table b) (elements c.path) r.2 in
    let most = table-most b.has_head c.mode (count is_table (tags c.path)) low in
    omega (arith, n, passes, most)
