-- In the partial builder of `tl_tree_spec` the `html` element has the number 0, and no other open one has.
use Rattle.std.proofs.Common.{◌≡◌, ℕ, suc, Bool, true, false, not, ◌||◌, ◌&&◌, ◌==◌, List, [], ◌∷◌, Option, Some, None, codes, refl, ap, ◌∙◌, arith, if◌then◌else◌}
use Rattle.std.specs.Prelude.{⊤, option_map}
use Rattle.std.specs.Str.{bytes_eq}
use Rattle.std.specs.Char.{is_ascii_whitespace}
use Rattle.std.proofs.lemmas.Bool.{eqb-true, false_from_ne_true}
use Rattle.tl_html_spec.specs.Balanced.{is_button_scope, is_list_scope, is_one_of, is_scope}
use Rattle.tl_html_spec.specs.HtmlTokenizer.{Character, CommentToken, DoctypeToken, EndTag, HtmlToken, StartTag}
use Rattle.tl_tree_spec.specs.HtmlForest.{HtmlTag}
use Rattle.tl_tree_spec.specs.Builder as P
use Rattle.tl_tree_spec.specs.HtmlTreeBuilder as R
use Rattle.tl_tree_spec.specs.Groups as G

abbrev pub Rooted : P.Frame → List P.Frame → Type 0
Rooted f [] = (f.element.number == 0) ≡ true
Rooted f (o ∷ os) = ((f.element.number == 0) ≡ false) × Rooted o os

abbrev pub RootedStack : P.Stack → Type 0
RootedStack s = Rooted s.current s.others

abbrev pub HasRoot : P.Builder → Type 0
HasRoot b = ((b.next == 0) ≡ false) × RootedStack b.stack

abbrev pub MayHaveRoot : Option P.Builder → Type 0
MayHaveRoot None = ⊤
MayHaveRoot (Some b) = HasRoot b

-- what an element takes in is no matter
pub root_same : (f g : P.Frame) (os : List P.Frame) → g.element ≡ f.element → Rooted f os → Rooted g os
root_same f g [] e h = ap (λ (x : P.Element). x.number == 0) e ∙ h
root_same f g (o ∷ os) e h = (ap (λ (x : P.Element). x.number == 0) e ∙ h.0, h.1)

pub root_around : (o f : P.Frame) (os : List P.Frame) → Rooted o os → Rooted (P.closed_into o f) os
root_around o f os h = root_same o (P.closed_into o f) os refl h

suc_off : (n : ℕ) → (suc n == 0) ≡ false
suc_off n = false_from_ne_true (suc n == 0) (λ y. (let k = eqb-true (suc n) 0 y in absurd (omega (arith, k))))

-- one of two

one : (v : Bool) (x y : P.Builder) → HasRoot x → HasRoot y → HasRoot (if v then x else y)
one true x y h k = h
one false x y h k = k

one_answer : (v : Bool) (x y : Option P.Builder) → MayHaveRoot x → MayHaveRoot y → MayHaveRoot (if v then x else y)
one_answer true x y h k = h
one_answer false x y h k = k

one_stack : (v : Bool) (s t : P.Stack) → RootedStack s → RootedStack t → RootedStack (if v then s else t)
one_stack true s t h k = h
one_stack false s t h k = k

-- what is popped

popped : (f : P.Frame) (os : List P.Frame) → Rooted f os → RootedStack (P.popped f os)
popped f [] h = h
popped f (o ∷ os) h = root_around o f os h.1

popped_through : (test : P.Element → Bool) (f : P.Frame) (os : List P.Frame) → Rooted f os → RootedStack (P.popped_through test f os)
popped_through test f [] h = h
popped_through test f (o ∷ os) h =
    let around = root_around o f os h.1 in
    one_stack (test f.element) (record { current = P.closed_into o f; others = os }) (P.popped_through test (P.closed_into o f) os) around (popped_through test (P.closed_into o f) os around)

implied_closed : (but : List ℕ → Bool) (f : P.Frame) (os : List P.Frame) → Rooted f os → RootedStack (P.implied_closed but f os)
implied_closed but f [] h = h
implied_closed but f (o ∷ os) h =
    one_stack (G.is_implied f.element.own.name && not (but f.element.own.name)) (P.implied_closed but (P.closed_into o f) os) (record { current = f; others = o ∷ os })
    (implied_closed but (P.closed_into o f) os (root_around o f os h.1)) h

popped_back : (test : List ℕ → Bool) (f : P.Frame) (os : List P.Frame) → Rooted f os → RootedStack (R.popped_back test f os)
popped_back test f [] h = h
popped_back test f (o ∷ os) h =
    one_stack (test f.element.own.name) (record { current = f; others = o ∷ os }) (R.popped_back test (P.closed_into o f) os)
    h (popped_back test (P.closed_into o f) os (root_around o f os h.1))

closed_through : (but test : List ℕ → Bool) (s : P.Stack) → RootedStack s → RootedStack (P.closed_through but test s)
closed_through but test s h =
    let implied = P.implied_closed but s.current s.others in
    popped_through (P.has_name test) implied.current implied.others (implied_closed but s.current s.others h)

-- what is put in

inserted : (b : P.Builder) (own : HtmlTag) → HasRoot b → HasRoot (P.inserted b own)
inserted b own h = (suc_off b.next, (h.0, h.1))

alone : (b : P.Builder) (own : HtmlTag) → HasRoot b → HasRoot (P.alone b own)
alone b own h = (suc_off b.next, root_same b.stack.current (P.alone b own).stack.current b.stack.others refl h.1)

character : (b : P.Builder) (x : ℕ) → HasRoot b → HasRoot (P.with_character b x)
character b x h = (h.0, root_same b.stack.current (P.with_character b x).stack.current b.stack.others refl h.1)

formatted : (b : P.Builder) (own : HtmlTag) → HasRoot b → HasRoot (P.formatted b own)
formatted b own h = inserted b own h

rebuilt : (b : P.Builder) (es : List P.Entry) → HasRoot b → HasRoot (P.rebuilt b es)
rebuilt b [] h = h
rebuilt b (P.marker ∷ es) h = h
rebuilt b (P.formatting e ∷ es) h =
    one (P.is_open e.number (P.elements b.stack)) (record b { active = P.formatting e ∷ es }) (P.reopened e.own (P.rebuilt b es)) h (inserted (P.rebuilt b es) e.own (rebuilt b es h))

reconstructed : (b : P.Builder) → HasRoot b → HasRoot (P.reconstructed b)
reconstructed b h = rebuilt b b.active h

-- "in body"

closed_in : (bounds but test : List ℕ → Bool) (b : P.Builder) → HasRoot b → HasRoot (R.closed_in bounds but test b)
closed_in bounds but test b h =
    one (P.within test bounds (P.names b.stack)) (P.with_stack b (P.closed_through but test b.stack)) b (h.0, closed_through but test b.stack h.1) h

p_closed : (b : P.Builder) → HasRoot b → HasRoot (R.p_closed b)
p_closed b h = closed_in is_button_scope G.is_paragraph G.is_paragraph b h

heading_closed : (b : P.Builder) → HasRoot b → HasRoot (R.heading_closed b)
heading_closed b h =
    one (G.is_heading b.stack.current.element.own.name) (P.with_stack b (P.popped b.stack.current b.stack.others)) b (h.0, popped b.stack.current b.stack.others h.1) h

item_closed : (b : P.Builder) → HasRoot b → HasRoot (R.item_closed b)
item_closed b h = closed_in (R.is_item_bound_in b) G.is_item G.is_item b h

description_closed : (b : P.Builder) → HasRoot b → HasRoot (R.description_closed b)
description_closed b h =
    let is_found = bytes_eq (R.found G.is_description (P.names b.stack)) in
    one (P.within G.is_description (R.is_item_bound_in b) (P.names b.stack)) (P.with_stack b (P.closed_through is_found is_found b.stack)) b (h.0, closed_through is_found is_found b.stack h.1) h

ruby_closed : (but : List ℕ → Bool) (b : P.Builder) → HasRoot b → HasRoot (R.ruby_closed but b)
ruby_closed but b h =
    one (P.within (is_one_of (codes "ruby")) is_scope (P.names b.stack)) (P.with_stack b (P.implied_closed but b.stack.current b.stack.others)) b
    (h.0, implied_closed but b.stack.current b.stack.others h.1) h

other_ended : (b : P.Builder) (n : List ℕ) → HasRoot b → HasRoot (R.other_ended b n)
other_ended b n h = closed_in (R.is_special_in b) (bytes_eq n) (bytes_eq n) b h

adopted : (b : P.Builder) (n : List ℕ) (e : Option P.Element) → HasRoot b → MayHaveRoot (R.adopted b n e)
adopted b n None h = other_ended b n h
adopted b n (Some e) h =
    one_answer (not (P.is_open e.number (P.elements b.stack))) (Some (record b { active = P.unlisted e.number b.active })) _ h
    (one_answer (not (P.within (P.has_number e.number) (P.has_name is_scope) (P.elements b.stack))) (Some b) _ h
    (one_answer (R.has_furthest_block (R.is_special_in b) e.number (P.elements b.stack)) None _ tt
    (h.0, popped_through (P.has_number e.number) b.stack.current b.stack.others h.1)))

adoption : (b : P.Builder) (n : List ℕ) → HasRoot b → MayHaveRoot (R.adoption b n)
adoption b n h =
    one_answer (bytes_eq n b.stack.current.element.own.name && not (P.is_listed b.stack.current.element.number b.active))
    (Some (P.with_stack b (P.popped b.stack.current b.stack.others))) (R.adopted b n (P.listed n b.active))
    (h.0, popped b.stack.current b.stack.others h.1) (adopted b n (P.listed n b.active) h)

anchor_gone : (e : P.Element) (o : Option P.Builder) → MayHaveRoot o → MayHaveRoot (R.anchor_gone e o)
anchor_gone e None h = tt
anchor_gone e (Some b) h = one_answer (P.is_listed e.number b.active || P.is_open e.number (P.elements b.stack)) None (Some b) tt h

anchor_ended : (b : P.Builder) (n : List ℕ) (e : Option P.Element) → HasRoot b → MayHaveRoot (R.anchor_ended b n e)
anchor_ended b n None h = h
anchor_ended b n (Some e) h = anchor_gone e (R.adoption b n) (adoption b n h)

then_formatted : (own : HtmlTag) (o : Option P.Builder) → MayHaveRoot o → MayHaveRoot (option_map (λ (c : P.Builder). P.formatted (P.reconstructed c) own) o)
then_formatted own None h = tt
then_formatted own (Some b) h = formatted (P.reconstructed b) own (reconstructed b h)

body_start : (b : P.Builder) (g : G.Group) (own : HtmlTag) → HasRoot b → MayHaveRoot (R.body_start b g own)
body_start b G.a_paragraph own h = inserted (R.p_closed b) own (p_closed b h)
body_start b G.a_block own h = inserted (R.p_closed b) own (p_closed b h)
body_start b G.a_heading own h = inserted (R.heading_closed (R.p_closed b)) own (heading_closed (R.p_closed b) (p_closed b h))
body_start b G.a_preformatted own h = inserted (R.p_closed b) own (p_closed b h)
body_start b G.an_item own h = inserted (R.p_closed (R.item_closed b)) own (p_closed (R.item_closed b) (item_closed b h))
body_start b G.a_description own h = inserted (R.p_closed (R.description_closed b)) own (p_closed (R.description_closed b) (description_closed b h))
body_start b G.a_button own h =
    let closed = R.button_closed b own.name in
    inserted (P.reconstructed closed) own (reconstructed closed (closed_in is_scope P.no_name (bytes_eq own.name) b h))
body_start b G.an_anchor own h = then_formatted own (R.anchor_ended b own.name (P.listed own.name b.active)) (anchor_ended b own.name (P.listed own.name b.active) h)
body_start b G.a_format own h = formatted (P.reconstructed b) own (reconstructed b h)
body_start b G.a_nobr own h =
    let r = reconstructed b h in
    one_answer (P.within (bytes_eq own.name) is_scope (P.names (P.reconstructed b).stack)) _ (Some (P.formatted (P.reconstructed b) own))
    (then_formatted own (R.adoption (P.reconstructed b) own.name) (adoption (P.reconstructed b) own.name r)) (formatted (P.reconstructed b) own r)
body_start b G.a_mark own h = inserted (P.reconstructed b) own (reconstructed b h)
body_start b G.a_break own h = alone (P.reconstructed b) own (reconstructed b h)
body_start b G.a_void own h = alone (P.reconstructed b) own (reconstructed b h)
body_start b G.an_image own h = alone (P.reconstructed b) (record own { name = codes "img" }) (reconstructed b h)
body_start b G.a_detail own h = alone b own h
body_start b G.a_rule own h = alone (R.p_closed b) own (p_closed b h)
body_start b G.a_ruby_base own h = inserted (R.ruby_closed P.no_name b) own (ruby_closed P.no_name b h)
body_start b G.a_ruby_text own h = inserted (R.ruby_closed R.is_rtc b) own (ruby_closed R.is_rtc b h)
body_start b G.a_table own h = inserted (R.ready_for_table b) own (one b.reading.is_quirks b (R.p_closed b) h (p_closed b h))
body_start b G.an_option own h = tt
body_start b G.elsewhere own h = tt
body_start b G.any_other own h = inserted (P.reconstructed b) own (reconstructed b h)
body_start b _ own h = h

body_end : (b : P.Builder) (g : G.Group) (n : List ℕ) → HasRoot b → MayHaveRoot (R.body_end b g n)
body_end b G.a_paragraph n h =
    one (P.within G.is_paragraph is_button_scope (P.names b.stack)) (P.with_stack b (P.closed_through G.is_paragraph G.is_paragraph b.stack)) (P.alone b (record { name = n; attributes = [] }))
    (h.0, closed_through G.is_paragraph G.is_paragraph b.stack h.1) (alone b (record { name = n; attributes = [] }) h)
body_end b G.a_block n h = closed_in is_scope P.no_name (bytes_eq n) b h
body_end b G.a_heading n h = closed_in is_scope P.no_name G.is_heading b h
body_end b G.a_preformatted n h = closed_in is_scope P.no_name (bytes_eq n) b h
body_end b G.an_item n h = closed_in is_list_scope G.is_item G.is_item b h
body_end b G.a_description n h = closed_in is_scope (bytes_eq n) (bytes_eq n) b h
body_end b G.a_button n h = closed_in is_scope P.no_name (bytes_eq n) b h
body_end b G.an_anchor n h = adoption b n h
body_end b G.a_format n h = adoption b n h
body_end b G.a_nobr n h = adoption b n h
body_end b G.a_mark n h =
    one (P.within (bytes_eq n) is_scope (P.names b.stack)) (record b { stack = P.closed_through P.no_name (bytes_eq n) b.stack; active = P.without_last_marker b.active }) b
    (h.0, closed_through P.no_name (bytes_eq n) b.stack h.1) h
body_end b G.a_break n h = alone (P.reconstructed b) (record { name = n; attributes = [] }) (reconstructed b h)
body_end b G.elsewhere n h = tt
body_end b _ n h = other_ended b n h

-- Tables

cleared : (test : List ℕ → Bool) (b : P.Builder) → HasRoot b → HasRoot (R.cleared test b)
cleared test b h = (h.0, popped_back test b.stack.current b.stack.others h.1)

current_popped : (b : P.Builder) → HasRoot b → HasRoot (R.current_popped b)
current_popped b h = (h.0, popped b.stack.current b.stack.others h.1)

body_opened : (b : P.Builder) (own : HtmlTag) → HasRoot b → HasRoot (R.body_opened b own)
body_opened b own h = inserted (R.cleared G.is_table_context b) own (cleared G.is_table_context b h)

row_opened : (b : P.Builder) (own : HtmlTag) → HasRoot b → HasRoot (R.row_opened b own)
row_opened b own h = inserted (R.cleared G.is_body_context b) own (cleared G.is_body_context b h)

cell_opened : (b : P.Builder) (own : HtmlTag) → HasRoot b → HasRoot (R.cell_opened b own)
cell_opened b own h = inserted (R.cleared G.is_row_context b) own (cleared G.is_row_context b h)

table_closed : (b : P.Builder) → HasRoot b → HasRoot (R.table_closed b)
table_closed b h = (h.0, popped_through (P.has_name G.is_table) b.stack.current b.stack.others h.1)

body_closed : (b : P.Builder) → HasRoot b → HasRoot (R.body_closed b)
body_closed b h = current_popped (R.cleared G.is_body_context b) (cleared G.is_body_context b h)

row_closed : (b : P.Builder) → HasRoot b → HasRoot (R.row_closed b)
row_closed b h = current_popped (R.cleared G.is_row_context b) (cleared G.is_row_context b h)

marked_closed : (test : List ℕ → Bool) (m : P.Mode) (b : P.Builder) → HasRoot b → HasRoot (R.marked_closed test m b)
marked_closed test m b h = (h.0, closed_through P.no_name test b.stack h.1)

table_start : (b : P.Builder) (g : G.Group) (own : HtmlTag) → HasRoot b → MayHaveRoot (R.table_start b g own)
table_start b G.a_caption own h = inserted (R.with_marker (R.cleared G.is_table_context b)) own (cleared G.is_table_context b h)
table_start b G.a_column_group own h = inserted (R.cleared G.is_table_context b) own (cleared G.is_table_context b h)
table_start b G.a_column own h =
    let implied = R.implied_tag (codes "colgroup") in
    alone (R.to_mode P.in_column_group (P.inserted (R.cleared G.is_table_context b) implied)) own (inserted (R.cleared G.is_table_context b) implied (cleared G.is_table_context b h))
table_start b G.a_table_body own h = body_opened b own h
table_start b G.a_row own h = row_opened (R.body_opened b (R.implied_tag (codes "tbody"))) own (body_opened b (R.implied_tag (codes "tbody")) h)
table_start b G.a_cell own h =
    let body = R.body_opened b (R.implied_tag (codes "tbody")) in
    cell_opened (R.row_opened body (R.implied_tag (codes "tr"))) own (row_opened body (R.implied_tag (codes "tr")) (body_opened b (R.implied_tag (codes "tbody")) h))
table_start b G.a_table own h =
    one_answer (not (R.has_in_table_scope G.is_table b)) (Some b) _ h
    (one_answer (P.is_flow (R.table_closed b).mode) (R.body_start (R.table_closed b) G.a_table own) None (body_start (R.table_closed b) G.a_table own (table_closed b h)) tt)
table_start b _ own h = tt

table_end : (b : P.Builder) (g : G.Group) (n : List ℕ) → HasRoot b → MayHaveRoot (R.table_end b g n)
table_end b G.a_table n h = one (R.has_in_table_scope G.is_table b) (R.table_closed b) b (table_closed b h) h
table_end b g n h = one_answer (G.is_part g) (Some b) None h tt

caption_start : (b : P.Builder) (g : G.Group) (own : HtmlTag) → HasRoot b → MayHaveRoot (R.caption_start b g own)
caption_start b g own h =
    one_answer (G.is_part g) (R.caption_part_start b g own) (R.body_start b g own)
    (one_answer (R.has_in_table_scope G.is_caption b) (R.table_start (R.caption_closed b) g own) (Some b)
    (table_start (R.caption_closed b) g own (marked_closed G.is_caption P.in_table b h)) h)
    (body_start b g own h)

caption_end : (b : P.Builder) (g : G.Group) (n : List ℕ) → HasRoot b → MayHaveRoot (R.caption_end b g n)
caption_end b G.a_caption n h = one (R.has_in_table_scope G.is_caption b) (R.caption_closed b) b (marked_closed G.is_caption P.in_table b h) h
caption_end b G.a_table n h =
    one_answer (R.has_in_table_scope G.is_caption b) (R.table_end (R.caption_closed b) G.a_table n) (Some b)
    (table_end (R.caption_closed b) G.a_table n (marked_closed G.is_caption P.in_table b h)) h
caption_end b g n h = one_answer (G.is_part g) (Some b) (R.body_end b g n) h (body_end b g n h)

column_start : (b : P.Builder) (g : G.Group) (own : HtmlTag) → HasRoot b → MayHaveRoot (R.column_start b g own)
column_start b G.a_column own h = alone b own h
column_start b G.elsewhere own h = tt
column_start b g own h =
    one_answer (R.is_in_column_group b) (R.table_start (R.column_group_closed b) g own) (Some b) (table_start (R.column_group_closed b) g own (current_popped b h)) h

column_end : (b : P.Builder) (g : G.Group) (n : List ℕ) → HasRoot b → MayHaveRoot (R.column_end b g n)
column_end b G.a_column_group n h = one (R.is_in_column_group b) (R.column_group_closed b) b (current_popped b h) h
column_end b G.a_column n h = h
column_end b G.elsewhere n h = tt
column_end b g n h =
    one_answer (R.is_in_column_group b) (R.table_end (R.column_group_closed b) g n) (Some b) (table_end (R.column_group_closed b) g n (current_popped b h)) h

table_body_start : (b : P.Builder) (g : G.Group) (own : HtmlTag) → HasRoot b → MayHaveRoot (R.table_body_start b g own)
table_body_start b G.a_row own h = row_opened b own h
table_body_start b G.a_cell own h = cell_opened (R.row_opened b (R.implied_tag (codes "tr"))) own (row_opened b (R.implied_tag (codes "tr")) h)
table_body_start b g own h =
    one_answer (G.is_part g) (R.body_part_start b g own) (R.table_start b g own)
    (one_answer (R.has_in_table_scope G.is_table_body b) (R.table_start (R.body_closed b) g own) (Some b) (table_start (R.body_closed b) g own (body_closed b h)) h)
    (table_start b g own h)

table_body_end : (b : P.Builder) (g : G.Group) (n : List ℕ) → HasRoot b → MayHaveRoot (R.table_body_end b g n)
table_body_end b G.a_table_body n h = one (R.has_in_table_scope (bytes_eq n) b) (R.body_closed b) b (body_closed b h) h
table_body_end b G.a_table n h =
    one_answer (R.has_in_table_scope G.is_table_body b) (R.table_end (R.body_closed b) G.a_table n) (Some b) (table_end (R.body_closed b) G.a_table n (body_closed b h)) h
table_body_end b g n h = table_end b g n h

row_start : (b : P.Builder) (g : G.Group) (own : HtmlTag) → HasRoot b → MayHaveRoot (R.row_start b g own)
row_start b G.a_cell own h = cell_opened b own h
row_start b g own h =
    one_answer (G.is_part g) (R.row_part_start b g own) (R.table_start b g own)
    (one_answer (R.has_in_table_scope G.is_row b) (R.table_body_start (R.row_closed b) g own) (Some b) (table_body_start (R.row_closed b) g own (row_closed b h)) h)
    (table_start b g own h)

row_end : (b : P.Builder) (g : G.Group) (n : List ℕ) → HasRoot b → MayHaveRoot (R.row_end b g n)
row_end b G.a_row n h = one (R.has_in_table_scope G.is_row b) (R.row_closed b) b (row_closed b h) h
row_end b G.a_table n h =
    one_answer (R.has_in_table_scope G.is_row b) (R.table_body_end (R.row_closed b) G.a_table n) (Some b) (table_body_end (R.row_closed b) G.a_table n (row_closed b h)) h
row_end b G.a_table_body n h =
    one_answer (R.has_in_table_scope (bytes_eq n) b && R.has_in_table_scope G.is_row b) (R.table_body_end (R.row_closed b) G.a_table_body n) (Some b)
    (table_body_end (R.row_closed b) G.a_table_body n (row_closed b h)) h
row_end b g n h = table_end b g n h

cell_start : (b : P.Builder) (g : G.Group) (own : HtmlTag) → HasRoot b → MayHaveRoot (R.cell_start b g own)
cell_start b g own h =
    one_answer (G.is_part g) (R.row_start (R.cell_closed b) g own) (R.body_start b g own) (row_start (R.cell_closed b) g own (marked_closed G.is_cell P.in_row b h)) (body_start b g own h)

cell_outer_end : (b : P.Builder) (g : G.Group) (n : List ℕ) → HasRoot b → MayHaveRoot (R.cell_outer_end b g n)
cell_outer_end b g n h =
    one_answer (R.has_in_table_scope (bytes_eq n) b) (R.row_end (R.cell_closed b) g n) (Some b) (row_end (R.cell_closed b) g n (marked_closed G.is_cell P.in_row b h)) h

cell_end : (b : P.Builder) (g : G.Group) (n : List ℕ) → HasRoot b → MayHaveRoot (R.cell_end b g n)
cell_end b G.a_cell n h = one (R.has_in_table_scope (bytes_eq n) b) (R.marked_closed (bytes_eq n) P.in_row b) b (marked_closed (bytes_eq n) P.in_row b h) h
cell_end b G.a_caption n h = h
cell_end b G.a_column_group n h = h
cell_end b G.a_column n h = h
cell_end b G.a_table n h = cell_outer_end b G.a_table n h
cell_end b G.a_table_body n h = cell_outer_end b G.a_table_body n h
cell_end b G.a_row n h = cell_outer_end b G.a_row n h
cell_end b g n h = body_end b g n h

-- tokens

start_tag : (m : P.Mode) (b : P.Builder) (g : G.Group) (own : HtmlTag) → HasRoot b → MayHaveRoot (R.start_tag m b g own)
start_tag P.in_body b g own h = body_start b g own h
start_tag P.in_table b g own h = table_start b g own h
start_tag P.in_caption b g own h = caption_start b g own h
start_tag P.in_column_group b g own h = column_start b g own h
start_tag P.in_table_body b g own h = table_body_start b g own h
start_tag P.in_row b g own h = row_start b g own h
start_tag P.in_cell b g own h = cell_start b g own h

end_tag : (m : P.Mode) (b : P.Builder) (g : G.Group) (n : List ℕ) → HasRoot b → MayHaveRoot (R.end_tag m b g n)
end_tag P.in_body b g n h = body_end b g n h
end_tag P.in_table b g n h = table_end b g n h
end_tag P.in_caption b g n h = caption_end b g n h
end_tag P.in_column_group b g n h = column_end b g n h
end_tag P.in_table_body b g n h = table_body_end b g n h
end_tag P.in_row b g n h = row_end b g n h
end_tag P.in_cell b g n h = cell_end b g n h

a_character : (v : Bool) (b : P.Builder) (x : ℕ) → HasRoot b → MayHaveRoot (R.a_character v b x)
a_character true b x h = one (x == 0) b (P.with_character (P.reconstructed b) x) h (character (P.reconstructed b) x (reconstructed b h))
a_character false b x h = one_answer (is_ascii_whitespace x) (Some (P.with_character b x)) None (character b x h) tt

of_token : (b : P.Builder) (token : HtmlToken) → HasRoot b → MayHaveRoot (R.of_token b token)
of_token b (Character x) h = a_character (P.is_flow b.mode) b x h
of_token b (StartTag n attributes closes) h = start_tag b.mode b (G.group n) (record { name = n; attributes = attributes }) h
of_token b (EndTag n) h = end_tag b.mode b (G.group n) n h
of_token b (CommentToken bytes) h = tt
of_token b DoctypeToken h = tt

step : (b : P.Builder) (token : HtmlToken) → HasRoot b → MayHaveRoot (R.step b token)
step b token h = one_answer (b.skips && R.is_line_feed token) (Some (R.calm b)) (R.of_token (R.calm b) token) h (of_token (R.calm b) token h)

pub run : (tokens : List HtmlToken) (o : Option P.Builder) → MayHaveRoot o → MayHaveRoot (R.run o tokens)
run tokens None h = tt
run [] (Some b) h = h
run (token ∷ tokens) (Some b) h = run tokens (R.step b token) (step b token h)
