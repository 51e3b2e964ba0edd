-- What is written of the rows of trees with lines between them is the trees, with texts of white
-- space put in, serialized.
use Rattle.std.proofs.Common.{Bool, List, None, Option, Some, [], add-one, add-zero, ap, ap₂, append-nil, append_assoc, arith, codes, drop, false, if◌then◌else◌, inl, inr, le_refl, length, nat_eq, nat_lt, refl, subst, suc, sym, take, true, true≢false, zero, ℕ, ◌&&◌, ◌*◌, ◌+◌, ◌-◌, ◌++◌, ◌<◌, ◌∙◌, ◌≡◌, ◌≤◌, ◌||◌, ◌∷◌}
use Rattle.std.proofs.lemmas.Bool.{and_parts, cases_Bool, eq-eqb, le-ltb, lt-ltb, ne_eqb}
use Rattle.std.proofs.lemmas.Slice.Eq.{bytes_eq-Decides}
use Rattle.std.specs.Option.{is_some, option_and_then, option_map, unwrap_or}
use Rattle.std.specs.Prelude.{max, min, not, replicate, slice_get}
use Rattle.std.specs.Str.{bytes_eq}
use Rattle.tl_dom_spec.specs.HtmlForest.{HtmlForest, comment, doctype, element, has_contents, no_trees, text}
use Rattle.tl_dom_spec.specs.Lawful.{is_void}
use Rattle.tl_dom_spec.specs.Marks.{Marked}
use Rattle.tl_dom_spec.specs.Tags.{Namespace, Tag, html_space, is_any, is_html, math_space, svg_space}
use Rattle.tl_html_print.proofs.Forests.{element_row, trees_printed}
use Rattle.tl_html_print.proofs.Printing.{AreUp, closed_above, if-false, if-true, own_ancestors, parent_is, print_none, row_here, rows_behind, tag_is}
use Rattle.tl_html_print.specs.Inner.Lines.{begin, begins_next, behind, closed_lines, closed_spot, element_stand_at, inside, is_late_at, is_opened_at, is_white_at, is_white_node, laid_from, laid_rows, laid_up_to, last_line, line_if, next_of, outside, parent_ends, stand_at, stand_of, start_lines, step_lines, step_spot, whole_lines, whole_spot}
use Rattle.tl_tree.specs.Below.{ends_at}
use Rattle.tl_html_print.specs.Inner.Printed.{closed, parent_tag, printed, printed_from, tag_at, tag_of}
use Rattle.tl_html_print.specs.Pretty.{after, after_lines, begins, begins_line, element_stand, ends_line, followed_by, has_lines, frame_names, is_block, is_broken, is_empty, is_frame_in, is_on_lines, is_opened, is_white, laid, last, late_names, line, pretty, unseen_names, with_line}
use Rattle.tl_html_print.specs.Serialized.{end_tag, escaped, is_literal_in, parent_below, serialized, serialized_comment, serialized_doctype, serialized_text, start_tag, unless_void}
use Rattle.tl_html_print.specs.declared.pretty.spot.Before.{Before}
use Rattle.tl_html_print.specs.declared.pretty.spot.Before.TheVariants.{Begin, Edge, Fresh, Joined, Run, Tight}
use Rattle.tl_html_print.specs.declared.pretty.spot.Spot.{Spot}
use Rattle.tl_html_print.specs.declared.pretty.stand.Stand.{Stand}
use Rattle.tl_html_print.specs.declared.pretty.stand.Stand.TheVariants.{Alone, Inside, Late, Unseen, Words}
use Rattle.tl_html_spec.specs.Balanced.{is_one_of}
use Rattle.tl_tree.proofs.RowLaws.{contents-length, parent_before, row_numbers, rows-length}
use Rattle.tl_tree.specs.Asked.{ancestors_at, ancestors_up_from, end_at, first_child_at, node_at, parent_at}
use Rattle.tl_tree.specs.Rows.{Node, Row, a_comment, a_doctype, a_text, an_element, contents, contents_count, contents_rows, lone_row, row_count, rows_from, rows_of}
use Rattle.tl_tree_extract.specs.Boxes.{box_in}
use Rattle.tl_tree_extract.specs.declared.text.display.Display.{Display}
use Rattle.tl_tree_extract.specs.declared.text.display.Display.TheVariants.{Block, Hidden, Inline, LineBreak, Paragraph, Preformatted, TableBox, TableCell, TableRow}

and-false : (b : Bool) → b && false ≡ false
and-false true = refl
and-false false = refl

-- Lines in a print

spaces-plain : (n : ℕ) → escaped false (replicate n 32) ≡ replicate n 32
spaces-plain zero = refl
spaces-plain (suc zero) = refl
spaces-plain (suc (suc n)) = ap (λ x. 32 ∷ x) (spaces-plain (suc n))

feed-plain : (n : ℕ) → escaped false (10 ∷ replicate n 32) ≡ 10 ∷ replicate n 32
feed-plain zero = refl
feed-plain (suc n) = ap (λ x. 10 ∷ x) (spaces-plain (suc n))

-- white space is written as it is
line-text : (s : Bool) (h : Option Tag) (d : ℕ) → serialized_text s h (line d) ≡ line d
line-text s h d = elim (cases_Bool (is_literal_in s h)) [
  | inl own ↦ if-true (is_literal_in s h) (line d) (escaped false (line d)) own
  | inr other ↦ if-false (is_literal_in s h) (line d) (escaped false (line d)) other ∙ feed-plain (2 * min d 40)
]

pub line-written : (s : Bool) (h : Option Tag) (b : Bool) (d : ℕ) (f : HtmlForest) → serialized s h (with_line b d f) ≡ line_if b d ++ serialized s h f
line-written s h true d f = ap (λ x. x ++ serialized s h f) (line-text s h d)
line-written s h false d f = refl

regroup₃ : (a b c t : List ℕ) → a ++ (b ++ (c ++ t)) ≡ (a ++ (b ++ c)) ++ t
regroup₃ a b c t = sym (append_assoc a (b ++ c) t ∙ ap (λ x. a ++ x) (append_assoc b c t))

followed-written : (s : Bool) (h : Option Tag) (f g : HtmlForest) → serialized s h (followed_by f g) ≡ serialized s h f ++ serialized s h g
followed-written s h no_trees g = refl
followed-written s h (text own more) g =
    ap (λ x. serialized_text s h own.said ++ x) (followed-written s h more g) ∙ sym (append_assoc (serialized_text s h own.said) (serialized s h more) (serialized s h g))
followed-written s h (comment own more) g =
    ap (λ x. serialized_comment own.said ++ x) (followed-written s h more g) ∙ sym (append_assoc (serialized_comment own.said) (serialized s h more) (serialized s h g))
followed-written s h (doctype own more) g =
    ap (λ x. serialized_doctype own.said.name ++ x) (followed-written s h more g) ∙ sym (append_assoc (serialized_doctype own.said.name) (serialized s h more) (serialized s h g))
followed-written s h (element tag below more) g =
    let inner = unless_void tag (serialized s (parent_below tag) below) in
    ap (λ x. start_tag tag ++ (inner ++ (end_tag tag ++ x))) (followed-written s h more g)
    ∙ regroup₄ (start_tag tag) inner (end_tag tag) (serialized s h more) (serialized s h g)
  where
    regroup₄ : (a b c d t : List ℕ) → a ++ (b ++ (c ++ (d ++ t))) ≡ (a ++ (b ++ (c ++ d))) ++ t
    regroup₄ a b c d t = sym (simp append_assoc)

-- How nodes stand

words-tight : (b : Before) → begins_line b Words ≡ false
words-tight Begin = refl
words-tight Edge = refl
words-tight Fresh = refl
words-tight Run = refl
words-tight Joined = refl
words-tight Tight = refl

lines-alone : (d : Display) → has_lines d ≡ true → is_on_lines d ≡ true
lines-alone Hidden e = e
lines-alone Inline e = e
lines-alone LineBreak e = e
lines-alone Paragraph e = refl
lines-alone Block e = refl
lines-alone Preformatted e = cc
lines-alone TableBox e = refl
lines-alone TableRow e = refl
lines-alone TableCell e = refl

either-alone : (h f : Bool) (d : Display) (v : Bool) → (h && (f || has_lines d)) && v ≡ true → (h && (f || is_on_lines d)) ≡ true
either-alone true true d v e = refl
either-alone true false d v e = lines-alone d (and_parts (has_lines d) v e).0
either-alone false f d v e = e

broken-block : (tag : Tag) → is_broken tag ≡ true → is_block tag ≡ true
broken-block tag e = either-alone (is_html tag) (is_one_of frame_names tag.name) (box_in tag.space tag.name) (not (is_void tag)) e

or-true : (a : Bool) → a || true ≡ true
or-true true = refl
or-true false = refl

then-more : (b : Bool) (x y : List ℕ) → b ≡ true → (elim b as (λ _. List ℕ) [ true ↦ x | false ↦ y ]) ≡ x
then-more true x y e = refl
then-more false x y e = cc

else-last : (b : Bool) (x y : List ℕ) → b ≡ false → (elim b as (λ _. List ℕ) [ true ↦ x | false ↦ y ]) ≡ y
else-last true x y e = cc
else-last false x y e = refl

late-begins : (b : Before) (late : Bool) → begins_line b (if late then Late else Alone) ≡ begins_line b Alone
late-begins b false = refl
late-begins Begin true = refl
late-begins Edge true = refl
late-begins Fresh true = refl
late-begins Run true = refl
late-begins Joined true = refl
late-begins Tight true = refl

-- what is broken over lines begins one as what stands alone
pub broken-begins : (b : Before) (h : Option Tag) (tag : Tag) → is_broken tag ≡ true → begins_line b (element_stand h tag) ≡ begins_line b Alone
broken-begins b h tag e =
    ap (begins_line b) (if-true (is_frame_in h || is_block tag) (if is_any late_names tag then Late else Alone) _ (ap (λ x. is_frame_in h || x) (broken-block tag e) ∙ or-true (is_frame_in h)))
    ∙ late-begins b (is_any late_names tag)

not-false : (b : Bool) → not b ≡ true → b ≡ false
not-false true e = sym e
not-false false e = refl

pub broken-not-void : (tag : Tag) → is_broken tag ≡ true → is_void tag ≡ false
broken-not-void tag e =
    not-false (is_void tag) (and_parts (is_html tag && (is_one_of frame_names tag.name || has_lines (box_in tag.space tag.name))) (not (is_void tag)) e).1

-- a `template` is not

only-true : (a : Bool) → a || false ≡ true → a ≡ true
only-true true e = refl
only-true false e = e

inner-lines : Namespace → List ℕ → Bool
inner-lines space name = is_one_of frame_names name || has_lines (box_in space name)

template-lines : (space : Namespace) → inner-lines space (codes "template") ≡ false
unfolding inner-lines
template-lines html_space = refl
template-lines math_space = refl
template-lines svg_space = refl

pub template-whole : (tag : Tag) → has_contents tag ≡ true → is_broken tag ≡ false
unfolding inner-lines
template-whole tag e =
    let parts = and_parts (is_html tag) (is_one_of (codes "template") tag.name) e in
    let named : tag.name ≡ codes "template" = (bytes_eq-Decides tag.name (codes "template")).0 (only-true (bytes_eq tag.name (codes "template")) parts.1) in
    ap (λ b. (is_html tag && b) && not (is_void tag)) (ap (inner-lines tag.space) named ∙ template-lines tag.space)
    ∙ ap (λ b. b && not (is_void tag)) (and-false (is_html tag))

broken-plain : (tag : Tag) → is_broken tag ≡ true → has_contents tag ≡ false
broken-plain tag e = elim (cases_Bool (has_contents tag)) [
  | inl is ↦ absurd (true≢false (sym e ∙ template-whole tag is))
  | inr other ↦ other
]

-- Rows

abbrev node_stand : Option Tag → Node → Stand
node_stand h (an_element tag) = element_stand h tag
node_stand h (a_comment own) = Unseen
node_stand h (a_doctype own) = Alone
node_stand h contents = Words
node_stand h (a_text own) = Words

element-stands : (R : List Row) (n : ℕ) (tag : Tag) (h : Option Tag) → tag_at R n ≡ Some tag → parent_tag R (parent_at R n) ≡ h → element_stand_at R n ≡ element_stand h tag
element-stands R n tag h e f =
    ap₂ (λ (t : Option Tag) (p : Option Tag). if is_frame_in p || unwrap_or (option_map is_block t) false
    then (if unwrap_or (option_map (is_any late_names) t) false then Late else Alone)
    else if unwrap_or (option_map (is_any unseen_names) t) false then Unseen else Inside) e f

module _ (R : List Row) (n : ℕ) (row : Row) (at : slice_get R n ≡ Some row) where
  node-is : node_at R n ≡ Some row.node
  node-is = ap (option_map (λ (r : Row). r.node)) at

  end-is : end_at R n ≡ Some row.end
  end-is = ap (option_map (λ (r : Row). r.end)) at

  white-is : is_white_at R n ≡ is_white_node row.node
  white-is = ap (λ o. unwrap_or (option_map is_white_node o) false) node-is

  up-is : ancestors_at R n ≡ ancestors_up_from R row.parent
  up-is = ap (ancestors_up_from R) (parent_is R n row at)

  stand-is : (h : Option Tag) → parent_tag R row.parent ≡ h → stand_at R n ≡ node_stand h row.node
  stand-is h e =
      ap (λ o. unwrap_or (option_map (stand_of (element_stand_at R n)) o) Words) node-is
      ∙ of-node row.node refl
    where
      of-node : (node : Node) → row.node ≡ node → stand_of (element_stand_at R n) node ≡ node_stand h node
      of-node (an_element tag) same =
          element-stands R n tag h (tag_is R n row at ∙ ap tag_of same) (ap (parent_tag R) (parent_is R n row at) ∙ e)
      of-node contents same = refl
      of-node (a_text own) same = refl
      of-node (a_comment own) same = refl
      of-node (a_doctype own) same = refl

  next-is : n < row.end → max (n + 1) (unwrap_or (end_at R n) 0) ≡ row.end
  next-is l = ap (λ o. max (n + 1) (unwrap_or o 0)) end-is ∙ larger
    where
      larger : max (n + 1) row.end ≡ row.end
      larger = omega (arith, l)

  whole-is : tag_of row.node ≡ None → is_opened_at R n ≡ false
  whole-is e =
      ap (λ t. is_some (first_child_at R n) && unwrap_or (option_map is_broken t) false) (tag_is R n row at ∙ e)
      ∙ and-false (is_some (first_child_at R n))

child-is : (b : Bool) (next : ℕ) → is_some (if b then Some next else None) ≡ b
child-is true next = refl
child-is false next = refl

count-is : (n : ℕ) (below : HtmlForest) → nat_lt (n + 1) (n + 0 + 1 + row_count below) ≡ not (is_empty below)
count-is n no_trees = le-ltb (n + 1) (n + 0 + 1 + 0) (omega arith)
count-is n (text own more) = lt-ltb (n + 1) (n + 0 + 1 + (1 + row_count more)) (omega arith)
count-is n (comment own more) = lt-ltb (n + 1) (n + 0 + 1 + (1 + row_count more)) (omega arith)
count-is n (doctype own more) = lt-ltb (n + 1) (n + 0 + 1 + (1 + row_count more)) (omega arith)
count-is n (element tag below more) =
    lt-ltb (n + 1) (n + 0 + 1 + (1 + contents_count (has_contents tag) + row_count below + row_count more)) (omega arith)

opened-is : (R : List Row) (n : ℕ) (tag : Tag) (below : HtmlForest) (parent : Option ℕ) →
    slice_get R n ≡ Some (element_row tag parent (n + contents_count (has_contents tag) + 1 + row_count below)) → is_opened_at R n ≡ is_opened tag below
opened-is R n tag below parent at =
    let row = element_row tag parent (n + contents_count (has_contents tag) + 1 + row_count below) in
    let broken = ap (λ t. is_some (first_child_at R n) && unwrap_or (option_map is_broken t) false) (tag_is R n row at) in
    elim (cases_Bool (is_broken tag)) [
      | inl is ↦
          broken
          ∙ ap₂ (λ a b. a && b)
          (ap (λ (o : Option Row). is_some (option_and_then (λ (r : Row). if nat_lt (n + 1) r.end then Some (n + 1) else None) o)) at
          ∙ child-is (nat_lt (n + 1) row.end) (n + 1)
          ∙ ap (λ b. nat_lt (n + 1) (n + contents_count b + 1 + row_count below)) (broken-plain tag is)
          ∙ count-is n below) is
          ∙ swap (not (is_empty below))
          ∙ ap (λ b. b && not (is_empty below)) (sym is)
      | inr other ↦
          broken
          ∙ ap (λ b. is_some (first_child_at R n) && b) other
          ∙ and-false (is_some (first_child_at R n))
          ∙ ap (λ b. b && not (is_empty below)) (sym other)
    ]
  where
    swap : (b : Bool) → b && true ≡ true && b
    swap true = refl
    swap false = refl

slice-none : {X : Type 0} (xs : List X) (n : ℕ) → length xs ≤ n → slice_get xs n ≡ None
slice-none [] n l = refl
slice-none (x ∷ xs) zero l = absurd (omega (arith, l))
slice-none (x ∷ xs) (suc n) l = slice-none xs n (omega (arith, l))

some-rows : (below : HtmlForest) → is_empty below ≡ false → 0 < row_count below
some-rows no_trees e = absurd (true≢false e)
some-rows (text own more) e = omega arith
some-rows (comment own more) e = omega arith
some-rows (doctype own more) e = omega arith
some-rows (element tag below more) e = omega arith

-- Steps

module _ (s : Bool) (R : List Row) where
  further : (o : Bool) (n e : ℕ) → n < (if o then n + 1 else max (n + 1) e)
  further true n e = omega arith
  further false n e = omega arith

  next-further : (n : ℕ) (o : Bool) → n < next_of R n o
  next-further n o = further o n (unwrap_or (end_at R n) 0)

  abbrev step : ℕ → ℕ → Spot → List ℕ
  step f n spot =
      let o = is_opened_at R n in
      step_lines s R n o (next_of R n o) spot ++ laid_up_to s R f (next_of R n o) (step_spot R n o (next_of R n o) spot)

  enough : (f g n : ℕ) (spot : Spot) → length R ≤ n + f → length R ≤ n + g → laid_up_to s R f n spot ≡ laid_up_to s R g n spot
  enough zero zero n spot h k = refl
  enough zero (suc g) n spot h k = sym (else-last (nat_lt n (length R)) _ (last_line spot) (le-ltb n (length R) (omega arith)))
  enough (suc f) zero n spot h k = else-last (nat_lt n (length R)) _ (last_line spot) (le-ltb n (length R) (omega arith))
  enough (suc f) (suc g) n spot h k = elim (cases_Bool (nat_lt n (length R))) [
    | inl less ↦
        let o = is_opened_at R n in
        let next = next_of R n o in
        let l = next-further n o in
        then-more (nat_lt n (length R)) _ (last_line spot) less
        ∙ ap (λ x. step_lines s R n o next spot ++ x) (enough f g next (step_spot R n o next spot) (omega (arith, l, h)) (omega (arith, l, k)))
        ∙ sym (then-more (nat_lt n (length R)) _ (last_line spot) less)
    | inr more ↦ else-last (nat_lt n (length R)) _ (last_line spot) more ∙ sym (else-last (nat_lt n (length R)) _ (last_line spot) more)
  ]

  pub laid_more : (n : ℕ) (spot : Spot) (o : Bool) (next : ℕ) → n < length R → o ≡ is_opened_at R n → next ≡ next_of R n o →
      laid_from s R n spot ≡ step_lines s R n o next spot ++ laid_from s R next (step_spot R n o next spot)
  laid_more n spot o next h eo en =
      let l = next-further n (is_opened_at R n) in
      let own = is_opened_at R n in
      let most : length R - n ≡ suc (length R - n - 1) = omega (arith, h) in
      ap (λ f. laid_up_to s R f n spot) most
      ∙ then-more (nat_lt n (length R)) _ (last_line spot) (lt-ltb n (length R) h)
      ∙ ap (λ x. step_lines s R n own (next_of R n own) spot ++ x) (enough (length R - n - 1) (length R - next_of R n own) (next_of R n own) (step_spot R n own (next_of R n own) spot) (omega (arith, l, h)) (omega (arith, l)))
      ∙ ap (λ v. step_lines s R n v (next_of R n v) spot ++ laid_from s R (next_of R n v) (step_spot R n v (next_of R n v) spot)) (sym eo)
      ∙ ap (λ k. step_lines s R n o k spot ++ laid_from s R k (step_spot R n o k spot)) (sym en)

  pub laid_none : (n : ℕ) (spot : Spot) → length R ≤ n → laid_from s R n spot ≡ last_line spot
  laid_none n spot h =
      let none : length R - n ≡ 0 = omega (arith, h) in
      ap (λ f. laid_up_to s R f n spot) none

module _ (s : Bool) (R : List Row) (up : AreUp R) where
  -- what trees stand in, which ends where they do
  abbrev Held : Option ℕ → Option Tag → ℕ → Type 0
  Held None None e = e ≡ length R
  Held (Some p) (Some tag) e = (tag_at R p ≡ Some tag) × (end_at R p ≡ Some e)
  Held None (Some tag) e = ⊥
  Held (Some p) None e = ⊥

  held-tag : (parent : Option ℕ) (h : Option Tag) (e : ℕ) → Held parent h e → parent_tag R parent ≡ h
  held-tag None None e k = refl
  held-tag (Some p) (Some tag) e k = k.0
  held-tag None (Some tag) e k = absurd k
  held-tag (Some p) None e k = absurd k

  ends-is : (p e next : ℕ) → end_at R p ≡ Some e → ends_at R p next ≡ nat_eq e next
  ends-is p e next is = ap (λ o. unwrap_or (option_map (λ v. nat_eq v next) o) false) is

  ends-not : (p e next : ℕ) → end_at R p ≡ Some e → next < e → ends_at R p next ≡ false
  ends-not p e next is l = ends-is p e next is ∙ ne_eqb e next (λ same. omega (arith, same, l))

  silent-lines : (parent : Option ℕ) (h : Option Tag) (e next : ℕ) (spot : Spot) → Held parent h e → next < e → closed_lines R next spot (ancestors_up_from R parent) ≡ []
  silent-lines None h e next spot k l = refl
  silent-lines (Some p) (Some tag) e next spot k l = if-false (ends_at R p next) _ [] (ends-not p e next k.1 l)
  silent-lines (Some p) None e next spot k l = absurd k

  silent-spot : (parent : Option ℕ) (h : Option Tag) (e next : ℕ) (spot : Spot) → Held parent h e → next < e → closed_spot R next spot (ancestors_up_from R parent) ≡ spot
  silent-spot None h e next spot k l = refl
  silent-spot (Some p) (Some tag) e next spot k l = if-false (ends_at R p next) _ spot (ends-not p e next k.1 l)
  silent-spot (Some p) None e next spot k l = absurd k

  -- what is written from a row on, with the end tags that stand before it
  abbrev rest : ℕ → Spot → List ℕ → List ℕ
  rest n spot above = closed_lines R n spot above ++ laid_from s R n (closed_spot R n spot above)

  quiet : (parent : Option ℕ) (h : Option Tag) (e next : ℕ) (spot : Spot) → Held parent h e → next < e → rest next spot (ancestors_up_from R parent) ≡ laid_from s R next spot
  quiet parent h e next spot k l = ap₂ (λ x y. x ++ laid_from s R next y) (silent-lines parent h e next spot k l) (silent-spot parent h e next spot k l)

  opened-step : (n : ℕ) (spot : Spot) → n < length R → is_opened_at R n ≡ true →
      laid_from s R n spot ≡ start_lines R n spot ++ laid_from s R (n + 1) (inside spot)
  opened-step n spot l o = laid_more s R n spot true (n + 1) l (sym o) refl

  whole-step : (n next : ℕ) (spot : Spot) (above : List ℕ) → n < length R → is_opened_at R n ≡ false → max (n + 1) (unwrap_or (end_at R n) 0) ≡ next → ancestors_at R n ≡ above →
      laid_from s R n spot ≡ whole_lines s R n next spot ++ rest next (whole_spot R n spot) above
  whole-step n next spot above l o e f =
      laid_more s R n spot false next l (sym o) (sym e)
      ∙ ap (λ a. (whole_lines s R n next spot ++ closed_lines R next (whole_spot R n spot) a) ++ laid_from s R next (closed_spot R next (whole_spot R n spot) a)) f
      ∙ append_assoc (whole_lines s R n next spot) (closed_lines R next (whole_spot R n spot) above) (laid_from s R next (closed_spot R next (whole_spot R n spot) above))

  -- a node with what is in it, as it is
  lone-printed : (tree : HtmlForest) (n : ℕ) (parent : Option ℕ) (h : Option Tag) (post : List Row) → drop n R ≡ rows_from n parent tree ++ post → ((p : ℕ) → parent ≡ Some p → p < n) → parent_tag R parent ≡ h →
      printed s R n (n + row_count tree) ≡ serialized s h tree
  lone-printed tree n parent h post e before t =
      let to = n + row_count tree in
      let none = λ (next : ℕ). closed_above R n next parent before in
      ap (λ x. x ++ printed_from s R n to n) (sym (none n))
      ∙ trees_printed s R up n to tree n parent post e (le_refl n) (le_refl to) (λ next a b. none next)
      ∙ ap₂ (λ x y. x ++ y) (ap (λ o. serialized s o tree) t) (ap₂ (λ x y. x ++ y) (none to) (print_none s R n to to (le_refl to)))
      ∙ append-nil (serialized s h tree)

  -- What is said of trees

  abbrev Laid : HtmlForest → Type 0
  Laid f = (n : ℕ) (parent : Option ℕ) (h : Option Tag) (post : List Row) (spot : Spot) →
      drop n R ≡ rows_from n parent f ++ post → n + row_count f ≤ length R → Held parent h (n + row_count f) →
      rest n spot (ancestors_up_from R parent)
      ≡ serialized s h (laid spot.depth h spot.before f)
      ++ rest (n + row_count f) (record { depth = spot.depth; before = last h spot.before f }) (ancestors_up_from R parent)

  nothing-laid : Laid no_trees
  nothing-laid n parent h post spot e m k = ap (λ v. rest v spot (ancestors_up_from R parent)) (sym (add-zero n))

  -- the line before the next sibling, or before an end tag

  abbrev ends-of : Option ℕ → ℕ → Bool
  ends-of parent next = unwrap_or (option_map (λ p. ends_at R p next) parent) false

  not-ended : (parent : Option ℕ) (h : Option Tag) (e next : ℕ) → Held parent h e → next < e → ends-of parent next ≡ false
  not-ended None h e next k l = refl
  not-ended (Some p) (Some tag) e next k l = ends-not p e next k.1 l
  not-ended (Some p) None e next k l = absurd k

  next-row : (node : Node) (n next end : ℕ) (parent : Option ℕ) (h : Option Tag) (e : ℕ) (xs : List Row) (spot : Spot) → parent_at R n ≡ parent →
      drop next R ≡ record { node = node; parent = parent; end = end } ∷ xs → Held parent h e → next < e →
      begins_next R n next spot ≡ begins_line spot.before (node_stand h node)
  next-row node n next end parent h e xs spot is stand k l =
      let row : Row = record { node = node; parent = parent; end = end } in
      let at = row_here R next row xs stand in
      if-false (parent_ends R n next) (ends_line spot.before) (begins_line spot.before (stand_at R next)) (ap (λ p. ends-of p next) is ∙ not-ended parent h e next k l)
      ∙ ap (begins_line spot.before) (stand-is R next row at.0 h (held-tag parent h e k))

  next-begins : (more : HtmlForest) (n next : ℕ) (parent : Option ℕ) (h : Option Tag) (post : List Row) (spot : Spot) → parent_at R n ≡ parent →
      drop next R ≡ rows_from next parent more ++ post → Held parent h (next + row_count more) → begins_next R n next spot ≡ begins h spot.before more
  next-begins no_trees n next None None post spot is stand k =
      let behind : length R ≤ next = omega (arith, k) in
      ap (λ p. if ends-of p next then ends_line spot.before else begins_line spot.before (stand_at R next)) is
      ∙ ap (λ (o : Option Row). begins_line spot.before (unwrap_or (option_map (stand_of (element_stand_at R next)) (option_map (λ (r : Row). r.node) o)) Words)) (slice-none R next behind)
      ∙ words-tight spot.before
  next-begins no_trees n next (Some p) (Some tag) post spot is stand k =
      if-true (parent_ends R n next) (ends_line spot.before) _ (ap (λ o. ends-of o next) is ∙ ends-is p (next + 0) next k.1 ∙ eq-eqb (next + 0) next (add-zero next))
  next-begins no_trees n next None (Some tag) post spot is stand k = absurd k
  next-begins no_trees n next (Some p) None post spot is stand k = absurd k
  next-begins (text own more) n next parent h post spot is stand k = next-row (a_text own) n next (next + 1) parent h (next + (1 + row_count more)) (rows_from (next + 1) parent more ++ post) spot is stand k (omega arith)
  next-begins (comment own more) n next parent h post spot is stand k = next-row (a_comment own) n next (next + 1) parent h (next + (1 + row_count more)) (rows_from (next + 1) parent more ++ post) spot is stand k (omega arith)
  next-begins (doctype own more) n next parent h post spot is stand k = next-row (a_doctype own) n next (next + 1) parent h (next + (1 + row_count more)) (rows_from (next + 1) parent more ++ post) spot is stand k (omega arith)
  next-begins (element tag below more) n next parent h post spot is stand k =
      next-row (an_element tag) n next (next + contents_count (has_contents tag) + 1 + row_count below) parent h (next + (1 + contents_count (has_contents tag) + row_count below + row_count more)) _ spot is stand k (omega arith)

  -- A node that is written whole, and then others

  beside-laid : (stand : Stand) (tree laid_rest : HtmlForest) (n next : ℕ) (row : Row) (parent : Option ℕ) (h : Option Tag) (spot : Spot) (tail : List ℕ) →
      slice_get R n ≡ Some row → row.parent ≡ parent → n < row.end → row.end ≡ next → n < length R → is_opened_at R n ≡ false → is_white_at R n ≡ false → stand_at R n ≡ stand →
      printed s R n next ≡ serialized s h tree →
      rest next (behind spot stand) (ancestors_up_from R parent) ≡ serialized s h laid_rest ++ tail →
      laid_from s R n spot ≡ serialized s h (with_line (begins_line spot.before stand) spot.depth (followed_by tree laid_rest)) ++ tail
  beside-laid stand tree laid_rest n next row parent h spot tail at of_parent longer ending inside_rows not_opened not_white is print later =
      let begin_line = line_if (begins_line spot.before stand) spot.depth in
      let above = ancestors_up_from R parent in
      whole-step n next spot above inside_rows not_opened (next-is R n row at longer ∙ ending) (up-is R n row at ∙ ap (ancestors_up_from R) of_parent)
      ∙ ap₂ (λ x y. x ++ rest next y above)
      (if-false (is_white_at R n) _ (line_if (begins_line spot.before (stand_at R n)) spot.depth ++ printed s R n next) not_white
      ∙ ap₂ (λ v p. line_if (begins_line spot.before v) spot.depth ++ p) is print)
      (if-false (is_white_at R n) spot (behind spot (stand_at R n)) not_white ∙ ap (behind spot) is)
      ∙ ap (λ x. (begin_line ++ serialized s h tree) ++ x) later
      ∙ group begin_line (serialized s h tree) (serialized s h laid_rest) tail
      ∙ ap (λ x. (begin_line ++ x) ++ tail) (sym (followed-written s h tree laid_rest))
      ∙ ap (λ x. x ++ tail) (sym (line-written s h (begins_line spot.before stand) spot.depth (followed_by tree laid_rest)))
    where
      group : (a b c t : List ℕ) → (a ++ b) ++ (c ++ t) ≡ (a ++ (b ++ c)) ++ t
      group a b c t = append_assoc a b (c ++ t) ∙ regroup₃ a b c t

  -- a comment or a doctype
  lone-laid : (node : Node) (stand : Stand) (tree more : HtmlForest) → tag_of node ≡ None → is_white_node node ≡ false → ((h : Option Tag) → node_stand h node ≡ stand) → row_count tree ≡ 1 →
      ((n : ℕ) (parent : Option ℕ) (xs : List Row) → lone_row n parent node ∷ xs ≡ rows_from n parent tree ++ xs) → Laid more →
      (n : ℕ) (parent : Option ℕ) (h : Option Tag) (post : List Row) (spot : Spot) →
      drop n R ≡ lone_row n parent node ∷ (rows_from (n + 1) parent more ++ post) → n + (1 + row_count more) ≤ length R → Held parent h (n + (1 + row_count more)) →
      rest n spot (ancestors_up_from R parent)
      ≡ serialized s h (with_line (begins_line spot.before stand) spot.depth (followed_by tree (laid spot.depth h (after spot.before stand) more)))
      ++ rest (n + (1 + row_count more)) (record { depth = spot.depth; before = last h (after spot.before stand) more }) (ancestors_up_from R parent)
  lone-laid node stand tree more no_tag no_white stands single rows later n parent h post spot e m k =
      let row = lone_row n parent node in
      let xs = rows_from (n + 1) parent more ++ post in
      let at = row_here R n row xs e in
      let place : n + 1 + row_count more ≡ n + (1 + row_count more) = omega arith in
      let T = held-tag parent h (n + (1 + row_count more)) k in
      let behind_at : drop (n + 1) R ≡ xs = ap (λ j. drop j R) (add-one n) ∙ at.1 in
      let above = ancestors_up_from R parent in
      let spot' : Spot = behind spot stand in
      quiet parent h (n + (1 + row_count more)) n spot k (omega arith)
      ∙ beside-laid stand tree (laid spot.depth h (after spot.before stand) more) n (n + 1) row parent h spot
      (rest (n + (1 + row_count more)) (record { depth = spot.depth; before = last h (after spot.before stand) more }) above)
      at.0 refl (omega arith) refl (omega (arith, m)) (whole-is R n row at.0 no_tag) (white-is R n row at.0 ∙ no_white) (stand-is R n row at.0 h T ∙ stands h)
      (ap (λ j. printed s R n j) (ap (λ j. n + j) (sym single)) ∙ lone-printed tree n parent h xs (e ∙ rows n parent xs) (λ p is. up n row p at.0 is) T)
      (later (n + 1) parent h post spot' behind_at (omega (arith, m, place)) (subst (λ j. Held parent h j) (sym place) k)
      ∙ ap (λ j. serialized s h (laid spot.depth h (after spot.before stand) more) ++ rest j (record { depth = spot.depth; before = last h (after spot.before stand) more }) above) place)

  -- a text
  text-laid : (own : Marked (List ℕ)) (more : HtmlForest) → Laid more → Laid (text own more)
  text-laid own more later n parent h post spot e m k =
      let bytes : List ℕ = own.said in
      let row = lone_row n parent (a_text own) in
      let xs = rows_from (n + 1) parent more ++ post in
      let at = row_here R n row xs e in
      let place : n + 1 + row_count more ≡ n + (1 + row_count more) = omega arith in
      let held' = subst (λ j. Held parent h j) (sym place) k in
      let T = held-tag parent h (n + (1 + row_count more)) k in
      let behind_at : drop (n + 1) R ≡ xs = ap (λ j. drop j R) (add-one n) ∙ at.1 in
      let above = ancestors_up_from R parent in
      let after_it : Before → Spot = λ b. record { depth = spot.depth; before = b } in
      let M : Before → HtmlForest = λ b. laid spot.depth h b more in
      let tail : Before → List ℕ = λ b. rest (n + (1 + row_count more)) (after_it (last h b more)) above in
      let whole = whole-is R n row at.0 refl in
      let print : printed s R n (n + 1) ≡ serialized s h (text own no_trees) = lone-printed (text own no_trees) n parent h xs e (λ p is. up n row p at.0 is) T in
      let further_on : (b : Before) → rest (n + 1) (after_it b) above ≡ serialized s h (M b) ++ tail b = λ b.
      later (n + 1) parent h post (after_it b) behind_at (omega (arith, m, place)) held'
      ∙ ap (λ j. serialized s h (M b) ++ rest j (after_it (last h b more)) above) place in
      let form : Bool → Bool → List ℕ = λ w g.
      serialized s h (let b = (if w then spot.before else after spot.before Words) in if w && g then M b else text own (M b))
      ++ tail (if w then spot.before else after spot.before Words) in
      let goes : (w : Bool) → is_white bytes ≡ w → (g : Bool) → begins h spot.before more ≡ g → laid_from s R n spot ≡ form w g = λ w. elim w as (λ w. is_white bytes ≡ w → (g : Bool) → begins h spot.before more ≡ g → laid_from s R n spot ≡ form w g) [
        | false ↦ λ not_white g g_is.
            beside-laid Words (text own no_trees) (M Tight) n (n + 1) row parent h spot (tail Tight)
            at.0 refl (omega arith) refl (omega (arith, m)) whole (white-is R n row at.0 ∙ not_white) (stand-is R n row at.0 h T) print (further_on Tight)
            ∙ ap (λ b. serialized s h (with_line b spot.depth (text own (M Tight))) ++ tail Tight) (words-tight spot.before)
        | true ↦ λ white g g_is.
            let step = whole-step n (n + 1) spot above (omega (arith, m)) whole (next-is R n row at.0 (omega arith)) (up-is R n row at.0) in
            let is = white-is R n row at.0 ∙ white in
            let next = next-begins more n (n + 1) parent h post spot (parent_is R n row at.0) behind_at held' ∙ g_is in
            step
            ∙ ap₂ (λ x y. x ++ rest (n + 1) y above)
            (if-true (is_white_at R n) _ _ is ∙ ap (λ v. if v then [] else printed s R n (n + 1)) next)
            (if-true (is_white_at R n) spot _ is)
            ∙ ap₂ (λ p x. (if g then [] else p) ++ x) print (further_on spot.before)
            ∙ either g
      ] in
      quiet parent h (n + (1 + row_count more)) n spot k (omega arith)
      ∙ goes (is_white bytes) refl (begins h spot.before more) refl
    where
      either : (g : Bool) → (if g then [] else serialized s h (text own no_trees)) ++ (serialized s h (laid spot.depth h spot.before more) ++ rest (n + (1 + row_count more)) (record { depth = spot.depth; before = last h spot.before more }) (ancestors_up_from R parent))
          ≡ serialized s h (if g then laid spot.depth h spot.before more else text own (laid spot.depth h spot.before more)) ++ rest (n + (1 + row_count more)) (record { depth = spot.depth; before = last h spot.before more }) (ancestors_up_from R parent)
      either true = refl
      either false =
          ap (λ x. x ++ (serialized s h (laid spot.depth h spot.before more) ++ rest (n + (1 + row_count more)) (record { depth = spot.depth; before = last h spot.before more }) (ancestors_up_from R parent))) (append-nil (serialized_text s h own.said))
          ∙ sym (append_assoc (serialized_text s h own.said) (serialized s h (laid spot.depth h spot.before more)) _)

  -- an element that isn't broken over lines
  whole-laid : (tag : Tag) (below more : HtmlForest) → is_opened tag below ≡ false → Laid more →
      (n : ℕ) (parent : Option ℕ) (h : Option Tag) (post : List Row) (spot : Spot) →
      drop n R ≡ rows_from n parent (element tag below more) ++ post → n + row_count (element tag below more) ≤ length R → Held parent h (n + row_count (element tag below more)) →
      rest n spot (ancestors_up_from R parent)
      ≡ serialized s h (with_line (begins_line spot.before (element_stand h tag)) spot.depth (element tag below (laid spot.depth h (after spot.before (element_stand h tag)) more)))
      ++ rest (n + row_count (element tag below more)) (record { depth = spot.depth; before = last h (after spot.before (element_stand h tag)) more }) (ancestors_up_from R parent)
  whole-laid tag below more closed later n parent h post spot e m k =
      let b = has_contents tag in
      let inner = n + contents_count b in
      let to = inner + 1 + row_count below in
      let end = n + (1 + contents_count b + row_count below + row_count more) in
      let row = element_row tag parent to in
      let front = contents_rows b n to in
      let mid = rows_from (inner + 1) (Some inner) below in
      let back = rows_from to parent more in
      let above = ancestors_up_from R parent in
      let at = row_here R n row ((front ++ (mid ++ back)) ++ post) e in
      let regrouped : (front ++ (mid ++ back)) ++ post ≡ front ++ (mid ++ (back ++ post)) =
      append_assoc front (mid ++ back) post ∙ ap (λ x. front ++ x) (append_assoc mid back post) in
      let alone : front ++ (mid ++ (back ++ post)) ≡ (front ++ (mid ++ [])) ++ (back ++ post) =
      sym (append_assoc front (mid ++ []) (back ++ post) ∙ ap (λ x. front ++ x) (ap (λ x. x ++ (back ++ post)) (append-nil mid))) in
      let c = contents-length b n to in
      let d = rows-length (inner + 1) (Some inner) below in
      let count : suc n + length front + length mid ≡ to = omega (arith, c, d) in
      let stand : drop to R ≡ back ++ post = ap (λ j. drop j R) (sym count) ∙ rows_behind mid (back ++ post) R (suc n + length front) (rows_behind front (mid ++ (back ++ post)) R (suc n) (at.1 ∙ regrouped)) in
      let place : to + row_count more ≡ end = omega arith in
      let T = held-tag parent h end k in
      let own = element_stand h tag in
      let lone : n + (1 + contents_count b + row_count below + 0) ≡ to = omega arith in
      let shown = lone-printed (element tag below no_trees) n parent h (back ++ post) (e ∙ ap (λ x. row ∷ x) (regrouped ∙ alone)) (λ p is. up n row p at.0 is) T in
      quiet parent h end n spot k (omega arith)
      ∙ beside-laid own (element tag below no_trees) (laid spot.depth h (after spot.before own) more) n to row parent h spot
      (rest end (record { depth = spot.depth; before = last h (after spot.before own) more }) above)
      at.0 refl (omega arith) refl (omega (arith, m)) (opened-is R n tag below parent at.0 ∙ closed) (white-is R n row at.0) (stand-is R n row at.0 h T)
      (ap (printed s R n) (sym lone) ∙ shown)
      (later to parent h post (behind spot own) stand (omega (arith, m, place)) (subst (λ j. Held parent h j) (sym place) k)
      ∙ ap (λ j. serialized s h (laid spot.depth h (after spot.before own) more) ++ rest j (record { depth = spot.depth; before = last h (after spot.before own) more }) above) place)

  -- the end tag of one that is
  end-laid : (n to : ℕ) (tag : Tag) (depth : ℕ) (before : Before) (above : List ℕ) → tag_at R n ≡ Some tag → end_at R n ≡ Some to →
      rest to (record { depth = depth + 1; before = before }) (n ∷ above)
      ≡ line_if (ends_line before) depth ++ (end_tag tag ++ rest to (record { depth = depth; before = after_lines (is_any late_names tag) before }) above)
  end-laid n to tag depth before above t e =
      let spot : Spot = record { depth = depth + 1; before = before } in
      let ends = ends-is n to to e ∙ eq-eqb to to refl in
      let late : is_late_at R n ≡ is_any late_names tag = ap (λ o. unwrap_or (option_map (is_any late_names) o) false) t in
      let own = ap (λ o. unwrap_or (option_map end_tag o) []) t in
      let less : depth + 1 - 1 ≡ depth = omega arith in
      let L = line_if (ends_line before) depth in
      let out : Spot = record { depth = depth; before = after_lines (is_any late_names tag) before } in
      let same : outside (is_late_at R n) spot ≡ out = ap₂ (λ (d : ℕ) (l : Bool). record { depth = d; before = after_lines l before }) less late in
      ap₂ (λ x y. x ++ laid_from s R to y)
      (if-true (ends_at R n to) _ [] ends
      ∙ ap₂ (λ d x. line_if (ends_line before) d ++ x) less (ap₂ (λ x v. x ++ closed_lines R to v above) own same))
      (if-true (ends_at R n to) _ spot ends ∙ ap (λ v. closed_spot R to v above) same)
      ∙ append_assoc L (end_tag tag ++ closed_lines R to out above) (laid_from s R to (closed_spot R to out above))
      ∙ ap (λ x. L ++ x) (append_assoc (end_tag tag) (closed_lines R to out above) (laid_from s R to (closed_spot R to out above)))

  -- the rows of an element that has no contents
  plain-rows : (tag : Tag) (below more : HtmlForest) (n : ℕ) (parent : Option ℕ) (post : List Row) → has_contents tag ≡ false →
      drop n R ≡ rows_from n parent (element tag below more) ++ post →
      drop n R ≡ element_row tag parent (n + 1 + row_count below) ∷ (rows_from (n + 1) (Some n) below ++ (rows_from (n + 1 + row_count below) parent more ++ post))
  plain-rows tag below more n parent post q e =
      e
      ∙ ap (λ v. rows-by v ++ post) q
      ∙ ap (λ i. (element_row tag parent (i + 1 + row_count below) ∷ (rows_from (i + 1) (Some i) below ++ rows_from (i + 1 + row_count below) parent more)) ++ post) (add-zero n)
      ∙ ap (λ x. element_row tag parent (n + 1 + row_count below) ∷ x) (append_assoc (rows_from (n + 1) (Some n) below) (rows_from (n + 1 + row_count below) parent more) post)
    where
      rows-by : Bool → List Row
      rows-by v =
          let inner = n + contents_count v in
          let to = inner + 1 + row_count below in
          element_row tag parent to ∷ (contents_rows v n to ++ (rows_from (inner + 1) (Some inner) below ++ rows_from to parent more))

  -- an element that is broken over lines
  broken-laid : (tag : Tag) (below more : HtmlForest) → is_opened tag below ≡ true → Laid below → Laid more →
      (n : ℕ) (parent : Option ℕ) (h : Option Tag) (post : List Row) (spot : Spot) →
      drop n R ≡ rows_from n parent (element tag below more) ++ post → n + row_count (element tag below more) ≤ length R → Held parent h (n + row_count (element tag below more)) →
      rest n spot (ancestors_up_from R parent)
      ≡ serialized s h (with_line (begins_line spot.before (element_stand h tag)) spot.depth
      (element tag
      (followed_by (laid (spot.depth + 1) (Some tag) Edge below) (with_line (ends_line (last (Some tag) Edge below)) spot.depth no_trees))
      (laid spot.depth h (after_lines (is_any late_names tag) (last (Some tag) Edge below)) more)))
      ++ rest (n + row_count (element tag below more)) (record { depth = spot.depth; before = last h (after_lines (is_any late_names tag) (last (Some tag) Edge below)) more }) (ancestors_up_from R parent)
  broken-laid tag below more opened inner later n parent h post spot e m k =
      let parts = and_parts (is_broken tag) (not (is_empty below)) opened in
      let q = broken-plain tag parts.0 in
      let open_void = broken-not-void tag parts.0 in
      let some = some-rows below (not-false (is_empty below) parts.1) in
      let total : row_count (element tag below more) ≡ 1 + row_count below + row_count more =
      (let z = ap (λ v. contents_count v) q in omega (arith, z)) in
      let to = n + 1 + row_count below in
      let end = n + row_count (element tag below more) in
      let place : to + row_count more ≡ end = omega (arith, total) in
      let row = element_row tag parent to in
      let mid = rows_from (n + 1) (Some n) below in
      let back = rows_from to parent more in
      let above = ancestors_up_from R parent in
      let at = row_here R n row (mid ++ (back ++ post)) (plain-rows tag below more n parent post q e) in
      let below_at : drop (n + 1) R ≡ mid ++ (back ++ post) = ap (λ j. drop j R) (add-one n) ∙ at.1 in
      let d = rows-length (n + 1) (Some n) below in
      let count : n + 1 + length mid ≡ to = omega (arith, d) in
      let more_at : drop to R ≡ back ++ post = ap (λ j. drop j R) (sym count) ∙ rows_behind mid (back ++ post) R (n + 1) below_at in
      let t : tag_at R n ≡ Some tag = tag_is R n row at.0 in
      let ending : end_at R n ≡ Some to = end-is R n row at.0 in
      let own : n ∷ above ≡ ancestors_up_from R (Some n) = sym (own_ancestors R up n ∙ ap (λ p. n ∷ ancestors_up_from R p) (parent_is R n row at.0)) in
      let opened_at : is_opened_at R n ≡ true =
      opened-is R n tag below parent (at.0 ∙ ap (λ v. Some (element_row tag parent v)) (to-is q)) ∙ opened in
      let Z = last (Some tag) Edge below in
      let L = laid (spot.depth + 1) (Some tag) Edge below in
      let B = serialized s (Some tag) L in
      let E = line_if (ends_line Z) spot.depth in
      let next : Spot = record { depth = spot.depth; before = after_lines (is_any late_names tag) Z } in
      let M = laid spot.depth h next.before more in
      let tail = rest end (record { depth = spot.depth; before = last h next.before more }) above in
      let start = line_if (begins_line spot.before (element_stand h tag)) spot.depth in
      let started : start_lines R n spot ≡ start ++ start_tag tag =
      ap₂ (λ v x. line_if v spot.depth ++ x) (sym (broken-begins spot.before h tag parts.0)) (ap (λ o. unwrap_or (option_map start_tag o) []) t) in
      let contents_done : laid_from s R (n + 1) (inside spot) ≡ B ++ (E ++ (end_tag tag ++ (serialized s h M ++ tail))) =
      sym (quiet (Some n) (Some tag) to (n + 1) (inside spot) (t, ending) (omega (arith, some)))
      ∙ inner (n + 1) (Some n) (Some tag) (back ++ post) (inside spot) below_at (omega (arith, m, place)) (t, ending)
      ∙ ap (λ x. B ++ x)
      (ap (λ a. rest to (record { depth = spot.depth + 1; before = Z }) a) (sym own)
      ∙ end-laid n to tag spot.depth Z above t ending
      ∙ ap (λ x. E ++ (end_tag tag ++ x))
      (later to parent h post next more_at (omega (arith, m, place)) (subst (λ j. Held parent h j) (sym place) k)
      ∙ ap (λ j. serialized s h M ++ rest j (record { depth = spot.depth; before = last h next.before more }) above) place)) in
      let inside_done : unless_void tag (serialized s (parent_below tag) (followed_by L (with_line (ends_line Z) spot.depth no_trees))) ≡ B ++ E =
      if-false (is_void tag) [] _ open_void
      ∙ ap (λ o. serialized s o (followed_by L (with_line (ends_line Z) spot.depth no_trees))) (if-false (has_contents tag) None (Some tag) q)
      ∙ followed-written s (Some tag) L (with_line (ends_line Z) spot.depth no_trees)
      ∙ ap (λ x. B ++ x) (line-written s (Some tag) (ends_line Z) spot.depth no_trees ∙ append-nil E) in
      quiet parent h end n spot k (omega (arith, total))
      ∙ opened-step n spot (omega (arith, m, total)) opened_at
      ∙ ap₂ (λ x y. x ++ y) started contents_done
      ∙ regroup₆ start (start_tag tag) B E (end_tag tag) (serialized s h M) tail
      ∙ ap (λ x. (start ++ (start_tag tag ++ (x ++ (end_tag tag ++ serialized s h M)))) ++ tail) (sym inside_done)
      ∙ ap (λ x. x ++ tail)
      (sym (line-written s h (begins_line spot.before (element_stand h tag)) spot.depth (element tag (followed_by L (with_line (ends_line Z) spot.depth no_trees)) M)))
    where
      regroup₆ : (a b c d f g t : List ℕ) → (a ++ b) ++ (c ++ (d ++ (f ++ (g ++ t)))) ≡ (a ++ (b ++ ((c ++ d) ++ (f ++ g)))) ++ t
      regroup₆ a b c d f g t = simp append_assoc

      to-is : has_contents tag ≡ false → n + 1 + row_count below ≡ n + contents_count (has_contents tag) + 1 + row_count below
      to-is q = let z = ap (λ v. contents_count v) q in omega (arith, z)

  element-laid : (tag : Tag) (below more : HtmlForest) → Laid below → Laid more → Laid (element tag below more)
  element-laid tag below more inner later n parent h post spot e m k =
      let Z = last (Some tag) Edge below in
      let form : Bool → List ℕ = λ o.
      let own = (if o then after_lines (is_any late_names tag) Z else after spot.before (element_stand h tag)) in
      serialized s h (with_line (begins_line spot.before (element_stand h tag)) spot.depth
      (element tag
      (if o then followed_by (laid (spot.depth + 1) (Some tag) Edge below) (with_line (ends_line Z) spot.depth no_trees) else below)
      (laid spot.depth h own more)))
      ++ rest (n + row_count (element tag below more)) (record { depth = spot.depth; before = last h own more }) (ancestors_up_from R parent) in
      elim (cases_Bool (is_opened tag below)) [
        | inl opened ↦ broken-laid tag below more opened inner later n parent h post spot e m k ∙ ap form (sym opened)
        | inr closed ↦ whole-laid tag below more closed later n parent h post spot e m k ∙ ap form (sym closed)
      ]

  pub trees_laid : (f : HtmlForest) → Laid f
  trees_laid no_trees = nothing-laid
  trees_laid (text own more) = text-laid own more (trees_laid more)
  trees_laid (comment own more) = lone-laid (a_comment own) Unseen (comment own no_trees) more refl refl (λ h. refl) refl (λ n parent xs. refl) (trees_laid more)
  trees_laid (doctype own more) = lone-laid (a_doctype own) Alone (doctype own no_trees) more refl refl (λ h. refl) refl (λ n parent xs. refl) (trees_laid more)
  trees_laid (element tag below more) = element-laid tag below more (trees_laid below) (trees_laid more)

pub laid_found : (s : Bool) (trees : HtmlForest) → laid_rows s (rows_of trees) ≡ pretty s trees
laid_found s trees =
    let R = rows_of trees in
    let all = row_numbers trees in
    let count : 0 + row_count trees ≡ length R = omega (arith, all) in
    let up : AreUp R = λ n row p at is. parent_before trees n row p at is in
    let ends = ends_line (last None Begin trees) in
    let front = serialized s None (laid 0 None Begin trees) in
    trees_laid s R up trees 0 None None [] begin (sym (append-nil R)) (omega (arith, count)) count
    ∙ ap (λ x. front ++ x)
    (laid_none s R (0 + row_count trees) (record { depth = 0; before = last None Begin trees }) (omega (arith, count))
    ∙ sym (line-written s None ends 0 no_trees ∙ append-nil (line_if ends 0)))
    ∙ sym (followed-written s None (laid 0 None Begin trees) (with_line ends 0 no_trees))

-- How many elements around are broken over lines

closed-depth : (R : List Row) (next : ℕ) (spot : Spot) (ns : List ℕ) → (closed_spot R next spot ns).depth ≤ spot.depth
closed-depth R next spot [] = le_refl spot.depth
closed-depth R next spot (n ∷ ns) = elim (cases_Bool (ends_at R n next)) [
  | inl ends ↦
      let h = closed-depth R next (outside (is_late_at R n) spot) ns in
      let e = ap (λ (v : Spot). v.depth) (if-true (ends_at R n next) (closed_spot R next (outside (is_late_at R n) spot) ns) spot ends) in
      omega (arith, h, e)
  | inr goes ↦
      let e = ap (λ (v : Spot). v.depth) (if-false (ends_at R n next) (closed_spot R next (outside (is_late_at R n) spot) ns) spot goes) in
      omega (arith, e)
]

whole-depth : (R : List Row) (n : ℕ) (spot : Spot) → (whole_spot R n spot).depth ≡ spot.depth
whole-depth R n spot = here (is_white_at R n)
  where
    here : (b : Bool) → (if b then spot else behind spot (stand_at R n)).depth ≡ spot.depth
    here true = refl
    here false = refl

pub step_depth : (R : List Row) (n : ℕ) (o : Bool) (next : ℕ) (spot : Spot) → spot.depth ≤ n → n < next → (step_spot R n o next spot).depth ≤ next
step_depth R n true next spot h l = omega (arith, h, l)
step_depth R n false next spot h l =
    let c = closed-depth R next (whole_spot R n spot) (ancestors_at R n) in
    let w = whole-depth R n spot in
    omega (arith, h, l, c, w)

abbrev pub spaces : ℕ → List ℕ
spaces n = replicate n 32

take-spaces : (n m : ℕ) → n ≤ m → take n (spaces m) ≡ spaces n
take-spaces zero m l = refl
take-spaces (suc n) zero l = absurd (omega (arith, l))
take-spaces (suc n) (suc m) l = ap (λ x. 32 ∷ x) (take-spaces n m (omega (arith, l)))

-- the front of a line feed and 80 spaces
pub line_front : (depth : ℕ) → take (1 + 2 * min depth 40) (10 ∷ spaces 80) ≡ line depth
line_front depth =
    let place : 1 + 2 * min depth 40 ≡ suc (2 * min depth 40) = omega arith in
    ap (λ k. take k (10 ∷ spaces 80)) place ∙ ap (λ x. 10 ∷ x) (take-spaces (2 * min depth 40) 80 (omega arith))

-- a void element is not broken over lines
pub void_whole : (o : Option Tag) → unwrap_or (option_map is_void o) false ≡ true → unwrap_or (option_map is_broken o) false ≡ false
void_whole None e = refl
void_whole (Some tag) e =
    let lines = is_html tag && (is_one_of frame_names tag.name || has_lines (box_in tag.space tag.name)) in
    ap (λ b. lines && not b) e ∙ and-false lines
