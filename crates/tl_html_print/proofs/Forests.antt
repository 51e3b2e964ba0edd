-- What is printed of the rows of trees is the trees serialized.
use Rattle.std.proofs.Common.{Bool, List, None, Option, Some, [], add-one, add-zero, ap, ap₂, append_assoc, arith, drop, false, inl, inr, length, refl, suc, sym, true, ℕ, ◌+◌, ◌++◌, ◌<◌, ◌∙◌, ◌≡◌, ◌≤◌, ◌∷◌}
use Rattle.std.proofs.lemmas.Bool.{cases_Bool}
use Rattle.std.specs.Option.{option_map, unwrap_or}
use Rattle.std.specs.Prelude.{slice_get}
use Rattle.tl_dom_spec.specs.HtmlForest.{HtmlForest, comment, doctype, element, has_contents, no_trees, text}
use Rattle.tl_dom_spec.specs.Lawful.{is_void}
use Rattle.tl_dom_spec.specs.Tags.{Tag}
use Rattle.tl_html_print.proofs.Printing.{AreUp, behind_other, behind_void, closed_here, closed_not, if-false, if-true, opened_is, own_ancestors, print_more, row_here, rows_behind, tag_is, upwards_is}
use Rattle.tl_html_print.specs.Inner.Printed.{behind, closed, opened, parent_tag, printed_from, tag_of}
use Rattle.tl_html_print.specs.Serialized.{end_tag, parent_below, serialized, start_tag, unless_void}
use Rattle.tl_tree.proofs.RowLaws.{contents-length, rows-length}
use Rattle.tl_tree.specs.Asked.{ancestors_up_from}
use Rattle.tl_tree.specs.Rows.{Node, Row, a_comment, a_doctype, a_text, an_element, contents, contents_count, contents_rows, lone_row, row_count, rows_from}

abbrev pub contents_row : ℕ → ℕ → Row
contents_row number end = record { node = contents; parent = Some number; end = end }

abbrev pub element_row : Tag → Option ℕ → ℕ → Row
element_row tag parent end = record { node = an_element tag; parent = parent; end = end }

module _ (s : Bool) (R : List Row) (up : AreUp R) (first end : ℕ) where
  -- what is printed from a row on, with the end tags that stand before it
  abbrev pub rest : ℕ → List ℕ → List ℕ
  rest n above = closed R first n above ++ printed_from s R first end n

  -- no end tag of rows stands before those of a range
  abbrev pub Silent : List ℕ → ℕ → ℕ → Type 0
  Silent above from to = (next : ℕ) → from ≤ next → next < to → closed R first next above ≡ []

  -- a row, and what comes then
  row-printed : (n : ℕ) (row : Row) → slice_get R n ≡ Some row → n < end →
      printed_from s R first end n ≡ opened s (parent_tag R row.parent) row.node ++ rest (behind R n) (n ∷ ancestors_up_from R row.parent)
  row-printed n row at l =
      print_more s R first end n l
      ∙ ap₂ (λ x y. x ++ (closed R first (behind R n) y ++ printed_from s R first end (behind R n))) (opened_is R n row at s) (upwards_is R n row at)

  -- where its end tag stands
  ended : (n next : ℕ) (row : Row) (outer : List ℕ) → slice_get R n ≡ Some row → first ≤ n → row.end ≡ next →
      rest next (n ∷ outer) ≡ unwrap_or (option_map end_tag (tag_of row.node)) [] ++ rest next outer
  ended n next row outer at l e =
      ap (λ x. x ++ printed_from s R first end next) (closed_here R n row at first next outer l e)
      ∙ append_assoc (unwrap_or (option_map end_tag (tag_of row.node)) []) (closed R first next outer) (printed_from s R first end next)

  -- What is said of trees

  abbrev pub Printed : HtmlForest → Type 0
  Printed f = (n : ℕ) (parent : Option ℕ) (post : List Row) →
      drop n R ≡ rows_from n parent f ++ post → first ≤ n → n + row_count f ≤ end →
      Silent (ancestors_up_from R parent) n (n + row_count f) →
      rest n (ancestors_up_from R parent)
      ≡ serialized s (parent_tag R parent) f ++ rest (n + row_count f) (ancestors_up_from R parent)

  nothing-printed : Printed no_trees
  nothing-printed n parent post e l m silent = ap (λ k. rest k (ancestors_up_from R parent)) (sym (add-zero n))

  -- a node that has no end tag, and then others
  lone-printed : (node : Node) (more : HtmlForest) → tag_of node ≡ None → Printed more →
      (n : ℕ) (parent : Option ℕ) (post : List Row) →
      drop n R ≡ lone_row n parent node ∷ (rows_from (n + 1) parent more ++ post) → first ≤ n → n + (1 + row_count more) ≤ end →
      Silent (ancestors_up_from R parent) n (n + (1 + row_count more)) →
      rest n (ancestors_up_from R parent)
      ≡ (opened s (parent_tag R parent) node ++ serialized s (parent_tag R parent) more) ++ rest (n + (1 + row_count more)) (ancestors_up_from R parent)
  lone-printed node more no_tag later n parent post e l m silent =
      let above = ancestors_up_from R parent in
      let row = lone_row n parent node in
      let at = row_here R n row (rows_from (n + 1) parent more ++ post) e in
      let is_behind : behind R n ≡ n + 1 = behind_other R n row at.0 (ap (λ t. unwrap_or (option_map is_void t) false) no_tag) in
      let place : n + 1 + row_count more ≡ n + (1 + row_count more) = omega arith in
      let own = opened s (parent_tag R parent) node in
      ap (λ x. x ++ printed_from s R first end n) (silent n (omega arith) (omega arith))
      ∙ row-printed n row at.0 (omega arith)
      ∙ ap (λ k. own ++ rest k (n ∷ above)) is_behind
      ∙ ap (λ x. own ++ x)
      (ended n (n + 1) row above at.0 l refl
      ∙ ap (λ t. unwrap_or (option_map end_tag t) [] ++ rest (n + 1) above) no_tag
      ∙ later (n + 1) parent post (ap (λ k. drop k R) (add-one n) ∙ at.1) (omega arith) (omega (arith, place)) (λ next a b. silent next (omega arith) (omega (arith, place)))
      ∙ ap (λ k. serialized s (parent_tag R parent) more ++ rest k above) place)
      ∙ sym (append_assoc own (serialized s (parent_tag R parent) more) (rest (n + (1 + row_count more)) above))

  -- the contents of a `template`
  pub contents_printed : (below : HtmlForest) → Printed below → (n number : ℕ) (post : List Row) →
      drop n R ≡ contents_row number (n + 1 + row_count below) ∷ (rows_from (n + 1) (Some n) below ++ post) → first ≤ n → n + 1 + row_count below ≤ end →
      printed_from s R first end n ≡ serialized s None below ++ rest (n + 1 + row_count below) (ancestors_up_from R (Some number))
  contents_printed below inner n number post e l m =
      let to = n + 1 + row_count below in
      let row = contents_row number to in
      let above = ancestors_up_from R (Some number) in
      let at = row_here R n row (rows_from (n + 1) (Some n) below ++ post) e in
      let is_behind : behind R n ≡ n + 1 = behind_other R n row at.0 refl in
      let own : n ∷ above ≡ ancestors_up_from R (Some n) = sym (own_ancestors R up n ∙ upwards_is R n row at.0) in
      let silent : Silent (ancestors_up_from R (Some n)) (n + 1) to = λ next a b. ap (closed R first next) (sym own) ∙ closed_not R n row at.0 first next above (λ same. omega (arith, same)) in
      row-printed n row at.0 (omega arith)
      ∙ ap (λ k. rest k (n ∷ above)) is_behind
      ∙ ap (rest (n + 1)) own
      ∙ inner (n + 1) (Some n) post (ap (λ k. drop k R) (add-one n) ∙ at.1) (omega arith) m silent
      ∙ ap (λ t. serialized s t below ++ rest to (ancestors_up_from R (Some n))) (tag_is R n row at.0)
      ∙ ap (λ x. serialized s None below ++ rest to x) (sym own)
      ∙ ap (λ x. serialized s None below ++ x) (ended n to row above at.0 l refl)

  -- what is below an element, up to its end tag
  pub below_printed : (tag : Tag) (below : HtmlForest) → Printed below → (b : Bool) → has_contents tag ≡ b → (n : ℕ) (parent : Option ℕ) (post : List Row) →
      slice_get R n ≡ Some (element_row tag parent (n + contents_count b + 1 + row_count below)) →
      drop (suc n) R ≡ contents_rows b n (n + contents_count b + 1 + row_count below) ++ (rows_from (n + contents_count b + 1) (Some (n + contents_count b)) below ++ post) →
      first ≤ n + 1 → n + contents_count b + 1 + row_count below ≤ end →
      rest (n + 1) (n ∷ ancestors_up_from R parent)
      ≡ serialized s (parent_below tag) below ++ rest (n + contents_count b + 1 + row_count below) (n ∷ ancestors_up_from R parent)
  below_printed tag below inner false is n parent post at e l m =
      let from : n + 0 + 1 ≡ n + 1 = ap (λ k. k + 1) (add-zero n) in
      let to = n + 0 + 1 + row_count below in
      let row = element_row tag parent to in
      let above = ancestors_up_from R parent in
      let own : n ∷ above ≡ ancestors_up_from R (Some n) = sym (own_ancestors R up n ∙ upwards_is R n row at) in
      let place : n + 1 + row_count below ≡ to = ap (λ k. k + row_count below) (sym from) in
      let silent : Silent (ancestors_up_from R (Some n)) (n + 1) (n + 1 + row_count below) = λ next a b. ap (closed R first next) (sym own) ∙ closed_not R n row at first next above (λ same. omega (arith, same, place)) in
      let stand : drop (n + 1) R ≡ rows_from (n + 1) (Some n) below ++ post =
      ap (λ k. drop k R) (add-one n) ∙ e ∙ ap₂ (λ k j. rows_from k (Some j) below ++ post) from (add-zero n) in
      let parent_is : parent_tag R (Some n) ≡ parent_below tag = tag_is R n row at ∙ sym (if-false (has_contents tag) None (Some tag) is) in
      ap (rest (n + 1)) own
      ∙ inner (n + 1) (Some n) post stand l (omega (arith, place)) silent
      ∙ ap₂ (λ t k. serialized s t below ++ rest k (ancestors_up_from R (Some n))) parent_is place
      ∙ ap (λ x. serialized s (parent_below tag) below ++ rest to x) (sym own)
  below_printed tag below inner true is n parent post at e l m =
      let to = n + 1 + 1 + row_count below in
      let row = element_row tag parent to in
      let above = ancestors_up_from R parent in
      let own : n ∷ above ≡ ancestors_up_from R (Some n) = sym (own_ancestors R up n ∙ upwards_is R n row at) in
      let none = closed_not R n row at first (n + 1) above (λ same. omega (arith, same)) in
      let stand : drop (n + 1) R ≡ contents_row n to ∷ (rows_from (n + 1 + 1) (Some (n + 1)) below ++ post) = ap (λ k. drop k R) (add-one n) ∙ e in
      ap (λ x. x ++ printed_from s R first end (n + 1)) none
      ∙ contents_printed below inner (n + 1) n post stand l m
      ∙ ap₂ (λ t x. serialized s t below ++ rest to x) (sym (if-true (has_contents tag) None (Some tag) is)) (sym own)

  -- an element, and then others
  element-printed : (tag : Tag) (below more : HtmlForest) → Printed below → Printed more → Printed (element tag below more)
  element-printed tag below more inner later n parent post e l m silent =
      let b = has_contents tag in
      let to = n + contents_count b + 1 + row_count below in
      let last = n + (1 + contents_count b + row_count below + row_count more) in
      let row = element_row tag parent to in
      let above = ancestors_up_from R parent in
      let place : to + row_count more ≡ last = omega arith in
      let front = contents_rows b n to in
      let mid = rows_from (n + contents_count b + 1) (Some (n + contents_count b)) below in
      let back = rows_from to parent more in
      let at = row_here R n row ((front ++ (mid ++ back)) ++ post) e in
      let regrouped : drop (suc n) R ≡ front ++ (mid ++ (back ++ post)) =
      at.1 ∙ append_assoc front (mid ++ back) post ∙ ap (λ x. front ++ x) (append_assoc mid back post) in
      let count : suc n + length front + length mid ≡ to = (let c = contents-length b n to in let d = rows-length (n + contents_count b + 1) (Some (n + contents_count b)) below in omega (arith, c, d)) in
      let stand : drop to R ≡ back ++ post = ap (λ k. drop k R) (sym count) ∙ rows_behind mid (back ++ post) R (suc n + length front) (rows_behind front (mid ++ (back ++ post)) R (suc n) regrouped) in
      let tail = rest last above in
      let T = parent_tag R parent in
      let S = serialized s (parent_below tag) below in
      let after : rest to above ≡ serialized s T more ++ tail =
      later to parent post stand (omega arith) (omega (arith, place)) (λ next x y. silent next (omega arith) (omega (arith, place))) ∙ ap (λ k. serialized s T more ++ rest k above) place in
      let ending : rest to (n ∷ above) ≡ end_tag tag ++ rest to above = ended n to row above at.0 l refl in
      let own : rest (behind R n) (n ∷ above) ≡ unless_void tag S ++ (end_tag tag ++ rest to above) = elim (cases_Bool (is_void tag)) [
        | inl void ↦
            ap (λ k. rest k (n ∷ above)) (behind_void R n row at.0 void (omega arith))
            ∙ ending
            ∙ ap (λ x. x ++ (end_tag tag ++ rest to above)) (sym (if-true (is_void tag) [] S void))
        | inr other ↦
            ap (λ k. rest k (n ∷ above)) (behind_other R n row at.0 other)
            ∙ below_printed tag below inner b refl n parent (back ++ post) at.0 regrouped (omega arith) (omega (arith, place))
            ∙ ap₂ (λ x y. x ++ y) (sym (if-false (is_void tag) [] S other)) ending
      ] in
      ap (λ x. x ++ printed_from s R first end n) (silent n (omega arith) (omega arith))
      ∙ row-printed n row at.0 (omega arith)
      ∙ ap (λ x. start_tag tag ++ x) (own ∙ ap (λ x. unless_void tag S ++ (end_tag tag ++ x)) after)
      ∙ regroup (start_tag tag) (unless_void tag S) (end_tag tag) (serialized s T more) tail
    where
      regroup : (a b c d t : List ℕ) → a ++ (b ++ (c ++ (d ++ t))) ≡ (a ++ (b ++ (c ++ d))) ++ t
      regroup a b c d t = sym (simp append_assoc)

  pub trees_printed : (f : HtmlForest) → Printed f
  trees_printed no_trees = nothing-printed
  trees_printed (text bytes more) = lone-printed (a_text bytes) more refl (trees_printed more)
  trees_printed (comment bytes more) = lone-printed (a_comment bytes) more refl (trees_printed more)
  trees_printed (doctype own more) = lone-printed (a_doctype own) more refl (trees_printed more)
  trees_printed (element tag below more) = element-printed tag below more (trees_printed below) (trees_printed more)
