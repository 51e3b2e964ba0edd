-- Where the nodes of trees stand among the rows, so what is printed of the rows of a node.
use Rattle.std.proofs.Common.{Bool, List, None, Option, Some, [], add-one, add-zero, ap, ap₂, append-nil, append_assoc, arith, drop, false, inl, inr, le_refl, length, length-append, nat_lt, refl, subst, suc, sym, true, zero, zero-add, ℕ, ◌+◌, ◌++◌, ◌<◌, ◌∙◌, ◌≡◌, ◌≤◌, ◌⊎◌, ◌∷◌}
use Rattle.std.proofs.lemmas.Bool.{cases_lt, lt-ltb}
use Rattle.std.proofs.lemmas.Option.{none-some, same_Some}
use Rattle.std.specs.Option.{option_and_then, option_map, unwrap_or}
use Rattle.std.specs.Prelude.{if◌then◌else◌, slice_get, ⊤}
use Rattle.tl_dom_spec.specs.HtmlForest.{HtmlForest, comment, doctype, element, has_contents, no_trees, text}
use Rattle.tl_dom_spec.specs.Lawful.{is_void}
use Rattle.tl_dom_spec.specs.Tags.{Tag}
use Rattle.tl_html_print.proofs.Forests.{below_printed, contents_printed, contents_row, element_row, rest, trees_printed}
use Rattle.tl_html_print.proofs.Printing.{AreUp, closed_above, closed_before, if-false, if-true, print_none, row_here, rows_behind, tag_is}
use Rattle.tl_html_print.specs.Inner.Printed.{is_void_at, parent_tag, printed, printed_from, tag_at}
use Rattle.tl_html_print.specs.Places.{Place, a_node, contents_places, inner_at, inner_of, outer_at, outer_of, places, the_contents}
use Rattle.tl_html_print.specs.Serialized.{parent_below, serialized}
use Rattle.tl_tree.proofs.RowLaws.{contents-length, parent_before, row_numbers, rows-length}
use Rattle.tl_tree.specs.Asked.{ancestors_up_from, end_at, first_child_at}
use Rattle.tl_tree.specs.Rows.{Row, a_comment, a_doctype, a_text, contents_count, contents_rows, lone_row, row_count, rows_from, rows_of}

-- a node with what is below it stands at a row
abbrev pub Located : List Row → ℕ → Place → Type 0
Located R n (a_node T tree) =
    (parent : Option ℕ) × (post : List Row) × (drop n R ≡ rows_from n parent tree ++ post)
    × (parent_tag R parent ≡ T) × (end_at R n ≡ Some (n + row_count tree))
    × ((p : ℕ) → parent ≡ Some p → p < n)
Located R n (the_contents below) =
    (number : ℕ) × (post : List Row)
    × (drop n R ≡ contents_row number (n + 1 + row_count below) ∷ (rows_from (n + 1) (Some n) below ++ post))
    × (number < n)

abbrev AreLocated : List Row → ℕ → List Place → Type 0
AreLocated R n [] = ⊤
AreLocated R n (p ∷ ps) = Located R n p × AreLocated R (suc n) ps

located-append : (R : List Row) (n m : ℕ) (ps qs : List Place) → m ≡ n + length ps → AreLocated R n ps → AreLocated R m qs → AreLocated R n (ps ++ qs)
located-append R n m [] qs e h k = let same : m ≡ n = omega (arith, e) in subst (λ v. AreLocated R v qs) same k
located-append R n m (p ∷ ps) qs e h k = (h.0, located-append R (suc n) m ps qs (omega (arith, e)) h.1 k)

located-at : (R : List Row) (n i : ℕ) (ps : List Place) (p : Place) → AreLocated R n ps → slice_get ps i ≡ Some p → Located R (n + i) p
located-at R n i [] p h e = absurd (none-some p e)
located-at R n zero (q ∷ ps) p h e = subst (λ v. Located R v p) (sym (add-zero n)) (subst (λ v. Located R n v) (same_Some q p e) h.0)
located-at R n (suc i) (q ∷ ps) p h e =
    let place : suc n + i ≡ n + suc i = omega arith in
    subst (λ v. Located R v p) place (located-at R (suc n) i ps p h.1 e)

contents-places-length : (b : Bool) (below : HtmlForest) → length (contents_places b below) ≡ contents_count b
contents-places-length true below = refl
contents-places-length false below = refl

places-length : (T : Option Tag) (f : HtmlForest) → length (places T f) ≡ row_count f
places-length T no_trees = refl
places-length T (text bytes more) = let h = places-length T more in omega (arith, h)
places-length T (comment bytes more) = let h = places-length T more in omega (arith, h)
places-length T (doctype own more) = let h = places-length T more in omega (arith, h)
places-length T (element tag below more) =
    let b = has_contents tag in
    let front = contents-places-length b below in
    let mid = places-length (parent_below tag) below in
    let back = places-length T more in
    let outer = length-append (contents_places b below) (places (parent_below tag) below ++ places T more) in
    let later = length-append (places (parent_below tag) below) (places T more) in
    omega (arith, front, mid, back, outer, later)

module _ (R : List Row) (up : AreUp R) where
  ends : (n : ℕ) (row : Row) → slice_get R n ≡ Some row → end_at R n ≡ Some row.end
  ends n row at = ap (option_map (λ (r : Row). r.end)) at

  -- the element that what is below an element stands in
  below-parent : (tag : Tag) (b : Bool) → has_contents tag ≡ b → (n end : ℕ) (parent : Option ℕ) (rest : List Row) →
      slice_get R n ≡ Some (element_row tag parent end) → drop (suc n) R ≡ contents_rows b n end ++ rest →
      parent_tag R (Some (n + contents_count b)) ≡ parent_below tag
  below-parent tag false is n end parent rest at e =
      ap (tag_at R) (add-zero n) ∙ tag_is R n (element_row tag parent end) at ∙ sym (if-false (has_contents tag) None (Some tag) is)
  below-parent tag true is n end parent rest at e =
      ap (tag_at R) (add-one n) ∙ tag_is R (suc n) (contents_row n end) (row_here R (suc n) (contents_row n end) rest e).0 ∙ sym (if-true (has_contents tag) None (Some tag) is)

  contents-located : (b : Bool) (n : ℕ) (below : HtmlForest) (post : List Row) →
      drop (suc n) R ≡ contents_rows b n (n + contents_count b + 1 + row_count below) ++ (rows_from (n + contents_count b + 1) (Some (n + contents_count b)) below ++ post) →
      AreLocated R (suc n) (contents_places b below)
  contents-located false n below post e = tt
  contents-located true n below post e =
      let same : n + 1 ≡ suc n = add-one n in
      ((n, post, subst (λ v. drop (suc n) R ≡ contents_row n (v + 1 + row_count below) ∷ (rows_from (v + 1) (Some v) below ++ post)) same e, omega arith), tt)

  located : (f : HtmlForest) (n : ℕ) (parent : Option ℕ) (T : Option Tag) (post : List Row) →
      drop n R ≡ rows_from n parent f ++ post → parent_tag R parent ≡ T → AreLocated R n (places T f)
  located no_trees n parent T post e t = tt
  located (text bytes more) n parent T post e t =
      let row = lone_row n parent (a_text bytes) in
      let at = row_here R n row (rows_from (n + 1) parent more ++ post) e in (
        (parent, rows_from (n + 1) parent more ++ post, e, t, ends n row at.0, λ p is. up n row p at.0 is),
        located more (suc n) parent T post (at.1 ∙ ap (λ k. rows_from k parent more ++ post) (add-one n)) t,
      )
  located (comment bytes more) n parent T post e t =
      let row = lone_row n parent (a_comment bytes) in
      let at = row_here R n row (rows_from (n + 1) parent more ++ post) e in (
        (parent, rows_from (n + 1) parent more ++ post, e, t, ends n row at.0, λ p is. up n row p at.0 is),
        located more (suc n) parent T post (at.1 ∙ ap (λ k. rows_from k parent more ++ post) (add-one n)) t,
      )
  located (doctype own more) n parent T post e t =
      let row = lone_row n parent (a_doctype own) in
      let at = row_here R n row (rows_from (n + 1) parent more ++ post) e in (
        (parent, rows_from (n + 1) parent more ++ post, e, t, ends n row at.0, λ p is. up n row p at.0 is),
        located more (suc n) parent T post (at.1 ∙ ap (λ k. rows_from k parent more ++ post) (add-one n)) t,
      )
  located (element tag below more) n parent T post e t =
      let b = has_contents tag in
      let inner = n + contents_count b in
      let to = inner + 1 + row_count below in
      let row = element_row tag parent to in
      let front = contents_rows b n to in
      let mid = rows_from (inner + 1) (Some inner) below in
      let back = rows_from to parent more in
      let at = row_here R n row ((front ++ (mid ++ back)) ++ post) e in
      let regrouped : (front ++ (mid ++ back)) ++ post ≡ front ++ (mid ++ (back ++ post)) =
      append_assoc front (mid ++ back) post ∙ ap (λ x. front ++ x) (append_assoc mid back post) in
      let alone : front ++ (mid ++ (back ++ post)) ≡ (front ++ (mid ++ [])) ++ (back ++ post) =
      sym (append_assoc front (mid ++ []) (back ++ post) ∙ ap (λ x. front ++ x) (ap (λ x. x ++ (back ++ post)) (append-nil mid))) in
      let below-at : drop (suc n) R ≡ front ++ (mid ++ (back ++ post)) = at.1 ∙ regrouped in
      let c = contents-length b n to in
      let d = rows-length (inner + 1) (Some inner) below in
      let inner-count : suc n + length front ≡ inner + 1 = omega (arith, c) in
      let count : inner + 1 + length mid ≡ to = omega (arith, d) in
      let inner-at : drop (inner + 1) R ≡ mid ++ (back ++ post) = ap (λ k. drop k R) (sym inner-count) ∙ rows_behind front (mid ++ (back ++ post)) R (suc n) below-at in
      let more-at : drop to R ≡ back ++ post = ap (λ k. drop k R) (sym count) ∙ rows_behind mid (back ++ post) R (inner + 1) inner-at in
      let ending : to ≡ n + (1 + contents_count b + row_count below + 0) = omega arith in
      let x = contents-places-length b below in
      let y = places-length (parent_below tag) below in (
        (parent, back ++ post, e ∙ ap (λ x. row ∷ x) (regrouped ∙ alone), t, ends n row at.0 ∙ ap (λ k. Some k) ending, λ p is. up n row p at.0 is),
        located-append R (suc n) (inner + 1) (contents_places b below) (places (parent_below tag) below ++ places T more) (omega (arith, x))
            (contents-located b n below (back ++ post) below-at)
            (located-append R (inner + 1) to (places (parent_below tag) below) (places T more) (omega (arith, y))
            (located below (inner + 1) (Some inner) (parent_below tag) (back ++ post) inner-at (below-parent tag b refl n to parent (mid ++ (back ++ post)) at.0 below-at))
            (located more to parent T post more-at t)),
      )

  -- What is printed of a node

  outer-printed : (s : Bool) (n end : ℕ) (p : Place) → Located R n p → end_at R n ≡ Some end → printed s R n end ≡ outer_of s p
  outer-printed s n end (a_node T tree) h e =
      let parent = h.0 in
      let above = ancestors_up_from R parent in
      let last : n + row_count tree ≡ end = same_Some (n + row_count tree) end (sym h.4 ∙ e) in
      let none = λ (next : ℕ). closed_above R n next parent h.5 in
      ap (λ x. x ++ printed_from s R n end n) (sym (none n))
      ∙ trees_printed s R up n end tree n parent h.1 h.2 (le_refl n) (omega (arith, last)) (λ next a b. none next)
      ∙ ap₂ (λ x y. x ++ y) (ap (λ o. serialized s o tree) h.3)
      (ap₂ (λ x y. x ++ y) (none (n + row_count tree)) (print_none s R n end (n + row_count tree) (omega (arith, last))))
      ∙ append-nil (serialized s T tree)
  outer-printed s n end (the_contents below) h e =
      let to = n + 1 + row_count below in
      let row = contents_row h.0 to in
      let at = row_here R n row (rows_from (n + 1) (Some n) below ++ h.1) h.2 in
      let last : to ≡ end = same_Some to end (sym (ends n row at.0) ∙ e) in
      let less = h.3 in
      contents_printed s R up n end below (trees_printed s R up n end below) n h.0 h.1 h.2 (le_refl n) (omega (arith, last))
      ∙ ap (λ x. serialized s None below ++ x)
      (ap₂ (λ x y. x ++ y) (closed_above R n to (Some h.0) (λ p is. let same = same_Some h.0 p is in omega (arith, same, less))) (print_none s R n end to (omega (arith, last))))
      ∙ append-nil (serialized s None below)

  -- what is below a row that has no rows below it
  none-printed : (s : Bool) (n end last : ℕ) → end_at R n ≡ Some last → last ≡ n + 1 → end_at R n ≡ Some end → printed s R (n + 1) end ≡ []
  none-printed s n end last is lone e =
      let same = same_Some last end (sym is ∙ e) in
      print_none s R (n + 1) end (n + 1) (omega (arith, same, lone))

  lone-end : (n end : ℕ) (row : Row) (xs : List Row) → drop n R ≡ row ∷ xs → end_at R n ≡ Some end → row.end ≡ end
  lone-end n end row xs e is = same_Some row.end end (sym (ends n row (row_here R n row xs e).0) ∙ is)

  inner-printed : (s : Bool) (n end : ℕ) (p : Place) → Located R n p → is_void_at R n ≡ false → end_at R n ≡ Some end → printed s R (n + 1) end ≡ inner_of s p
  inner-printed s n end (a_node T no_trees) h v e =
      let last : n + 0 ≡ end = same_Some (n + 0) end (sym h.4 ∙ e) in
      print_none s R (n + 1) end (n + 1) (omega (arith, last))
  inner-printed s n end (a_node T (text bytes more)) h v e =
      let last = lone-end n end (lone_row n h.0 (a_text bytes)) (rows_from (n + 1) h.0 more ++ h.1) h.2 e in
      print_none s R (n + 1) end (n + 1) (omega (arith, last))
  inner-printed s n end (a_node T (comment bytes more)) h v e =
      let last = lone-end n end (lone_row n h.0 (a_comment bytes)) (rows_from (n + 1) h.0 more ++ h.1) h.2 e in
      print_none s R (n + 1) end (n + 1) (omega (arith, last))
  inner-printed s n end (a_node T (doctype own more)) h v e =
      let last = lone-end n end (lone_row n h.0 (a_doctype own)) (rows_from (n + 1) h.0 more ++ h.1) h.2 e in
      print_none s R (n + 1) end (n + 1) (omega (arith, last))
  inner-printed s n end (a_node T (element tag below more)) h v e =
      let parent = h.0 in
      let b = has_contents tag in
      let inner = n + contents_count b in
      let to = inner + 1 + row_count below in
      let row = element_row tag parent to in
      let front = contents_rows b n to in
      let mid = rows_from (inner + 1) (Some inner) below in
      let back = rows_from to parent more in
      let post = h.1 in
      let at = row_here R n row ((front ++ (mid ++ back)) ++ post) h.2 in
      let regrouped : (front ++ (mid ++ back)) ++ post ≡ front ++ (mid ++ (back ++ post)) =
      append_assoc front (mid ++ back) post ∙ ap (λ x. front ++ x) (append_assoc mid back post) in
      let last : to ≡ end = same_Some to end (sym (ends n row at.0) ∙ e) in
      let none = λ (next : ℕ). closed_before R (n + 1) next n (ancestors_up_from R parent) (omega arith) in
      let S = serialized s (parent_below tag) below in
      let other : is_void tag ≡ false = sym (ap (λ o. unwrap_or (option_map is_void o) false) (tag_is R n row at.0)) ∙ v in
      ap (λ x. x ++ printed_from s R (n + 1) end (n + 1)) (sym (none (n + 1)))
      ∙ below_printed s R up (n + 1) end tag below (trees_printed s R up (n + 1) end below) b refl n parent (back ++ post) at.0 (at.1 ∙ regrouped) (le_refl (n + 1)) (omega (arith, last))
      ∙ ap (λ x. S ++ x) (ap₂ (λ x y. x ++ y) (none to) (print_none s R (n + 1) end to (omega (arith, last))))
      ∙ append-nil S
      ∙ sym (if-false (is_void tag) [] S other)
  inner-printed s n end (the_contents below) h v e =
      let to = n + 1 + row_count below in
      let row = contents_row h.0 to in
      let at = row_here R n row (rows_from (n + 1) (Some n) below ++ h.1) h.2 in
      let last : to ≡ end = same_Some to end (sym (ends n row at.0) ∙ e) in
      let none = λ (next : ℕ). closed_above R (n + 1) next (Some n) (λ p is. let same = same_Some n p is in omega (arith, same)) in
      ap (λ x. x ++ printed_from s R (n + 1) end (n + 1)) (sym (none (n + 1)))
      ∙ trees_printed s R up (n + 1) end below (n + 1) (Some n) h.1 (ap (λ k. drop k R) (add-one n) ∙ at.1) (le_refl (n + 1)) (omega (arith, last)) (λ next a c. none next)
      ∙ ap₂ (λ x y. x ++ y) (ap (λ o. serialized s o below) (tag_is R n row at.0))
      (ap₂ (λ x y. x ++ y) (none to) (print_none s R (n + 1) end to (omega (arith, last))))
      ∙ append-nil (serialized s None below)

  inner-void : (s : Bool) (n : ℕ) (p : Place) → Located R n p → is_void_at R n ≡ true → inner_of s p ≡ []
  inner-void s n (a_node T no_trees) h v = refl
  inner-void s n (a_node T (text bytes more)) h v = refl
  inner-void s n (a_node T (comment bytes more)) h v = refl
  inner-void s n (a_node T (doctype own more)) h v = refl
  inner-void s n (a_node T (element tag below more)) h v =
      let b = has_contents tag in
      let to = n + contents_count b + 1 + row_count below in
      let row = element_row tag h.0 to in
      let at = row_here R n row _ h.2 in
      if-true (is_void tag) [] _ (sym (ap (λ o. unwrap_or (option_map is_void o) false) (tag_is R n row at.0)) ∙ v)
  inner-void s n (the_contents below) h v =
      let row = contents_row h.0 (n + 1 + row_count below) in
      let at = row_here R n row _ h.2 in
      let not : false ≡ true = sym (ap (λ o. unwrap_or (option_map is_void o) false) (tag_is R n row at.0)) ∙ v in
      cc

-- Of the rows of any trees

some-some : {X Y : Type 0} (xs : List X) (ys : List Y) (i : ℕ) (x : X) → length xs ≡ length ys → slice_get xs i ≡ Some x → (y : Y) × (slice_get ys i ≡ Some y)
some-some [] ys i x e is = absurd (none-some x is)
some-some (z ∷ xs) [] i x e is = absurd (omega (arith, e))
some-some (z ∷ xs) (y ∷ ys) zero x e is = (y, refl)
some-some (z ∷ xs) (y ∷ ys) (suc i) x e is = some-some xs ys i x (omega (arith, e)) is

none-none : {X Y : Type 0} (xs : List X) (ys : List Y) (i : ℕ) → length xs ≡ length ys → slice_get xs i ≡ None → slice_get ys i ≡ None
none-none [] [] i e is = refl
none-none [] (y ∷ ys) i e is = absurd (omega (arith, e))
none-none (z ∷ xs) [] i e is = absurd (omega (arith, e))
none-none (z ∷ xs) (y ∷ ys) zero e is = absurd (none-some z (sym is))
none-none (z ∷ xs) (y ∷ ys) (suc i) e is = none-none xs ys i (omega (arith, e)) is

as-many : (trees : HtmlForest) → length (rows_of trees) ≡ length (places None trees)
as-many trees = row_numbers trees ∙ sym (places-length None trees)

are-up : (trees : HtmlForest) → AreUp (rows_of trees)
are-up trees n row p at is = parent_before trees n row p at is

row-cases : (o : Option Row) → (o ≡ None) ⊎ ((row : Row) × (o ≡ Some row))
row-cases None = inl refl
row-cases (Some row) = inr (row, refl)

-- the place of a row
placed : (trees : HtmlForest) (n : ℕ) (row : Row) → slice_get (rows_of trees) n ≡ Some row → (p : Place) × (slice_get (places None trees) n ≡ Some p) × Located (rows_of trees) n p
placed trees n row at =
    let R = rows_of trees in
    let found = some-some R (places None trees) n row (as-many trees) at in
    let all = located R (are-up trees) trees 0 None None [] (sym (append-nil R)) refl in
    (found.0, found.1, subst (λ v. Located R v found.0) (zero-add n) (located-at R 0 n (places None trees) found.0 all found.1))

end-row : (o : Option Row) (end : ℕ) → option_map (λ (row : Row). row.end) o ≡ Some end → (row : Row) × (o ≡ Some row)
end-row None end e = absurd (none-some end e)
end-row (Some row) end e = (row, refl)

pub outer_found : (s : Bool) (trees : HtmlForest) (n end : ℕ) → end_at (rows_of trees) n ≡ Some end → printed s (rows_of trees) n end ≡ outer_at s trees n
outer_found s trees n end e =
    let row = end-row (slice_get (rows_of trees) n) end e in
    let place = placed trees n row.0 row.1 in
    outer-printed (rows_of trees) (are-up trees) s n end place.0 place.2 e
    ∙ ap (λ o. unwrap_or (option_map (outer_of s) o) []) (sym place.1)

missing : (trees : HtmlForest) (n : ℕ) → end_at (rows_of trees) n ≡ None → slice_get (places None trees) n ≡ None
missing trees n e = elim (row-cases (slice_get (rows_of trees) n)) [
  | inl none ↦ none-none (rows_of trees) (places None trees) n (as-many trees) none
  | inr some ↦ absurd (none-some some.0.end (sym e ∙ ap (option_map (λ (row : Row). row.end)) some.1))
]

pub outer_none : (s : Bool) (trees : HtmlForest) (n : ℕ) → end_at (rows_of trees) n ≡ None → outer_at s trees n ≡ []
outer_none s trees n e = ap (λ o. unwrap_or (option_map (outer_of s) o) []) (missing trees n e)

pub inner_found : (s : Bool) (trees : HtmlForest) (n first end : ℕ) → is_void_at (rows_of trees) n ≡ false → first_child_at (rows_of trees) n ≡ Some first → end_at (rows_of trees) n ≡ Some end → printed s (rows_of trees) first end ≡ inner_at s trees n
inner_found s trees n first end v f e =
    let R = rows_of trees in
    let row = end-row (slice_get R n) end e in
    let place = placed trees n row.0 row.1 in
    let next : n + 1 ≡ first = child-next (nat_lt (n + 1) row.0.end) (n + 1) first (sym (ap (option_and_then (λ (row : Row). if nat_lt (n + 1) row.end then Some (n + 1) else None)) row.1) ∙ f) in
    ap (λ k. printed s R k end) (sym next)
    ∙ inner-printed R (are-up trees) s n end place.0 place.2 v e
    ∙ ap (λ o. unwrap_or (option_map (inner_of s) o) []) (sym place.1)
  where
    child-next : (b : Bool) (next first : ℕ) → (if b then Some next else None) ≡ Some first → next ≡ first
    child-next true next first e = same_Some next first e
    child-next false next first e = absurd (none-some first e)

pub inner_void : (s : Bool) (trees : HtmlForest) (n : ℕ) → is_void_at (rows_of trees) n ≡ true → inner_at s trees n ≡ []
inner_void s trees n v = elim (row-cases (slice_get (rows_of trees) n)) [
  | inl none ↦ ap (λ o. unwrap_or (option_map (inner_of s) o) []) (none-none (rows_of trees) (places None trees) n (as-many trees) none)
  | inr some ↦
      let place = placed trees n some.0 some.1 in
      ap (λ o. unwrap_or (option_map (inner_of s) o) []) place.1
      ∙ inner-void (rows_of trees) (are-up trees) s n place.0 place.2 v
]

pub inner_none : (s : Bool) (trees : HtmlForest) (n : ℕ) → is_void_at (rows_of trees) n ≡ false → first_child_at (rows_of trees) n ≡ None → inner_at s trees n ≡ []
inner_none s trees n v f = elim (row-cases (slice_get (rows_of trees) n)) [
  | inl none ↦ ap (λ o. unwrap_or (option_map (inner_of s) o) []) (none-none (rows_of trees) (places None trees) n (as-many trees) none)
  | inr some ↦
      let R = rows_of trees in
      let row = some.0 in
      let place = placed trees n row some.1 in
      let childless : row.end ≤ n + 1 = no-child (n + 1) row.end (sym (ap (option_and_then (λ (row : Row). if nat_lt (n + 1) row.end then Some (n + 1) else None)) some.1) ∙ f) in
      ap (λ o. unwrap_or (option_map (inner_of s) o) []) place.1
      ∙ sym (inner-printed R (are-up trees) s n row.end place.0 place.2 v (ap (option_map (λ (row : Row). row.end)) some.1))
      ∙ print_none s R (n + 1) row.end (n + 1) childless
]
  where
    no-child : (next end : ℕ) → (if nat_lt next end then Some next else None) ≡ None → end ≤ next
    no-child next end e = elim (cases_lt next end) as (λ _. end ≤ next) [
      | inl less ↦ absurd (none-some next (sym e ∙ if-true (nat_lt next end) (Some next) None (lt-ltb next end less)))
      | inr more ↦ more
    ]

pub document_found : (s : Bool) (trees : HtmlForest) → printed s (rows_of trees) 0 (length (rows_of trees)) ≡ serialized s None trees
document_found s trees =
    let R = rows_of trees in
    let all = row_numbers trees in
    let count : 0 + row_count trees ≡ length R = omega (arith, all) in
    trees_printed s R (are-up trees) 0 (length R) trees 0 None [] (sym (append-nil R)) (le_refl 0) (omega (arith, count)) (λ next a b. refl)
    ∙ ap (λ x. serialized s None trees ++ x) (print_none s R 0 (length R) (0 + row_count trees) (omega (arith, count)))
    ∙ append-nil (serialized s None trees)
