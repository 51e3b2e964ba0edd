-- The rows of trees: their numbers, their ends, and the rows that they stand in.
use Rattle.std.proofs.Common.{List, Option, Some, None, [], arith, length, subst, sym, ap, ◌∙◌, suc, zero, ℕ, ◌+◌, ◌++◌, ◌<◌, ◌≤◌, ◌≡◌, ◌∷◌, ◌⊎◌, refl, inl, inr, length-append, append_assoc}
use Rattle.std.proofs.lemmas.Bool.{cases_lt}
use Rattle.std.specs.Prelude.{Bool, false, slice_get, true}
use Rattle.tl_dom_spec.specs.HtmlForest.{HtmlForest, comment, doctype, element, has_contents, no_trees, text}
use Rattle.tl_dom_spec.specs.Tags.{Tag}
use Rattle.tl_tree.specs.Rows.{IsBelow, IsInRange, Node, Row, a_comment, a_doctype, a_text, an_element, contents, contents_count, contents_rows, lone_row, row_count, rows_from, rows_of, stands_below, stands_in}
use Rattle.tl_tree.proofs.RowLists.{EachPair, EachRow, each-append, each-at, each-weaken, pair-append, pair-at}

-- How many there are

pub contents-length : (b : Bool) (number end : ℕ) → length (contents_rows b number end) ≡ contents_count b
contents-length true number end = refl
contents-length false number end = refl

pub rows-length : (number : ℕ) (parent : Option ℕ) (trees : HtmlForest) → length (rows_from number parent trees) ≡ row_count trees
rows-length number parent no_trees = refl
rows-length number parent (text bytes more) = let h = rows-length (number + 1) parent more in omega (arith, h)
rows-length number parent (comment bytes more) = let h = rows-length (number + 1) parent more in omega (arith, h)
rows-length number parent (doctype own more) = let h = rows-length (number + 1) parent more in omega (arith, h)
rows-length number parent (element tag below more) =
    let b = has_contents tag in
    let inner = number + contents_count b in
    let end = inner + 1 + row_count below in
    let front = contents-length b number end in
    let mid = rows-length (inner + 1) (Some inner) below in
    let back = rows-length end parent more in
    let outer = length-append (contents_rows b number end) (rows_from (inner + 1) (Some inner) below ++ rows_from end parent more) in
    let later = length-append (rows_from (inner + 1) (Some inner) below) (rows_from end parent more) in
    omega (arith, front, mid, back, outer, later)

pub row_numbers : (trees : HtmlForest) → length (rows_of trees) ≡ row_count trees
row_numbers trees = rows-length 0 None trees

-- Where each stands, and where it ends

-- a row among those from a number to another one, in a parent
pub record Within (parent : Option ℕ) (from to i : ℕ) (row : Row) : Type 0 where
  pub begins : from ≤ i
  pub reaches : i < row.end
  pub ends : row.end ≤ to
  -- it stands in the parent, or in one of them
  pub stands : (row.parent ≡ parent) ⊎ ((p : ℕ) × (row.parent ≡ Some p) × (from ≤ p))
  -- and that one comes before it
  pub above : (p : ℕ) → row.parent ≡ Some p → p < i

abbrev pub ComesBefore : Option ℕ → ℕ → Type 0
ComesBefore parent number = (p : ℕ) → parent ≡ Some p → p < number

some-same : (a b : ℕ) → Some a ≡ Some b → a ≡ b
some-same a b e = cc

-- later ones of the same parent
more-within : (parent : Option ℕ) (a b to i : ℕ) (row : Row) → a ≤ b → Within parent b to i row → Within parent a to i row
more-within parent a b to i row l w = record {
  begins = let h = w.begins in omega (arith, h, l);
  reaches = w.reaches;
  ends = w.ends;
  stands = elim w.stands as (λ _. (row.parent ≡ parent) ⊎ ((p : ℕ) × (row.parent ≡ Some p) × (a ≤ p))) [
    | inl e ↦ inl e
    | inr s ↦ inr (s.0, s.1, let h = s.2 in omega (arith, h, l))
  ];
  above = w.above;
}

-- those that stand in a row between
below-within : (parent : Option ℕ) (from inner end to i : ℕ) (row : Row) → from ≤ inner → end ≤ to → Within (Some inner) (inner + 1) end i row → Within parent from to i row
below-within parent from inner end to i row l m w = record {
  begins = let h = w.begins in omega (arith, h, l);
  reaches = w.reaches;
  ends = let h = w.ends in omega (arith, h, m);
  stands = elim w.stands as (λ _. (row.parent ≡ parent) ⊎ ((p : ℕ) × (row.parent ≡ Some p) × (from ≤ p))) [
    | inl e ↦ inr (inner, e, l)
    | inr s ↦ inr (s.0, s.1, let h = s.2 in omega (arith, h, l))
  ];
  above = w.above;
}

-- that of the contents, of the element of a number
contents-within : (b : Bool) (parent : Option ℕ) (number count to : ℕ) → number + contents_count b + 1 + count ≤ to → EachRow (Within parent number to) (number + 1) (contents_rows b number (number + contents_count b + 1 + count))
contents-within false parent number count to m = tt
contents-within true parent number count to m = (
  record {
    begins = omega arith;
    reaches = omega arith;
    ends = m;
    stands = inr (number, refl, omega arith);
    above = λ p e. (let h = some-same number p e in omega (arith, h));
  },
  tt,
)

before-next : (parent : Option ℕ) (a b : ℕ) → a ≤ b → ComesBefore parent a → ComesBefore parent b
before-next parent a b l h p e = let k = h p e in omega (arith, k, l)

-- a row of its own, and then others
lone-within : (parent : Option ℕ) (number count : ℕ) (node : Node) → ComesBefore parent number → Within parent number (number + (1 + count)) number (lone_row number parent node)
lone-within parent number count node before = record {
  begins = omega arith;
  reaches = omega arith;
  ends = omega arith;
  stands = inl refl;
  above = before;
}

lone-more : (number : ℕ) (parent : Option ℕ) (trees : HtmlForest) → EachRow (Within parent (number + 1) (number + 1 + row_count trees)) (number + 1) (rows_from (number + 1) parent trees) → EachRow (Within parent number (number + (1 + row_count trees))) (number + 1) (rows_from (number + 1) parent trees)
lone-more number parent trees h =
    let to : number + 1 + row_count trees ≡ number + (1 + row_count trees) = omega arith in
    subst (λ v. EachRow (Within parent number v) (number + 1) (rows_from (number + 1) parent trees)) to
    (each-weaken (Within parent (number + 1) (number + 1 + row_count trees)) (Within parent number (number + 1 + row_count trees)) (number + 1) (rows_from (number + 1) parent trees)
    (λ i row. more-within parent number (number + 1) (number + 1 + row_count trees) i row (omega arith)) h)

pub rows-within : (number : ℕ) (parent : Option ℕ) (trees : HtmlForest) → ComesBefore parent number → EachRow (Within parent number (number + row_count trees)) number (rows_from number parent trees)
rows-within number parent no_trees before = tt
rows-within number parent (text bytes more) before = (
  lone-within parent number (row_count more) (a_text bytes) before,
  lone-more number parent more (rows-within (number + 1) parent more (before-next parent number (number + 1) (omega arith) before)),
)
rows-within number parent (comment bytes more) before = (
  lone-within parent number (row_count more) (a_comment bytes) before,
  lone-more number parent more (rows-within (number + 1) parent more (before-next parent number (number + 1) (omega arith) before)),
)
rows-within number parent (doctype own more) before = (
  lone-within parent number (row_count more) (a_doctype own) before,
  lone-more number parent more (rows-within (number + 1) parent more (before-next parent number (number + 1) (omega arith) before)),
)
rows-within number parent (element tag below more) before =
    let b = has_contents tag in
    let inner = number + contents_count b in
    let end = inner + 1 + row_count below in
    let to = number + (1 + contents_count b + row_count below + row_count more) in
    let front = contents-length b number end in
    let mid = rows-length (inner + 1) (Some inner) below in
    let self-end : number < end = omega arith in
    let ends : end ≤ to = omega arith in
    let last : end + row_count more ≡ to = omega arith in
    let second : inner + 1 ≡ number + 1 + length (contents_rows b number end) = omega (arith, front) in
    let third : end ≡ inner + 1 + length (rows_from (inner + 1) (Some inner) below) = omega (arith, mid) in
    let inner-before : ComesBefore (Some inner) (inner + 1) = λ p e. (let h = some-same inner p e in omega (arith, h)) in (
      record { begins = omega arith; reaches = self-end; ends = ends; stands = inl refl; above = before },
      each-append (Within parent number to) (number + 1) (inner + 1) (contents_rows b number end) (rows_from (inner + 1) (Some inner) below ++ rows_from end parent more) second
          (contents-within b parent number (row_count below) to ends)
          (each-append (Within parent number to) (inner + 1) end (rows_from (inner + 1) (Some inner) below) (rows_from end parent more) third
          (each-weaken (Within (Some inner) (inner + 1) end) (Within parent number to) (inner + 1) (rows_from (inner + 1) (Some inner) below) (λ i row. below-within parent number inner end to i row (omega arith) ends) (rows-within (inner + 1) (Some inner) below inner-before))
          (subst (λ v. EachRow (Within parent number v) end (rows_from end parent more)) last
          (each-weaken (Within parent end (end + row_count more)) (Within parent number (end + row_count more)) end (rows_from end parent more) (λ i row. more-within parent number end (end + row_count more) i row (omega (arith, self-end))) (rows-within end parent more (before-next parent number end (omega (arith, self-end)) before))))),
    )

-- Each two of them

-- a row that stands behind another one: behind what is below that one, or below it
pub data Seen (i : ℕ) (one : Row) (j : ℕ) (other : Row) : Type 0 where
  apart : one.end ≤ j → (other.parent ≡ Some i → ⊥) → Seen i one j other
  inside : j < one.end → other.end ≤ one.end → (p : ℕ) → other.parent ≡ Some p → i ≤ p → Seen i one j other

-- those below a row are inside of it
below-seen : (from inner end i : ℕ) (one : Row) (j : ℕ) (other : Row) → i ≤ inner → end ≤ one.end → Within (Some inner) from end j other → inner < from → Seen i one j other
below-seen from inner end i one j other l m w k =
    let reaches = w.reaches in
    let ends = w.ends in
    elim w.stands as (λ _. Seen i one j other) [
      | inl e ↦ inside (omega (arith, reaches, ends, m)) (omega (arith, ends, m)) inner e l
      | inr s ↦ let h = s.2 in inside (omega (arith, reaches, ends, m)) (omega (arith, ends, m)) s.0 s.1 (omega (arith, h, k, l))
    ]

-- those behind a row's end are apart from it
behind-seen : (parent : Option ℕ) (number end to i : ℕ) (one : Row) (j : ℕ) (other : Row) → ComesBefore parent number → number ≤ i → i < end → one.end ≤ end → Within parent end to j other → Seen i one j other
behind-seen parent number end to i one j other before l m k w =
    let begins = w.begins in
    apart (omega (arith, begins, k))
    (λ e. elim w.stands as (λ _. ⊥) [
      | inl same ↦ let h = before i (sym same ∙ e) in omega (arith, h, l)
      | inr s ↦ let h = some-same i s.0 (sym e ∙ s.1) in let o = s.2 in omega (arith, h, o, m)
    ])

lone-seen : (number : ℕ) (parent : Option ℕ) (node : Node) (trees : HtmlForest) → ComesBefore parent number → EachRow (Seen number (lone_row number parent node)) (number + 1) (rows_from (number + 1) parent trees)
lone-seen number parent node trees before =
    each-weaken (Within parent (number + 1) (number + 1 + row_count trees)) (Seen number (lone_row number parent node)) (number + 1) (rows_from (number + 1) parent trees)
    (λ j other. behind-seen parent number (number + 1) (number + 1 + row_count trees) number (lone_row number parent node) j other before (omega arith) (omega arith) (omega arith))
    (rows-within (number + 1) parent trees (before-next parent number (number + 1) (omega arith) before))

own-before : (inner : ℕ) → ComesBefore (Some inner) (inner + 1)
own-before inner p e = let h = some-same inner p e in omega (arith, h)

-- what is in an element, its contents first
inside-seen : (b : Bool) (number : ℕ) (below : HtmlForest) → EachPair Seen (number + contents_count b + 1) (rows_from (number + contents_count b + 1) (Some (number + contents_count b)) below) → EachPair Seen (number + 1) (contents_rows b number (number + contents_count b + 1 + row_count below) ++ rows_from (number + contents_count b + 1) (Some (number + contents_count b)) below)
inside-seen false number below h =
    let same : number + 0 + 1 ≡ number + 1 = omega arith in
    subst (λ v. EachPair Seen v (rows_from (number + 0 + 1) (Some (number + 0)) below)) same h
inside-seen true number below h = (
  each-weaken (Within (Some (number + 1)) (number + 1 + 1) (number + 1 + 1 + row_count below)) (Seen (number + 1) (record { node = contents; parent = Some number; end = number + 1 + 1 + row_count below })) (number + 1 + 1) (rows_from (number + 1 + 1) (Some (number + 1)) below)
      (λ j other w. below-seen (number + 1 + 1) (number + 1) (number + 1 + 1 + row_count below) (number + 1) (record { node = contents; parent = Some number; end = number + 1 + 1 + row_count below }) j other (omega arith) (omega arith) w (omega arith))
      (rows-within (number + 1 + 1) (Some (number + 1)) below (own-before (number + 1))),
  h,
)

-- that of the contents stands in the element
contents-inside : (b : Bool) (number count : ℕ) → EachRow (Within (Some number) (number + 1) (number + contents_count b + 1 + count)) (number + 1) (contents_rows b number (number + contents_count b + 1 + count))
contents-inside false number count = tt
contents-inside true number count = (
  record {
    begins = omega arith;
    reaches = omega arith;
    ends = omega arith;
    stands = inl refl;
    above = λ p e. (let h = some-same number p e in omega (arith, h));
  },
  tt,
)

-- and those below stand in it, or in its contents
inside-rows : (b : Bool) (number : ℕ) (below : HtmlForest) → EachRow (Within (Some (number + contents_count b)) (number + contents_count b + 1) (number + contents_count b + 1 + row_count below)) (number + contents_count b + 1) (rows_from (number + contents_count b + 1) (Some (number + contents_count b)) below) → EachRow (Within (Some number) (number + 1) (number + contents_count b + 1 + row_count below)) (number + contents_count b + 1) (rows_from (number + contents_count b + 1) (Some (number + contents_count b)) below)
inside-rows true number below h =
    let end = number + 1 + 1 + row_count below in
    each-weaken (Within (Some (number + 1)) (number + 1 + 1) end) (Within (Some number) (number + 1) end) (number + 1 + 1) (rows_from (number + 1 + 1) (Some (number + 1)) below)
    (λ i row. below-within (Some number) (number + 1) (number + 1) end end i row (omega arith) (omega arith)) h
inside-rows false number below h =
    let end = number + 0 + 1 + row_count below in
    let same : number + 0 ≡ number = omega arith in
    let next : number + 0 + 1 ≡ number + 1 = omega arith in
    subst (λ v. EachRow (Within (Some v) (number + 1) end) (number + 0 + 1) (rows_from (number + 0 + 1) (Some (number + 0)) below)) same
    (subst (λ v. EachRow (Within (Some (number + 0)) v end) (number + 0 + 1) (rows_from (number + 0 + 1) (Some (number + 0)) below)) next h)

-- and within what it is
inside-within : (b : Bool) (number : ℕ) (below : HtmlForest) → EachRow (Within (Some number) (number + 1) (number + contents_count b + 1 + row_count below)) (number + 1) (contents_rows b number (number + contents_count b + 1 + row_count below) ++ rows_from (number + contents_count b + 1) (Some (number + contents_count b)) below)
inside-within b number below =
    let inner = number + contents_count b in
    let end = inner + 1 + row_count below in
    let front = contents-length b number end in
    let second : inner + 1 ≡ number + 1 + length (contents_rows b number end) = omega (arith, front) in
    each-append (Within (Some number) (number + 1) end) (number + 1) (inner + 1) (contents_rows b number end) (rows_from (inner + 1) (Some inner) below) second
    (contents-inside b number (row_count below))
    (inside-rows b number below (rows-within (inner + 1) (Some inner) below (own-before inner)))

-- an element, what is in it, and what is behind it
element-seen : (b : Bool) (number : ℕ) (parent : Option ℕ) (tag : Tag) (below more : HtmlForest) → ComesBefore parent number →
    EachPair Seen (number + contents_count b + 1) (rows_from (number + contents_count b + 1) (Some (number + contents_count b)) below) →
    EachPair Seen (number + contents_count b + 1 + row_count below) (rows_from (number + contents_count b + 1 + row_count below) parent more) →
    EachPair Seen number
    (record { node = an_element tag; parent = parent; end = number + contents_count b + 1 + row_count below }
    ∷ (contents_rows b number (number + contents_count b + 1 + row_count below)
    ++ (rows_from (number + contents_count b + 1) (Some (number + contents_count b)) below ++ rows_from (number + contents_count b + 1 + row_count below) parent more)))
element-seen b number parent tag below more before h k =
    let inner = number + contents_count b in
    let end = inner + 1 + row_count below in
    let own : Row = record { node = an_element tag; parent = parent; end = end } in
    let in-rows = contents_rows b number end ++ rows_from (inner + 1) (Some inner) below in
    let later = rows_from end parent more in
    let front = contents-length b number end in
    let mid = rows-length (inner + 1) (Some inner) below in
    let both = length-append (contents_rows b number end) (rows_from (inner + 1) (Some inner) below) in
    let place : end ≡ number + 1 + length in-rows = omega (arith, front, mid, both) in
    let later-within = rows-within end parent more (before-next parent number end (omega arith) before) in
    let behind : (i : ℕ) (row : Row) → number ≤ i → i < end → row.end ≤ end → EachRow (Seen i row) end later
    = λ i row l m o. each-weaken (Within parent end (end + row_count more)) (Seen i row) end later (λ j other. behind-seen parent number end (end + row_count more) i row j other before l m o) later-within in
    let seen-inside = inside-within b number below in
    let whole : EachPair Seen number ((own ∷ in-rows) ++ later)
    = pair-append Seen number end (own ∷ in-rows) later (omega (arith, place))
    (each-weaken (Within (Some number) (number + 1) end) (Seen number own) (number + 1) in-rows (λ j other w. below-seen (number + 1) number end number own j other (omega arith) (omega arith) w (omega arith)) seen-inside, inside-seen b number below h)
    k (
      behind number own (omega arith) (omega arith) (omega arith),
      each-weaken (Within (Some number) (number + 1) end) (λ i row. EachRow (Seen i row) end later) (number + 1) in-rows (λ i row w. (let begins = w.begins in let reaches = w.reaches in let ends = w.ends in behind i row (omega (arith, begins)) (omega (arith, reaches, ends)) ends)) seen-inside,
    ) in
    subst (λ v. EachPair Seen number (own ∷ v)) (append_assoc (contents_rows b number end) (rows_from (inner + 1) (Some inner) below) later) whole

pub rows-seen : (number : ℕ) (parent : Option ℕ) (trees : HtmlForest) → ComesBefore parent number → EachPair Seen number (rows_from number parent trees)
rows-seen number parent no_trees before = tt
rows-seen number parent (text bytes more) before =
    (lone-seen number parent (a_text bytes) more before, rows-seen (number + 1) parent more (before-next parent number (number + 1) (omega arith) before))
rows-seen number parent (comment bytes more) before =
    (lone-seen number parent (a_comment bytes) more before, rows-seen (number + 1) parent more (before-next parent number (number + 1) (omega arith) before))
rows-seen number parent (doctype own more) before =
    (lone-seen number parent (a_doctype own) more before, rows-seen (number + 1) parent more (before-next parent number (number + 1) (omega arith) before))
rows-seen number parent (element tag below more) before =
    element-seen (has_contents tag) number parent tag below more before
    (rows-seen (number + contents_count (has_contents tag) + 1) (Some (number + contents_count (has_contents tag))) below (own-before (number + contents_count (has_contents tag))))
    (rows-seen (number + contents_count (has_contents tag) + 1 + row_count below) parent more (before-next parent number (number + contents_count (has_contents tag) + 1 + row_count below) (omega arith) before))

-- The laws

pub get-some : (rows : List Row) (i : ℕ) → i < length rows → (row : Row) × (slice_get rows i ≡ Some row)
get-some [] i l = absurd (let f : ⊥ = omega (arith, l) in f)
get-some (row ∷ rows) zero l = (row, refl)
get-some (row ∷ rows) (suc i) l = get-some rows i (omega (arith, l))

get-below : (rows : List Row) (i : ℕ) (row : Row) → slice_get rows i ≡ Some row → i < length rows
get-below [] i row e = absurd (let f : ⊥ = cc in f)
get-below (x ∷ rows) zero row e = omega arith
get-below (x ∷ rows) (suc i) row e = let h = get-below rows i row e in omega (arith, h)

no-parent : (number : ℕ) → ComesBefore None number
no-parent number p e = absurd (let f : ⊥ = cc in f)

at-start : (trees : HtmlForest) (i : ℕ) (row : Row) → slice_get (rows_of trees) i ≡ Some row → Within None 0 (0 + row_count trees) i row
at-start trees i row e =
    let same : 0 + i ≡ i = omega arith in
    subst (λ v. Within None 0 (0 + row_count trees) v row) same
    (each-at (Within None 0 (0 + row_count trees)) 0 (rows_of trees) i row (rows-within 0 None trees (no-parent 0)) e)

both-at : (trees : HtmlForest) (i j : ℕ) (one other : Row) → i < j → slice_get (rows_of trees) i ≡ Some one → slice_get (rows_of trees) j ≡ Some other → Seen i one j other
both-at trees i j one other l e f =
    let same : 0 + i ≡ i = omega arith in
    let also : 0 + j ≡ j = omega arith in
    subst (λ v. Seen v one j other) same
    (subst (λ v. Seen (0 + i) one v other) also
    (pair-at Seen 0 (rows_of trees) i j one other (rows-seen 0 None trees (no-parent 0)) l e f))

pub row_end : (trees : HtmlForest) (i : ℕ) (row : Row) → slice_get (rows_of trees) i ≡ Some row → (i < row.end) × (row.end ≤ length (rows_of trees))
row_end trees i row e =
    let w = at-start trees i row e in
    let ends = w.ends in
    let count = row_numbers trees in
    (w.reaches, omega (arith, ends, count))

pub ranges_nest : (trees : HtmlForest) (i j : ℕ) (one other : Row) → i < j → slice_get (rows_of trees) i ≡ Some one → slice_get (rows_of trees) j ≡ Some other → (one.end ≤ j) ⊎ (other.end ≤ one.end)
ranges_nest trees i j one other l e f =
    elim (both-at trees i j one other l e f) as (λ _. (one.end ≤ j) ⊎ (other.end ≤ one.end)) [
      | apart m no_parent ↦ inl m
      | inside m n p same o ↦ inr n
    ]

pub parent_before : (trees : HtmlForest) (j : ℕ) (row : Row) (p : ℕ) → slice_get (rows_of trees) j ≡ Some row → row.parent ≡ Some p → p < j
parent_before trees j row p e same = (at-start trees j row e).above p same

pub parent_holds : (trees : HtmlForest) (j : ℕ) (row : Row) (p : ℕ) → slice_get (rows_of trees) j ≡ Some row → row.parent ≡ Some p → IsInRange (rows_of trees) p j
parent_holds trees j row p e same =
    let before = parent_before trees j row p e same in
    let below = get-below (rows_of trees) j row e in
    let got = get-some (rows_of trees) p (omega (arith, before, below)) in (
      got.0,
      got.1,
      before,
      elim (both-at trees p j got.0 row before got.1 e) as (λ _. j < got.0.end) [
        | apart m not_it ↦ absurd (not_it same)
        | inside m n q also o ↦ m
      ],
    )

pub parent_innermost : (trees : HtmlForest) (i j : ℕ) (row : Row) → slice_get (rows_of trees) j ≡ Some row → IsInRange (rows_of trees) i j → (p : ℕ) × (row.parent ≡ Some p) × (i ≤ p)
parent_innermost trees i j row e range =
    let ends = range.3 in
    elim (both-at trees i j range.0 row range.2 range.1 e) as (λ _. (p : ℕ) × (row.parent ≡ Some p) × (i ≤ p)) [
      | apart m not_it ↦ absurd (let f : ⊥ = omega (arith, m, ends) in f)
      | inside m n p same o ↦ (p, same, o)
    ]

pub below_range : (trees : HtmlForest) (outer i : ℕ) → IsBelow (rows_of trees) outer i → IsInRange (rows_of trees) outer i
below_range trees outer i (stands_in j row e same) = parent_holds trees j row outer e same
below_range trees outer i (stands_below j p row e same below) =
    let far = below_range trees outer p below in
    let near = parent_holds trees j row p e same in
    let first = far.2 in
    let second = near.2 in
    let own = near.3 in
    let reaches = far.3 in (
      far.0,
      far.1,
      omega (arith, first, second),
      elim (ranges_nest trees outer p far.0 near.0 first far.1 near.1) as (λ _. j < far.0.end) [
        | inl m ↦ absurd (let f : ⊥ = omega (arith, m, reaches) in f)
        | inr m ↦ omega (arith, m, own)
      ],
    )

below-found : (trees : HtmlForest) (outer : ℕ) (bound i : ℕ) → i ≤ bound → IsInRange (rows_of trees) outer i → IsBelow (rows_of trees) outer i
below-found trees outer zero i l range = absurd (let h = range.2 in let f : ⊥ = omega (arith, h, l) in f)
below-found trees outer (suc bound) i l range =
    let far = range.2 in
    let reaches = range.3 in
    let ends = (row_end trees outer range.0 range.1).1 in
    let got = get-some (rows_of trees) i (omega (arith, reaches, ends)) in
    let up = parent_innermost trees outer i got.0 got.1 range in
    let before = parent_before trees i got.0 up.0 got.1 up.1 in
    let not_above = up.2 in
    elim (cases_lt outer up.0) as (λ _. IsBelow (rows_of trees) outer i) [
      | inl m ↦ stands_below i up.0 got.0 got.1 up.1 (below-found trees outer bound up.0 (omega (arith, before, l)) (range.0, range.1, m, omega (arith, before, reaches)))
      | inr m ↦ stands_in i got.0 got.1 (let same : up.0 ≡ outer = omega (arith, m, not_above) in up.1 ∙ ap (λ v. Some v) same)
    ]

pub range_below : (trees : HtmlForest) (outer i : ℕ) → IsInRange (rows_of trees) outer i → IsBelow (rows_of trees) outer i
range_below trees outer i range = below-found trees outer i i (omega arith) range
