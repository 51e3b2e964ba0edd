-- Rows in rows with marks, by what is known of those before them.
use Rattle.std.proofs.Common.{Bool, List, None, Option, Some, [], ap, arith, false, get_or, inl, inr, length, length-append, refl, slice_get, sym, true, zero, suc, ℕ, ◌+◌, ◌||◌, ◌<◌, ◌∙◌, ◌≡◌, ◌≤◌, ◌∷◌}
use Rattle.std.proofs.lemmas.Bool.{cases_lt}
use Rattle.std.proofs.lemmas.List.{get_or_append_left, get_or_at}
use Rattle.std.specs.List.{list_any}
use Rattle.std.specs.Option.{option_and_then, unwrap_or}
use Rattle.tl_answers.specs.Inner.Within.{withins_before}
use Rattle.tl_answers.specs.LeftOut.{is_within, marks_in}
use Rattle.tl_tree.proofs.Walked.{ancestors-step}
use Rattle.tl_tree.specs.Asked.{ancestors_up_from, parent_at}
use Rattle.tl_tree.specs.Rows.{Row}
use Rattle.tl_tree.specs.TreeView.{rows_in}
use Rattle.tl_tree.specs.declared.tree.Tree.{Tree}
use Rattle.tl_tree_extract.proofs.Depths.{parent_before}
use Rattle.tl_tree_extract.specs.Boxes.{is_left_out}
use Rattle.tl_tree_extract.specs.Marks.{is_listed, marks_of}

-- Those before it

pub withins_count : (marks : List Bool) (rows : List Row) (n : ℕ) → length (withins_before marks rows n) ≡ n
withins_count marks rows zero = refl
withins_count marks rows (suc n) =
    let h = withins_count marks rows n in
    let a = length-append (withins_before marks rows n) (is_within marks rows n ∷ []) in
    omega (arith, a, h)

pub withins_got : (marks : List Bool) (rows : List Row) (n p : ℕ) (d : Bool) → p < n → get_or (withins_before marks rows n) p d ≡ is_within marks rows p
withins_got marks rows zero p d l = absurd (let g : ⊥ = omega (arith, l) in g)
withins_got marks rows (suc n) p d l =
    let count = withins_count marks rows n in
    elim (cases_lt p n) as (λ _. get_or (withins_before marks rows (suc n)) p d ≡ is_within marks rows p) [
      | inl lt ↦ get_or_append_left (withins_before marks rows n) (is_within marks rows n ∷ []) d p (omega (arith, lt, count)) ∙ withins_got marks rows n p d lt
      | inr ge ↦ (
          let same : p ≡ n = omega (arith, ge, l) in
          get_or_at (withins_before marks rows n) (is_within marks rows n) [] d p (count ∙ sym same) ∙ ap (is_within marks rows) (sym same))
    ]

got : (xs : List Bool) (n : ℕ) → is_left_out xs n ≡ get_or xs n false
got [] n = refl
got (x ∷ xs) zero = refl
got (x ∷ xs) (suc n) = got xs n

-- One row

or_false : (b : Bool) → b || false ≡ b
or_false true = refl
or_false false = refl

-- it is where the one is that it stands in, or has a mark
pub within_outer : (t : Tree) (marks known : List Bool) (n p : ℕ) → known ≡ withins_before marks (rows_in t) n → parent_at (rows_in t) n ≡ Some p
    → is_left_out marks n || is_left_out known p ≡ is_within marks (rows_in t) n
within_outer t marks known n p e up =
    let rows : List Row = rows_in t in
    let before : p < n = parent_before t n p up in
    let outer : is_left_out known p ≡ is_within marks rows p =
    ap (λ (v : List Bool). is_left_out v p) e ∙ got (withins_before marks rows n) p ∙ withins_got marks rows n p false before in
    ap (λ (b : Bool). is_left_out marks n || b) outer
    ∙ sym (ap (λ (up : List ℕ). list_any (is_left_out marks) (n ∷ up)) (ancestors-step t p (parent_at rows n) up))

pub within_none : (rows : List Row) (marks : List Bool) (n : ℕ) → parent_at rows n ≡ None → is_left_out marks n ≡ is_within marks rows n
within_none rows marks n e =
    sym (ap (λ (o : Option ℕ). list_any (is_left_out marks) (n ∷ ancestors_up_from rows o)) e ∙ or_false (is_left_out marks n))

none_within : (rows : List Row) (marks : List Bool) (n : ℕ) → is_left_out marks n ≡ false → parent_at rows n ≡ None → is_within marks rows n ≡ false
none_within rows marks n none e = sym (within_none rows marks n e) ∙ none

-- All

got_past : {X : Type 0} (xs : List X) (n : ℕ) → length xs ≤ n → slice_get xs n ≡ None
got_past [] n le = refl
got_past (x ∷ xs) zero le = absurd (let g : ⊥ = omega (arith, le) in g)
got_past (x ∷ xs) (suc n) le = got_past xs n (omega (arith, le))

marks_count : (ns : List ℕ) (n : ℕ) → length (marks_of ns n) ≡ n
marks_count ns zero = refl
marks_count ns (suc n) =
    let h = marks_count ns n in
    let a = length-append (marks_of ns n) (is_listed ns n ∷ []) in
    omega (arith, a, h)

marks_few : (rows : List Row) (ns : List ℕ) → length (marks_in rows ns) ≤ length rows
marks_few rows [] = omega arith
marks_few rows (n ∷ ns) = let h = marks_count (n ∷ ns) (length rows) in omega (arith, h)

no_mark : (marks : List Bool) (n : ℕ) → length marks ≤ n → is_left_out marks n ≡ false
no_mark marks n le = ap (λ (o : Option Bool). unwrap_or o false) (got_past marks n le)

-- what is known of all rows says it of each number
pub all_within : (rows : List Row) (ns : List ℕ) (n : ℕ) → is_left_out (withins_before (marks_in rows ns) rows (length rows)) n ≡ is_within (marks_in rows ns) rows n
all_within rows ns n =
    let marks = marks_in rows ns in
    let all = withins_before marks rows (length rows) in
    let count = withins_count marks rows (length rows) in
    let few = marks_few rows ns in
    elim (cases_lt n (length rows)) as (λ _. is_left_out all n ≡ is_within marks rows n) [
      | inl lt ↦ got all n ∙ withins_got marks rows (length rows) n false lt
      | inr ge ↦ (
          let none : parent_at rows n ≡ None = ap (option_and_then (λ (row : Row). row.parent)) (got_past rows n (omega (arith, ge))) in
          no_mark all n (omega (arith, count, ge)) ∙ sym (none_within rows marks n (no_mark marks n (omega (arith, few, ge))) none))
    ]
