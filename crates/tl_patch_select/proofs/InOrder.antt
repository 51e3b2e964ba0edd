-- Rows that come from a page in its order.
use Rattle.std.proofs.Common.{None, Option, Some, ap, arith, inl, inr, length, subst, sym, ℕ, ◌+◌, ◌-◌, ◌<◌, ◌∙◌, ◌≡◌, ◌≤◌, true}
use Rattle.std.proofs.lemmas.Bool.{cases_Bool, ltb-false, ltb-true}
use Rattle.std.proofs.lemmas.Option.{none-some, same_Some}
use Rattle.std.specs.Prelude.{IfSome}
use Rattle.tl_patch_edit.specs.declared.reach.Stretch.{Stretch}
use Rattle.tl_patch_select.specs.Inner.InOrder.{AreInOrder, AreInOrderUpTo, BeginBehind, EndBefore}
use Rattle.tl_patch_select.specs.Selected.{place_of}
use Rattle.tl_patch_select.specs.Whole.{IsWholeBy}
use Rattle.tl_patch_select.proofs.Sources.{none_beyond}
use Rattle.tl_tree.specs.TreeView.{rows_in}
use Rattle.tl_tree.specs.declared.tree.Tree.{Tree}
use lib.Dec.{ltb}

pub no_rows_in_order : (places : ℕ → Option ℕ) → AreInOrderUpTo places 0 0
no_rows_in_order places = record {
  rises = λ row later at then l m e f. absurd (omega (arith, m));
  before = λ row at l e. absurd (omega (arith, l));
}

-- a row that comes from nowhere
pub row_from_nowhere : (places : ℕ → Option ℕ) (count past : ℕ) → places count ≡ None → AreInOrderUpTo places count past → AreInOrderUpTo places (count + 1) past
row_from_nowhere places count past none h = record {
  rises = λ row later at then l m e f. elim (cases_Bool (ltb later count)) [
    | inl y ↦ h.rises row later at then l (ltb-true later count y) e f
    | inr y ↦
        let k : count ≤ later = ltb-false later count y in
        let same : later ≡ count = omega (arith, m, k) in
        absurd (none-some then (sym none ∙ ap places (sym same) ∙ f))
  ];
  before = λ row at l e. elim (cases_Bool (ltb row count)) [
    | inl y ↦ h.before row at (ltb-true row count y) e
    | inr y ↦
        let k : count ≤ row = ltb-false row count y in
        let same : row ≡ count = omega (arith, l, k) in
        absurd (none-some at (sym none ∙ ap places (sym same) ∙ e))
  ];
}

-- a row that comes from a place behind the others
pub row_from_later : (places : ℕ → Option ℕ) (count past place : ℕ) → places count ≡ Some place → past ≤ place → AreInOrderUpTo places count past → AreInOrderUpTo places (count + 1) (place + 1)
row_from_later places count past place some behind h = record {
  rises = λ row later at then l m e f. elim (cases_Bool (ltb later count)) [
    | inl y ↦ h.rises row later at then l (ltb-true later count y) e f
    | inr y ↦
        let k : count ≤ later = ltb-false later count y in
        let same : later ≡ count = omega (arith, m, k) in
        let is : place ≡ then = same_Some place then (sym some ∙ ap places (sym same) ∙ f) in
        let r : row < count = omega (arith, l, same) in
        let b : at < past = h.before row at r e in
        omega (arith, b, behind, is)
  ];
  before = λ row at l e. elim (cases_Bool (ltb row count)) [
    | inl y ↦ (let b : at < past = h.before row at (ltb-true row count y) e in omega (arith, b, behind))
    | inr y ↦
        let k : count ≤ row = ltb-false row count y in
        let same : row ≡ count = omega (arith, l, k) in
        let is : place ≡ at = same_Some place at (sym some ∙ ap places (sym same) ∙ e) in
        omega (arith, is)
  ];
}

pub all_in_page_order : (places : ℕ → Option ℕ) (count past : ℕ) → ((row at : ℕ) → places row ≡ Some at → row < count) → AreInOrderUpTo places count past → AreInOrder places
all_in_page_order places count past within h = λ row later at then l e f. h.rises row later at then l (within later then f) e f

-- one more row
pub behind_row : (places : ℕ → Option ℕ) (row past place : ℕ) (o : Option ℕ) → places row ≡ Some place → IfSome o (λ next. next ≡ place + 1) → IfSome o (λ next. past ≤ place) →
    IfSome o (λ next. AreInOrderUpTo places row past → AreInOrderUpTo places (row + 1) next)
behind_row places row past place None e n l = tt
behind_row places row past place (Some next) e n l = λ h. subst (AreInOrderUpTo places (row + 1)) (sym n) (row_from_later places row past place e l h)

-- the rows of a tree
pub rows_in_order : (tree : Tree) (count past : ℕ) → length (rows_in tree) ≤ count → AreInOrderUpTo (place_of tree) count past → AreInOrder (place_of tree)
rows_in_order tree count past l h = all_in_page_order (place_of tree) count past (λ row at e. elim (cases_Bool (ltb row (length (rows_in tree)))) [
  | inl y ↦ (let m : row < length (rows_in tree) = ltb-true row (length (rows_in tree)) y in omega (arith, l, m))
  | inr y ↦ absurd (none-some at (sym (none_beyond tree row (ltb-false row (length (rows_in tree)) y)) ∙ e))
]) h

pub none_from : (tree : Tree) (row at : ℕ) → length (rows_in tree) ≤ row → place_of tree row ≡ Some at → ⊥
none_from tree row at l e = none-some at (sym (none_beyond tree row l) ∙ e)

-- the last row of a range that comes from a place, and what is left of the range

pub none_end : (places : ℕ → Option ℕ) (from end past : ℕ) → end ≤ from → EndBefore places from end past
none_end places from end past l = λ row at m k e. absurd (omega (arith, l, m, k))

pub last_ends : (places : ℕ → Option ℕ) (from end past last place : ℕ) → AreInOrder places → places last ≡ Some place → place < past → ((row at : ℕ) → last < row → row < end → places row ≡ Some at → ⊥) →
    EndBefore places from end past
last_ends places from end past last place rises some before none = λ row at m k e. elim (cases_Bool (ltb row last)) [
  | inl y ↦
      let less : at < place = rises row last at place (ltb-true row last y) e some in
      omega (arith, less, before)
  | inr y ↦ elim (cases_Bool (ltb last row)) [
    | inl z ↦ absurd (none row at (ltb-true last row z) k e)
    | inr z ↦
        let a : last ≤ row = ltb-false row last y in
        let b : row ≤ last = ltb-false last row z in
        let same : row ≡ last = omega (arith, a, b) in
        let is : place ≡ at = same_Some place at (sym some ∙ ap places (sym same) ∙ e) in
        omega (arith, is, before)
  ]
]

-- the first row from one on that comes from a place
pub first_begins : (places : ℕ → Option ℕ) (end past first place : ℕ) → AreInOrder places → places first ≡ Some place → past ≤ place → ((row at : ℕ) → end ≤ row → row < first → places row ≡ Some at → ⊥) →
    BeginBehind places end past
first_begins places end past first place rises some behind none = λ row at m e. elim (cases_Bool (ltb first row)) [
  | inl y ↦
      let more : place < at = rises first row place at (ltb-true first row y) some e in
      omega (arith, more, behind)
  | inr y ↦ elim (cases_Bool (ltb row first)) [
    | inl z ↦ absurd (none row at m (ltb-true row first z) e)
    | inr z ↦
        let a : row ≤ first = ltb-false first row y in
        let b : first ≤ row = ltb-false row first z in
        let same : row ≡ first = omega (arith, a, b) in
        let is : place ≡ at = same_Some place at (sym some ∙ ap places (sym same) ∙ e) in
        omega (arith, is, behind)
  ]
]

-- ranges of which no row comes from a place

abbrev pub AreFromNowhere : (ℕ → Option ℕ) → ℕ → ℕ → Type 0
AreFromNowhere places from end = (row at : ℕ) → from ≤ row → row < end → places row ≡ Some at → ⊥

pub none_there : (places : ℕ → Option ℕ) (from end : ℕ) → end ≤ from → AreFromNowhere places from end
none_there places from end l = λ row at m n e. omega (arith, l, m, n)

pub one_more_before : (places : ℕ → Option ℕ) (left end : ℕ) → 0 < left → places (left - 1) ≡ None → AreFromNowhere places left end → AreFromNowhere places (left - 1) end
one_more_before places left end o none h = λ row at l m e. elim (cases_Bool (ltb row left)) [
  | inl y ↦
      let k : row < left = ltb-true row left y in
      let same : row ≡ left - 1 = omega (arith, l, k, o) in
      none-some at (sym none ∙ ap places (sym same) ∙ e)
  | inr y ↦ h row at (ltb-false row left y) m e
]

pub one_more_behind : (places : ℕ → Option ℕ) (from row : ℕ) → places row ≡ None → AreFromNowhere places from row → AreFromNowhere places from (row + 1)
one_more_behind places from row none h = λ r at l m e. elim (cases_Bool (ltb r row)) [
  | inl y ↦ h r at l (ltb-true r row y) e
  | inr y ↦
      let k : row ≤ r = ltb-false r row y in
      let same : r ≡ row = omega (arith, m, k) in
      none-some at (sym none ∙ ap places (sym same) ∙ e)
]

pub no_row_ends : (places : ℕ → Option ℕ) (from left end past : ℕ) → left ≤ from → AreFromNowhere places left end → EndBefore places from end past
no_row_ends places from left end past l h = λ row at m k e. absurd (h row at (omega (arith, l, m)) k e)

pub row_ends : (places : ℕ → Option ℕ) (from left end past place : ℕ) → AreInOrder places → 0 < left → places (left - 1) ≡ Some place → AreFromNowhere places left end → ltb place past ≡ true → EndBefore places from end past
row_ends places from left end past place rises o some h y = last_ends places from end past (left - 1) place rises some (ltb-true place past y) (λ row at l m e. h row at (omega (arith, l, o)) m e)

pub no_row_begins : (places : ℕ → Option ℕ) (end row past : ℕ) → ((r at : ℕ) → row ≤ r → places r ≡ Some at → ⊥) → AreFromNowhere places end row → BeginBehind places end past
no_row_begins places end row past beyond h = λ r at l e. elim (cases_Bool (ltb r row)) [
  | inl y ↦ absurd (h r at l (ltb-true r row y) e)
  | inr y ↦ absurd (beyond r at (ltb-false r row y) e)
]

-- an element whose rows come of its bytes
pub whole_in_order : (places : ℕ → Option ℕ) (tail number end : ℕ) (s : Stretch) → AreInOrder places → places number ≡ Some s.start → EndBefore places number end s.end → BeginBehind places end s.end →
    IsWholeBy places tail number end s
whole_in_order places tail number end s rises begins ends behind = record {
  inside = λ row at comes holds. elim (cases_Bool (ltb row number)) [
    | inl y ↦
        let less : at < s.start = rises row number at s.start (ltb-true row number y) comes.place begins in
        absurd (omega (arith, less, holds.0))
    | inr y ↦ elim (cases_Bool (ltb row end)) [
      | inl z ↦ (ltb-false row number y, ltb-true row end z)
      | inr z ↦
          let past : s.end ≤ at = behind row at (ltb-false row end z) comes.place in
          absurd (omega (arith, past, holds.1))
    ]
  ];
  own = λ row at comes belongs.
      let before : at < s.end = ends row at belongs.0 belongs.1 comes.place in
      elim (cases_Bool (ltb number row)) [
        | inl y ↦
            let more : s.start < at = rises number row s.start at (ltb-true number row y) begins comes.place in
            (omega (arith, more), before)
        | inr y ↦
            let a : row ≤ number = ltb-false number row y in
            let b : number ≤ row = belongs.0 in
            let same : row ≡ number = omega (arith, a, b) in
            let is : s.start ≡ at = same_Some s.start at (sym begins ∙ ap places (sym same) ∙ comes.place) in
            (omega (arith, is), before)
      ];
}
