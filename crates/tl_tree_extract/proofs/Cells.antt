-- Cells that go on, at a place of a row.
use Rattle.std.proofs.Common.{◌≡◌, ◌<◌, ◌≤◌, ◌+◌, ◌++◌, ◌-◌, ◌∷◌, ◌∙◌, ◌||◌, Bool, List, [], append_assoc, arith, false, inl, inr, refl, subst, sym, true, zero, suc, ℕ, ◌⊎◌}
use Rattle.std.proofs.Math.Nat.{eq-or-lt_of_le}
use Rattle.std.proofs.lemmas.Bool.{cases_lt}
use Rattle.std.proofs.Math.Bool.{or-false}
use Rattle.std.proofs.lemmas.Bool.Decides.{nat_tests}
use Rattle.std.proofs.lemmas.List.{reverse-append}
use Rattle.std.proofs.lemmas.List.Folds.{list_any-append}
use Rattle.std.specs.Option.{option_to_list}
use Rattle.std.specs.Prelude.{MatchOption, Option, Some, max, reverse, take}
use Rattle.tl_tree_extract.specs.Inner.Open.{AreAround, AreFrom, AreInOrder, AreOpen, AreUpTo, AreWithin, StandsAt, goes_on, is_open}
use Rattle.tl_tree_extract.specs.Table.{covers, free_from, is_covered}
use Rattle.tl_tree_extract.specs.declared.forming.Forming.{Forming}
use Rattle.tl_tree_extract.specs.declared.tables.Cell.{Cell}

-- Order

pub up_to_more : (x y : ℕ) (cells : List Cell) → x ≤ y → AreUpTo x cells → AreUpTo y cells
up_to_more x y [] le h = tt
up_to_more x y (c ∷ cells) le h = (omega (arith, h.0), up_to_more x y cells le h.1)

pub up_to_one : (x : ℕ) (cells : List Cell) (c : Cell) → c.left ≤ x → AreUpTo x cells → AreUpTo x (cells ++ c ∷ [])
up_to_one x [] c le h = (le, tt)
up_to_one x (d ∷ cells) c le h = (h.0, up_to_one x cells c le h.1)

from_less : (x y : ℕ) (cells : List Cell) → x ≤ y → AreFrom y cells → AreFrom x cells
from_less x y [] le h = tt
from_less x y (c ∷ cells) le h = (omega (arith, h.0), from_less x y cells le h.1)

from_put : (x : ℕ) (cells others : List Cell) (c : Cell) → x ≤ c.left → AreFrom x (cells ++ others) → AreFrom x (cells ++ c ∷ others)
from_put x [] others c le h = (le, h)
from_put x (d ∷ cells) others c le h = (h.0, from_put x cells others c le h.1)

from_cut : (x : ℕ) (cells others : List Cell) (c : Cell) → AreFrom x (cells ++ c ∷ others) → AreFrom x (cells ++ others)
from_cut x [] others c h = h.1
from_cut x (d ∷ cells) others c h = (h.0, from_cut x cells others c h.1)

pub order_behind : (cells others : List Cell) → AreInOrder (cells ++ others) → AreInOrder others
order_behind [] others h = h
order_behind (c ∷ cells) others h = order_behind cells others h.1

-- a cell that is passed and ends there is left out
pub order_cut : (cells others : List Cell) (c : Cell) → AreInOrder (cells ++ c ∷ others) → AreInOrder (cells ++ others)
order_cut [] others c h = h.1
order_cut (d ∷ cells) others c h = (from_cut d.left cells others c h.0, order_cut cells others c h.1)

-- a cell is put between those that begin up to it and those that begin behind it
pub order_put : (cells others : List Cell) (c : Cell) → AreUpTo c.left cells → AreFrom c.left others → AreInOrder (cells ++ others) → AreInOrder (cells ++ c ∷ others)
order_put [] others c low high h = (high, h)
order_put (d ∷ cells) others c low high h = (from_put d.left cells others c low.0 h.0, order_put cells others c low.1 high h.1)

-- Slots

goes : (x y : ℕ) (c : Cell) → c.left ≤ x → x < c.right → y < c.bottom → goes_on x y c ≡ true
goes x y c l r b = grind (arith, nat_tests)

stays_left : (x y : ℕ) (c : Cell) → x < c.left → goes_on x y c ≡ false
stays_left x y c l = grind (arith, nat_tests)

stays_right : (x y : ℕ) (c : Cell) → c.right ≤ x → goes_on x y c ≡ false
stays_right x y c r = grind (arith, nat_tests)

stays_above : (x y : ℕ) (c : Cell) → c.bottom ≤ y → goes_on x y c ≡ false
stays_above x y c b = grind (arith, nat_tests)

covers_begun : (x y : ℕ) (c : Cell) → c.top ≤ y → covers x y c ≡ goes_on x y c
covers_begun x y c t = grind (arith, nat_tests)

-- none covers a column before all of them
pub none_before : (x y column : ℕ) (cells : List Cell) → column < x → AreFrom x cells → is_open cells column y ≡ false
none_before x y column [] lt h = refl
none_before x y column (c ∷ cells) lt h = rw (stays_left column y c (omega (arith, h.0, lt))) (none_before x y column cells lt h.1)

-- one that stays out makes no difference
open_without : (x y : ℕ) (cells others : List Cell) (c : Cell) → goes_on x y c ≡ false → is_open (cells ++ c ∷ others) x y ≡ is_open (cells ++ others) x y
open_without x y cells others c out = rw (list_any-append (goes_on x y) cells (c ∷ others), list_any-append (goes_on x y) cells others, out) refl

or_last : (a b c : Bool) → ((a || c) || (b || false)) ≡ (a || (b || c))
or_last true b c = refl
or_last false true true = refl
or_last false true false = refl
or_last false false true = refl
or_last false false false = refl

-- a cell more covers the same slots wherever it stands
covered_more : (x y : ℕ) (cells passed ahead : List Cell) (c : Cell) → is_covered cells x y ≡ is_open (passed ++ ahead) x y → covers x y c ≡ goes_on x y c
    → is_covered (cells ++ c ∷ []) x y ≡ is_open (passed ++ c ∷ ahead) x y
covered_more x y cells passed ahead c same is =
    rw (list_any-append (covers x y) cells (c ∷ []), list_any-append (goes_on x y) passed (c ∷ ahead), same, list_any-append (goes_on x y) passed ahead, is)
    (or_last (is_open passed x y) (goes_on x y c) (is_open ahead x y))

covered_same : (x y : ℕ) (cells : List Cell) (c : Cell) → covers x y c ≡ false → is_covered (cells ++ c ∷ []) x y ≡ is_covered cells x y
covered_same x y cells c out = rw (list_any-append (covers x y) cells (c ∷ []), out) (or-false (is_covered cells x y))

-- Passing a cell

pub around_passed : (cells passed ahead : List Cell) (y x : ℕ) (c : Cell) → c.left ≤ x → y < c.bottom → AreAround cells y x passed (c ∷ ahead)
    → AreAround cells y (max x c.right) (passed ++ c ∷ []) ahead
around_passed cells passed ahead y x c l b h = record {
  later = λ x' y' lt. rw (append_assoc passed (c ∷ []) ahead) (h.later x' y' lt);
  here = λ x' le. h.here x' (omega (arith, le)) ∙ (rw (stays_right x' y c (omega (arith, le))) refl);
  low = up_to_one (max x c.right) passed c (omega (arith, l)) (up_to_more x (max x c.right) passed (omega arith) h.low);
  sorted = rw (append_assoc passed (c ∷ []) ahead) h.sorted;
}

pub around_left : (cells passed ahead : List Cell) (y x : ℕ) (c : Cell) → c.bottom ≤ y → AreAround cells y x passed (c ∷ ahead)
    → AreAround cells y x passed ahead
around_left cells passed ahead y x c b h = record {
  later = λ x' y' lt. h.later x' y' lt ∙ open_without x' y' passed ahead c (stays_above x' y' c (omega (arith, b, lt)));
  here = λ x' le. h.here x' le ∙ (rw (stays_above x' y c b) refl);
  low = h.low;
  sorted = order_cut passed ahead c h.sorted;
}

-- up to where a cell ends that is passed, all slots are covered
pub busy_passed : (cells passed ahead : List Cell) (y x from : ℕ) (c : Cell) → c.left ≤ x → y < c.bottom → AreAround cells y x passed (c ∷ ahead)
    → ((k : ℕ) → from ≤ k → k < x → is_covered cells k y ≡ true)
    → (k : ℕ) → from ≤ k → k < max x c.right → is_covered cells k y ≡ true
busy_passed cells passed ahead y x from c l b h busy k ge lt =
    elim (cases_lt k x) as (λ _. is_covered cells k y ≡ true) [
      | inl before ↦ busy k ge before
      | inr behind ↦ h.here k behind ∙ (rw (goes k y c (omega (arith, l, behind)) (omega (arith, lt, behind)) b) refl)
    ]

-- what is free where nothing that is ahead begins

pub free_here : (cells passed ahead : List Cell) (y x : ℕ) → AreAround cells y x passed ahead → AreFrom (suc x) ahead → is_covered cells x y ≡ false
free_here cells passed ahead y x h high = h.here x (omega arith) ∙ none_before (suc x) y x ahead (omega arith) high

pub from_head : (x : ℕ) (passed ahead : List Cell) (c : Cell) → x < c.left → AreInOrder (passed ++ c ∷ ahead) → AreFrom (suc x) (c ∷ ahead)
from_head x passed ahead c lt h = (omega (arith, lt), from_less (suc x) c.left ahead (omega (arith, lt)) (order_behind passed (c ∷ ahead) h).0)

free_is : (cells : List Cell) (y x most at : ℕ) → x ≤ at → at ≤ x + most → ((k : ℕ) → x ≤ k → k < at → is_covered cells k y ≡ true)
    → is_covered cells at y ≡ false → free_from cells y x most ≡ at
free_is cells y x zero at le few busy free = omega (arith, le, few)
free_is cells y x (suc most) at le few busy free =
    elim (eq-or-lt_of_le le) as (λ _. free_from cells y x (suc most) ≡ at) [
      | inl e ↦ rw (subst (λ (k : ℕ). is_covered cells k y ≡ false) (sym e) free, free_from) e
      | inr lt ↦ rw (busy x (omega arith) lt, free_from)
          (free_is cells y (suc x) most at (omega (arith, lt)) (omega (arith, few)) (λ k ge b. busy k (omega (arith, ge)) b) free)
    ]

within_busy : (cells : List Cell) (width y x at : ℕ) → x ≤ at → AreWithin width cells → ((k : ℕ) → x ≤ k → k < at → is_covered cells k y ≡ true)
    → at ≤ x + (width - x)
within_busy cells width y x zero le within busy = omega arith
within_busy cells width y x (suc at) le within busy =
    elim (eq-or-lt_of_le le) as (λ _. suc at ≤ x + (width - x)) [
      | inl e ↦ omega (arith, e)
      | inr lt ↦ (let few : at < width = within at y (busy at (omega (arith, lt)) (omega arith)) in omega (arith, few, lt))
    ]

pub next_is : (cells : List Cell) (width y x at : ℕ) → x ≤ at → AreWithin width cells → ((k : ℕ) → x ≤ k → k < at → is_covered cells k y ≡ true)
    → is_covered cells at y ≡ false → free_from cells y x (width - x) ≡ at
next_is cells width y x at le within busy free =
    free_is cells y x (width - x) at le (within_busy cells width y x at le within busy) busy free

-- Placing a cell

later_placed : (x y : ℕ) (cells passed ahead : List Cell) (c : Cell) → c.top ≤ y → is_covered cells x y ≡ is_open (passed ++ ahead) x y
    → is_covered (cells ++ c ∷ []) x y ≡ is_open ((passed ++ c ∷ []) ++ ahead) x y
later_placed x y cells passed ahead c top same =
    rw (append_assoc passed (c ∷ []) ahead) (covered_more x y cells passed ahead c same (covers_begun x y c top))

here_placed : (x y at : ℕ) (cells passed ahead : List Cell) (c : Cell) → at ≤ c.right → c.top ≤ y → c.right ≤ x → AreAround cells y at passed ahead
    → is_covered (cells ++ c ∷ []) x y ≡ is_open ahead x y
here_placed x y at cells passed ahead c le top out h =
    covered_same x y cells c (covers_begun x y c top ∙ stays_right x y c out) ∙ h.here x (omega (arith, le, out))

pub around_kept : (cells passed ahead : List Cell) (y x : ℕ) (c : Cell) → c.left ≡ x → x ≤ c.right → c.top ≡ y → AreFrom (suc x) ahead
    → AreAround cells y x passed ahead → AreAround (cells ++ c ∷ []) y c.right (passed ++ c ∷ []) ahead
around_kept cells passed ahead y x c left right top high h = record {
  later = λ x' y' lt. later_placed x' y' cells passed ahead c (omega (arith, top, lt)) (h.later x' y' lt);
  here = λ x' le. here_placed x' y x cells passed ahead c right (omega (arith, top)) le h;
  low = up_to_one c.right passed c (omega (arith, left, right)) (up_to_more x c.right passed right h.low);
  sorted = rw (append_assoc passed (c ∷ []) ahead)
      (order_put passed ahead c (up_to_more x c.left passed (omega (arith, left)) h.low) (from_less c.left (suc x) ahead (omega (arith, left)) high) h.sorted);
}

pub around_over : (cells passed ahead : List Cell) (y x : ℕ) (c : Cell) → x ≤ c.right → c.top ≡ y → c.bottom ≤ suc y
    → AreAround cells y x passed ahead → AreAround (cells ++ c ∷ []) y c.right passed ahead
around_over cells passed ahead y x c right top bottom h = record {
  later = λ x' y' lt. covered_same x' y' cells c (covers_begun x' y' c (omega (arith, top, lt)) ∙ stays_above x' y' c (omega (arith, bottom, lt))) ∙ h.later x' y' lt;
  here = λ x' le. here_placed x' y x cells passed ahead c right (omega (arith, top)) le h;
  low = up_to_more x c.right passed right h.low;
  sorted = h.sorted;
}

or_true : (a b : Bool) → (a || b) ≡ true → (a ≡ true) ⊎ (b ≡ true)
or_true true b h = inl refl
or_true false b h = inr h

right_of : (x y : ℕ) (c : Cell) → covers x y c ≡ true → x < c.right
right_of x y c h = grind (arith, nat_tests, h)

pub within_more : (width : ℕ) (cells : List Cell) (c : Cell) → AreWithin width cells → AreWithin (max width c.right) (cells ++ c ∷ [])
within_more width cells c h x y covered =
    elim (or_true (is_covered cells x y) (is_covered (c ∷ []) x y) (sym (list_any-append (covers x y) cells (c ∷ [])) ∙ covered)) as (λ _. x < max width c.right) [
      | inl old ↦ (let few = h x y old in omega (arith, few))
      | inr new ↦ (let few : x < c.right = right_of x y c (sym (or-false (covers x y c)) ∙ new) in omega (arith, few))
    ]

-- Rows

pub row_begins : (cells going : List Cell) (y : ℕ) → AreOpen cells y going → AreAround cells y 0 [] going
row_begins cells going y h = record {
  later = λ x' y' lt. h.same x' y' (omega (arith, lt));
  here = λ x' le. h.same x' y (omega arith);
  low = tt;
  sorted = h.sorted;
}

-- What is formed

pub placed_kept : (f g : Forming) (row : ℕ) (c : Cell) → g.width ≡ max f.width c.right → g.cells.items ≡ f.cells.items ++ c ∷ []
    → g.passed.items ≡ f.passed.items ++ c ∷ [] → g.ahead.items ≡ f.ahead.items
    → StandsAt f row c.left → AreFrom (suc c.left) (reverse f.ahead.items) → c.top ≡ row → c.left ≤ c.right → StandsAt g row c.right
placed_kept f g row c width cells passed ahead stands free top right = record {
  around = rw (cells, passed, ahead) (around_kept f.cells.items f.passed.items (reverse f.ahead.items) row c.left c refl right top free stands.around);
  within = rw (width, cells) (within_more f.width f.cells.items c stands.within);
}

pub placed_over : (f g : Forming) (row : ℕ) (c : Cell) → g.width ≡ max f.width c.right → g.cells.items ≡ f.cells.items ++ c ∷ []
    → g.passed.items ≡ f.passed.items → g.ahead.items ≡ f.ahead.items
    → StandsAt f row c.left → c.top ≡ row → c.left ≤ c.right → c.bottom ≤ suc row → StandsAt g row c.right
placed_over f g row c width cells passed ahead stands top right over = record {
  around = rw (cells, passed, ahead) (around_over f.cells.items f.passed.items (reverse f.ahead.items) row c.left c right top over stands.around);
  within = rw (width, cells) (within_more f.width f.cells.items c stands.within);
}

pub popped : (xs ys : List Cell) (r : Option Cell) (c : Cell) (column : ℕ) → r ≡ Some c → xs ≡ ys ++ option_to_list r → c.left ≤ column
    → MatchOption r ((ys ≡ xs) × AreFrom (suc column) (take 1 (reverse xs))) (λ d. (d.left ≤ column) × (reverse xs ≡ d ∷ reverse ys))
popped xs ys r c column is all le =
    let last : xs ≡ ys ++ c ∷ [] = all ∙ rw is in
    rw is (le, (rw last (reverse-append ys (c ∷ []))))

pub passed_on : (f g : Forming) (row column : ℕ) (c : Cell) → g.width ≡ f.width → g.cells.items ≡ f.cells.items → g.passed.items ≡ f.passed.items ++ c ∷ []
    → reverse f.ahead.items ≡ c ∷ reverse g.ahead.items → c.left ≤ column → row < c.bottom → StandsAt f row column → StandsAt g row (max column c.right)
passed_on f g row column c width cells passed ahead left bottom stands = record {
  around = rw (cells, passed) (around_passed f.cells.items f.passed.items (reverse g.ahead.items) row column c left bottom (rw ahead at stands.around));
  within = rw (width, cells) stands.within;
}

pub passed_out : (f g : Forming) (row column : ℕ) (c : Cell) → g.width ≡ f.width → g.cells.items ≡ f.cells.items → g.passed.items ≡ f.passed.items
    → reverse f.ahead.items ≡ c ∷ reverse g.ahead.items → c.bottom ≤ row → StandsAt f row column → StandsAt g row column
passed_out f g row column c width cells passed ahead bottom stands = record {
  around = rw (cells, passed) (around_left f.cells.items f.passed.items (reverse g.ahead.items) row column c bottom (rw ahead at stands.around));
  within = rw (width, cells) stands.within;
}

pub busy_on : (f : Forming) (ahead : List Cell) (row column from : ℕ) (c : Cell) → reverse f.ahead.items ≡ c ∷ reverse ahead → c.left ≤ column → row < c.bottom
    → StandsAt f row column → ((k : ℕ) → from ≤ k → k < column → is_covered f.cells.items k row ≡ true)
    → (k : ℕ) → from ≤ k → k < max column c.right → is_covered f.cells.items k row ≡ true
busy_on f ahead row column from c is left bottom stands busy =
    busy_passed f.cells.items f.passed.items (reverse ahead) row column from c left bottom (rw is at stands.around) busy

-- nothing that is ahead begins at the column, where the next one doesn't
pub all_ahead : (x : ℕ) (passed ahead : List Cell) → AreFrom (suc x) (take 1 ahead) → AreInOrder (passed ++ ahead) → AreFrom (suc x) ahead
all_ahead x passed [] h order = tt
all_ahead x passed (c ∷ ahead) h order = from_head x passed ahead c (omega (arith, h.0)) order

pub free_at : (f : Forming) (row from column : ℕ) → StandsAt f row column → AreFrom (suc column) (take 1 (reverse f.ahead.items)) → from ≤ column
    → ((k : ℕ) → from ≤ k → k < column → is_covered f.cells.items k row ≡ true) → column ≡ free_from f.cells.items row from (f.width - from)
free_at f row from column stands next on busy =
    sym (next_is f.cells.items f.width row from column on stands.within busy
    (free_here f.cells.items f.passed.items (reverse f.ahead.items) row column stands.around
    (all_ahead column f.passed.items (reverse f.ahead.items) next stands.around.sorted)))

pub stands_same : (f g : Forming) (row column : ℕ) → g.width ≡ f.width → g.cells.items ≡ f.cells.items → g.passed.items ≡ f.passed.items
    → g.ahead.items ≡ f.ahead.items → StandsAt f row column → StandsAt g row column
stands_same f g row column width cells passed ahead stands = record {
  around = rw (cells, passed, ahead) stands.around;
  within = rw (width, cells) stands.within;
}
