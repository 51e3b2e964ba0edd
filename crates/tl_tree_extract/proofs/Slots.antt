-- Which cell has each slot of a row.
use Rattle.std.proofs.Common.{Bool, List, None, Option, Some, [], ap, arith, drop, false, get_or, if◌then◌else◌, inl, inr, length, nat_le, nat_lt, refl, slice_get, subst, suc, sym, take, true, zero, ℕ, ◌&&◌, ◌+◌, ◌++◌, ◌<◌, ◌==◌, ◌∙◌, ◌≡◌, ◌≤◌, ◌⊎◌, ◌∷◌}
use Rattle.std.proofs.lemmas.Bool.{cases_eq, cases_lt}
use Rattle.std.proofs.lemmas.Bool.Decides.{nat_tests}
use Rattle.std.proofs.lemmas.List.{take-append-drop}
use Rattle.std.proofs.Math.Seq.{take-suc}
use Rattle.std.proofs.lemmas.List.Elements.{filter-append}
use Rattle.std.proofs.lemmas.List.Folds.{find-append}
use Rattle.std.proofs.lemmas.Option.{none-some, same_Some, slice_get-get_or, slice_get_past}
use Rattle.std.specs.List.{find, position_or_len}
use Rattle.std.specs.Option.{option_and_then, option_or}
use Rattle.std.specs.Prelude.{filter}
use Rattle.tl_tree_extract.specs.Inner.Slots.{AreBegun, AreOpenAt, AreRising, AreSlots, IsAhead, IsAtRow, IsBeforeRow, first_across, is_across, lasts}
use Rattle.tl_tree_extract.specs.Table.{TableModel, covers}
use Rattle.tl_tree_extract.specs.declared.row_slots.RowSlots.{RowSlots}
use Rattle.tl_tree_extract.specs.declared.tables.Cell.{Cell}

bool-cases : (b : Bool) → (b ≡ true) ⊎ (b ≡ false)
bool-cases true = inl refl
bool-cases false = inr refl

-- Cells that have begun

pub begun_one : (row : ℕ) (cells : List Cell) (c : Cell) → c.top ≤ row → AreBegun row cells → AreBegun row (cells ++ c ∷ [])
begun_one row [] c le h = (le, tt)
begun_one row (d ∷ cells) c le h = (h.0, begun_one row cells c le h.1)

pub begun_more : (x y : ℕ) (cells : List Cell) → x ≤ y → AreBegun x cells → AreBegun y cells
begun_more x y [] le h = tt
begun_more x y (c ∷ cells) le h = (omega (arith, h.0), begun_more x y cells le h.1)

-- one more cell is met
pub open_more : (cells going after : List Cell) (row met next : ℕ) (none : Cell) → next ≡ met + 1 → after ≡ going ++ filter (lasts row) (get_or cells met none ∷ []) → met < length cells → (get_or cells met none).top ≤ row → AreOpenAt cells row met going → AreOpenAt cells row next after
open_more cells going after row met next none one put lt le at =
    let c : Cell = get_or cells met none in
    let step : next ≡ suc met = omega (arith, one) in
    let taken : take next cells ≡ take met cells ++ c ∷ [] = ap (λ (n : ℕ). take n cells) step ∙ take-suc cells met none lt in
    record {
      within = omega (arith, lt, one);
      same = put
          ∙ ap (λ (v : List Cell). v ++ filter (lasts row) (c ∷ [])) at.same
          ∙ sym (filter-append (lasts row) (take met cells) (c ∷ []))
          ∙ ap (filter (lasts row)) (sym taken);
      begun = subst (AreBegun row) (sym taken) (begun_one row (take met cells) c le at.begun);
    }

lasts-less : (x y : ℕ) (c : Cell) → x ≤ y → lasts x c ≡ false → lasts y c ≡ false
lasts-less x y c le h = grind (arith, nat_tests)

pub lasts_again : (x y : ℕ) (cells : List Cell) → x ≤ y → filter (lasts y) (filter (lasts x) cells) ≡ filter (lasts y) cells
lasts_again x y [] le = refl
lasts_again x y (c ∷ cells) le =
    let more = lasts_again x y cells le in
    elim (bool-cases (lasts x c)) as (λ _. filter (lasts y) (filter (lasts x) (c ∷ cells)) ≡ filter (lasts y) (c ∷ cells)) [
      | inl holds ↦ rw (holds, more)
      | inr ended ↦ (let none = lasts-less x y c le ended in rw (ended, none, more))
    ]

-- The first cell that covers a slot

covers-lasting : (column row : ℕ) (c : Cell) → c.top ≤ row → lasts row c ≡ true → covers column row c ≡ is_across column c
covers-lasting column row c begun last = grind (arith, nat_tests)

covers-ended : (column row : ℕ) (c : Cell) → lasts row c ≡ false → covers column row c ≡ false
covers-ended column row c last = grind (arith, nat_tests)

covers-ahead : (column row : ℕ) (c : Cell) → row < c.top → covers column row c ≡ false
covers-ahead column row c ahead = grind (arith, nat_tests)

find-lasting : (column row : ℕ) (cells : List Cell) → AreBegun row cells → find (covers column row) cells ≡ find (is_across column) (filter (lasts row) cells)
find-lasting column row [] h = refl
find-lasting column row (c ∷ cells) h =
    let more = find-lasting column row cells h.1 in
    elim (bool-cases (lasts row c)) as (λ _. find (covers column row) (c ∷ cells) ≡ find (is_across column) (filter (lasts row) (c ∷ cells))) [
      | inl holds ↦ (let same = covers-lasting column row c h.0 holds in rw (same, holds, more))
      | inr ended ↦ (let none = covers-ended column row c ended in rw (none, ended, more))
    ]

find-ahead : (column row low high : ℕ) (cells : List Cell) → AreRising low high cells → row < low → find (covers column row) cells ≡ None
find-ahead column row low high [] h l = refl
find-ahead column row low high (c ∷ cells) h l =
    let ahead : row < c.top = omega (arith, h.0, l) in
    let none = covers-ahead column row c ahead in
    let more = find-ahead column row c.top high cells h.1 ahead in
    rw (none, more)

rising-drop : (low high n : ℕ) (cells : List Cell) (c : Cell) → AreRising low high cells → slice_get cells n ≡ Some c → AreRising c.top high (drop n cells)
rising-drop low high n [] c h e = absurd (none-some c e)
rising-drop low high zero (d ∷ cells) c h e =
    subst (λ (v : Cell). AreRising v.top high (d ∷ cells)) (same_Some d c e) (omega arith, h.1)
rising-drop low high (suc n) (d ∷ cells) c h e = rising-drop d.top high n cells c h.1 e

none-left : (n : ℕ) (cells : List Cell) → slice_get cells n ≡ None → drop n cells ≡ []
none-left zero [] e = refl
none-left (suc n) [] e = refl
none-left zero (d ∷ cells) e = absurd (none-some d (sym e))
none-left (suc n) (d ∷ cells) e = none-left n cells e

get-cases : (o : Option Cell) → (o ≡ None) ⊎ ((c : Cell) × (o ≡ Some c))
get-cases None = inl refl
get-cases (Some c) = inr (c, refl)

or-none : (o : Option Cell) → option_or o None ≡ o
or-none None = refl
or-none (Some c) = refl

behind-none : (column row low high met : ℕ) (cells : List Cell) → AreRising low high cells → IsAhead row (slice_get cells met) → find (covers column row) (drop met cells) ≡ None
behind-none column row low high met cells rising ahead =
    elim (get-cases (slice_get cells met)) as (λ _. find (covers column row) (drop met cells) ≡ None) [
      | inl none ↦ rw (none-left met cells none) refl
      | inr some ↦ (
          let c = some.0 in
          let next : row < c.top = subst (IsAhead row) some.1 ahead in
          find-ahead column row c.top high (drop met cells) (rising-drop low high met cells c rising some.1) next)
    ]

pub slot_found : (column row low high met : ℕ) (cells going : List Cell) → AreRising low high cells → AreOpenAt cells row met going → IsAhead row (slice_get cells met) → find (is_across column) going ≡ find (covers column row) cells
slot_found column row low high met cells going rising at ahead =
    let p = covers column row in
    let behind = behind-none column row low high met cells rising ahead in
    ap (find (is_across column)) at.same
    ∙ sym (find-lasting column row (take met cells) at.begun)
    ∙ sym (or-none (find p (take met cells)))
    ∙ ap (option_or (find p (take met cells))) (sym behind)
    ∙ sym (find-append p (take met cells) (drop met cells))
    ∙ ap (find p) (take-append-drop met cells)

-- Slots

pub across_step : (column index : ℕ) (going : List Cell) (c : Cell) → drop index going ≡ c ∷ drop (suc index) going
    → index + first_across column (drop index going) ≡ (if is_across column c then index else suc index + first_across column (drop (suc index) going))
across_step column index going c e =
    elim (bool-cases (is_across column c)) as (λ _. index + first_across column (drop index going) ≡ (if is_across column c then index else suc index + first_across column (drop (suc index) going))) [
      | inl holds ↦ (rw (e, holds) (omega arith))
      | inr ended ↦ (rw (e, ended) (omega arith))
    ]

pub found_at : (p : Cell → Bool) (cells : List Cell) → slice_get cells (position_or_len p cells) ≡ find p cells
found_at p [] = refl
found_at p (c ∷ cells) =
    elim (bool-cases (p c)) as (λ _. slice_get (c ∷ cells) (position_or_len p (c ∷ cells)) ≡ find p (c ∷ cells)) [
      | inl holds ↦ rw holds refl
      | inr ended ↦ (
          let n = position_or_len p cells in
          let one : 1 + n ≡ suc n = omega arith in
          rw ended (ap (λ (m : ℕ). slice_get (c ∷ cells) m) one ∙ found_at p cells))
    ]

pub cell_found : (going : List Cell) (slots : List ℕ) (column : ℕ) → AreSlots going slots → column < length slots
    → option_and_then (λ index. slice_get going index) (slice_get slots column) ≡ find (is_across column) going
cell_found going slots column laid lt =
    ap (option_and_then (λ index. slice_get going index)) (slice_get-get_or slots column 0 lt)
    ∙ ap (slice_get going) (laid column lt)
    ∙ found_at (is_across column) going

-- a cell is put into one more slot
pub cover_step : (left column k index old : ℕ) → left ≤ column
    → (if k == column then index else (if nat_le left k && nat_lt k column then index else old)) ≡ (if nat_le left k && nat_lt k (column + 1) then index else old)
cover_step left column k index old le =
    elim (cases_eq k column) as (λ _. (if k == column then index else (if nat_le left k && nat_lt k column then index else old)) ≡ (if nat_le left k && nat_lt k (column + 1) then index else old)) [
      | inl same ↦ (
          let here : (k == column) ≡ true = grind (arith, nat_tests) in
          let in' : (nat_le left k && nat_lt k (column + 1)) ≡ true = grind (arith, nat_tests) in
          rw (here, in') refl)
      | inr other ↦ (
          let here : (k == column) ≡ false = grind (arith, nat_tests) in
          let same : (nat_le left k && nat_lt k (column + 1)) ≡ (nat_le left k && nat_lt k column) = grind (arith, nat_tests) in
          rw (here, same) refl)
    ]

-- behind the last slot of a cell
pub cover_end : (left right column k index old : ℕ) → right ≤ column → (right < column → column ≡ left)
    → (if nat_le left k && nat_lt k column then index else old) ≡ (if nat_le left k && nat_lt k right then index else old)
cover_end left right column k index old le past =
    elim (cases_lt right column) as (λ _. (if nat_le left k && nat_lt k column then index else old) ≡ (if nat_le left k && nat_lt k right then index else old)) [
      | inl lt ↦ (
          let at : column ≡ left = past lt in
          let none : (nat_le left k && nat_lt k column) ≡ false = grind (arith, nat_tests) in
          let less : (nat_le left k && nat_lt k right) ≡ false = grind (arith, nat_tests) in
          rw (none, less) refl)
      | inr ge ↦ (
          let same : column ≡ right = omega (arith, le, ge) in
          rw same refl)
    ]

-- behind the last cell
pub across_end : (column count : ℕ) (going : List Cell) → count ≡ length going → length going ≡ count + first_across column (drop count going)
across_end column zero [] e = refl
across_end column (suc count) [] e = absurd (let g : ⊥ = omega (arith, e) in g)
across_end column zero (c ∷ going) e = absurd (let g : ⊥ = omega (arith, e) in g)
across_end column (suc count) (c ∷ going) e =
    let less : count ≡ length going = omega (arith, e) in
    let more = across_end column count going less in
    omega (arith, more)

-- the row behind one
pub next_row : (t : TableModel) (row next : ℕ) (s : RowSlots) → next ≡ row + 1 → IsAtRow t row s → IsBeforeRow t next s
next_row t row next s one at =
    let le : row ≤ next = omega (arith, one) in
    record {
      within = at.going.within;
      same = ap (filter (lasts next)) at.going.same ∙ lasts_again row next (take s.met t.cells) le;
      begun = begun_more row next (take s.met t.cells) le at.going.begun;
    }

pub ahead_none : (cells : List Cell) (row met : ℕ) → length cells ≤ met → IsAhead row (slice_get cells met)
ahead_none cells row met le = subst (IsAhead row) (sym (slice_get_past cells met le)) tt
