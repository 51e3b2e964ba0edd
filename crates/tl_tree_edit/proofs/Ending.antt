-- A row of the old tree that is met.
use Rattle.std.proofs.Common.{Bool, List, [], add-one, ap, arith, drop, drop_of_length-le, false, inl, inr, length, refl, subst, suc, sym, true, zero, ℕ, ◌+◌, ◌++◌, ◌<◌, ◌≡◌, ◌≤◌, ◌∙◌, ◌∷◌}
use Rattle.tl_tree.specs.Rows.{Row}
use Rattle.std.specs.Prelude.{None, Some, if◌then◌else◌, slice_get, ◌&&◌, ◌==◌}
use Rattle.tl_tree_edit.proofs.Following.{follows_then, framed}
use Rattle.tl_tree_edit.proofs.Saying.{rows-here, said-here, said-over, steps-due}
use Rattle.std.proofs.lemmas.Bool.{cases_Bool}
use Rattle.tl_tree_edit.specs.Changes.{Edit, changed, due, step_at, steps_from}
use Rattle.tl_tree_edit.specs.Events.{Event, Open, Step, ended, has_end, kept, left_open, opened, said}
use Rattle.tl_tree_edit.specs.Inner.Walk.{AreOpened, Follows, IsStepped, edit_in, step_by}
use Rattle.tl_tree_edit.specs.declared.walk.Walk.{Walk}

abbrev rest : List Row → List Open → ℕ → List Edit → ℕ → List Event
rest rows outer until edits n = said outer until n (steps_from edits n (drop n rows))

follows_same : (a b l : List Event) → a ≡ b → Follows a b l l true
follows_same a b l e = subst (λ (x : List Event). Follows a x l l true) e (λ r. (λ i. i, λ i. i))

steps-here : (rows : List Row) (n : ℕ) (row : Row) (edits : List Edit) → slice_get rows n ≡ Some row → steps_from edits n (drop n rows) ≡ step_at n (due n edits) row ∷ steps_from edits (suc n) (drop (suc n) rows)
steps-here rows n row edits e = ap (steps_from edits n) (rows-here rows n row e)

-- it is passed over
pub row_over : (rows : List Row) (n : ℕ) (row : Row) (outer : List Open) (until : ℕ) (edits : List Edit) (l : List Event) → slice_get rows n ≡ Some row → n < until → Follows (rest rows outer until edits n) (rest rows outer until edits (suc n)) l l true
row_over rows n row outer until edits l e less =
    follows_same _ _ l
    (ap (said outer until n) (steps-here rows n row edits e)
    ∙ said-over outer until n (step_at n (due n edits) row) (steps_from edits (suc n) (drop (suc n) rows)) less)

abbrev begins_with : List Open → ℕ → Step → List Event → List Event
begins_with outer n step more = ended (Some n) outer ++ (step.first ++ more)

row-here : (rows : List Row) (n : ℕ) (row : Row) (outer : List Open) (until : ℕ) (edits : List Edit) → slice_get rows n ≡ Some row → until ≤ n → rest rows outer until edits n ≡ begins_with outer n (step_at n (due n edits) row) (said (opened (step_at n (due n edits) row) (left_open (Some n) outer)) (if (step_at n (due n edits) row).is_over then (step_at n (due n edits) row).end else until) (suc n) (steps_from edits (suc n) (drop (suc n) rows)))
row-here rows n row outer until edits e le =
    ap (said outer until n) (steps-here rows n row edits e)
    ∙ said-here outer until n (step_at n (due n edits) row) (steps_from edits (suc n) (drop (suc n) rows)) le

-- the ends before it don't follow
pub row_not_ended : (rows : List Row) (n : ℕ) (row : Row) (outer : List Open) (until : ℕ) (edits : List Edit) (more l m : List Event) → slice_get rows n ≡ Some row → until ≤ n → Follows (ended (Some n) outer) [] l m false → Follows (rest rows outer until edits n) more l m false
row_not_ended rows n row outer until edits more l m e le h =
    subst (λ (x : List Event). Follows x more l m false) (sym (row-here rows n row outer until edits e le)) (framed (ended (Some n) outer) _ l m false h)

-- it begins, or it doesn't
pub row_begun : (rows : List Row) (n : ℕ) (row : Row) (outer : List Open) (until : ℕ) (edits : List Edit) (step : Step) (l m k : List Event) (is : Bool) → slice_get rows n ≡ Some row → until ≤ n → step ≡ step_at n (due n edits) row → Follows (ended (Some n) outer) [] l m true → Follows step.first [] m k is → Follows (rest rows outer until edits n) (said (opened step (left_open (Some n) outer)) (if step.is_over then step.end else until) (suc n) (steps_from (due n edits) (suc n) (drop (suc n) rows))) l k is
row_begun rows n row outer until edits step l m k is e le same h g =
    let more = said (opened step (left_open (Some n) outer)) (if step.is_over then step.end else until) (suc n) (steps_from edits (suc n) (drop (suc n) rows)) in
    let begun : rest rows outer until edits n ≡ begins_with outer n step more = row-here rows n row outer until edits e le ∙ ap (λ (s : Step). begins_with outer n s (said (opened s (left_open (Some n) outer)) (if s.is_over then s.end else until) (suc n) (steps_from edits (suc n) (drop (suc n) rows)))) (sym same) in
    let later = said (opened step (left_open (Some n) outer)) (if step.is_over then step.end else until) (suc n) (steps_from (due n edits) (suc n) (drop (suc n) rows)) in
    let then' : more ≡ later = ap (said (opened step (left_open (Some n) outer)) (if step.is_over then step.end else until) (suc n)) (sym (steps-due n (suc n) edits (drop (suc n) rows) (omega arith))) in
    subst (λ (x : List Event). Follows x later l k is) (sym begun)
    (subst (λ (x : List Event). Follows (begins_with outer n step more) x l k is) then'
    (follows_then (begins_with outer n step more) (step.first ++ more) more l m k is (framed (ended (Some n) outer) (step.first ++ more) l m true h) (framed step.first more m k is g)))

-- no row is left
pub rows_over : (rows : List Row) (outer : List Open) (until : ℕ) (edits : List Edit) → rest rows outer until edits (length rows) ≡ ended None outer
rows_over rows outer until edits = ap (λ rs. said outer until (length rows) (steps_from edits (length rows) rs)) (drop_of_length-le rows (omega arith))

-- a row that there is
pub record IsThere (rows : List Row) (n : ℕ) : Type 0 where
  pub row : Row
  pub here : slice_get rows n ≡ Some row

pub row_there : (rows : List Row) (n : ℕ) → n < length rows → IsThere rows n
row_there [] n less = absurd (omega (arith, less))
row_there (x ∷ rows) zero less = record { row = x; here = refl }
row_there (x ∷ rows) (suc n) less = let it = row_there rows n (omega (arith, less)) in record { row = it.row; here = it.here }

pub step_same : (n : ℕ) (edits : List Edit) (row : Row) → step_by (edit_in n edits) row ≡ step_at n edits row
step_same n [] row = refl
step_same n (e ∷ edits) row = elim (cases_Bool (e.number == n)) as (λ _. step_by (edit_in n (e ∷ edits)) row ≡ step_at n (e ∷ edits) row) [
  | inl same ↦
      ap (λ (v : Bool). step_by (if v then Some e.change else None) row) same
      ∙ ap (λ (v : Bool). if v && has_end row.node then changed e.change row else kept row) (sym same)
  | inr other ↦
      ap (λ (v : Bool). step_by (if v then Some e.change else None) row) other
      ∙ ap (λ (v : Bool). if v && has_end row.node then changed e.change row else kept row) (sym other)
]

-- what is open then, and from which row on something is said
pub record AreThen (step : Step) (n : ℕ) (outer then-outer : List Open) (until then-until : ℕ) : Type 0 where
  pub now-open : then-outer ≡ opened step (left_open (Some n) outer)
  pub now-until : then-until ≡ (if step.is_over then step.end else until)

pub row_stepped : (rows : List Row) (n m : ℕ) (row : Row) (outer : List Open) (until : ℕ) (edits : List Edit) (step : Step) (then-outer : List Open) (then-until : ℕ) (then-edits : List Edit) (l k j : List Event) (is : Bool)
    → m ≡ n + 1 → slice_get rows n ≡ Some row → until ≤ n → step ≡ step_at n (due n edits) row → then-edits ≡ due n edits → Follows (ended (Some n) outer) [] l k true
    → (is ≡ true → AreThen step n outer then-outer until then-until) → Follows step.first [] k j is
    → Follows (rest rows outer until edits n) (rest rows then-outer then-until then-edits m) l j is
row_stepped rows n m row outer until edits step then-outer then-until then-edits l k j true next e le same due-is ended-met opens met =
    let it = opens refl in
    let here : m ≡ suc n = next ∙ add-one n in
    rw (here, it.now-open, it.now-until, due-is) (row_begun rows n row outer until edits step l k j true e le same ended-met met)
row_stepped rows n m row outer until edits step then-outer then-until then-edits l k j false next e le same due-is ended-met opens met =
    row_begun rows n row outer until edits step l k j false e le same ended-met met

pub stepped_met : (step : Step) (old new : Walk) (l m : List Event) (is : Bool) → IsStepped step old new l m is → Follows step.first [] l m is
stepped_met step old new l m true h = h.1
stepped_met step old new l m false h = h

pub stepped_open : (step : Step) (old new : Walk) (l m : List Event) (is : Bool) → IsStepped step old new l m is → is ≡ true → AreOpened step old new
stepped_open step old new l m true h e = h.0
stepped_open step old new l m false h e = cc
