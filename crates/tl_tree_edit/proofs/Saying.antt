-- What rows say, the first of them apart.
use Rattle.std.proofs.Common.{Bool, List, None, Option, Some, [], ap, ap₂, arith, drop, false, inl, inr, map, refl, subst, suc, sym, true, zero, ℕ, ◌++◌, ◌<◌, ◌≡◌, ◌≤◌, ◌∙◌, ◌∷◌}
use Rattle.std.proofs.lemmas.Bool.{cases_Bool, le-ltb, lt-ltb, ltb-true}
use Rattle.std.proofs.lemmas.List.{append_assoc, reverse-append}
use Rattle.std.proofs.lemmas.Option.{same_Some}
use Rattle.std.specs.Bool.{IsTrue}
use Rattle.std.specs.Option.{option_map, option_to_list}
use Rattle.std.specs.Prelude.{MatchOption, reverse, if◌then◌else◌, nat_lt, slice_get}
use Rattle.tl_tree.specs.Asked.{node_at}
use Rattle.tl_tree.specs.Rows.{Node, Row}
use Rattle.tl_tree_edit.specs.Changes.{Edit, due, step_at, steps_from}
use Rattle.tl_tree_edit.specs.Events.{Event, Open, Step, begun, ended, is_past, kept, left_open, opened, said}
use Rattle.tl_tree_edit.specs.Inner.Walk.{AreLeft, row_at}

pub if-true : {A : Type 0} (b : Bool) (x y : A) → b ≡ true → (if b then x else y) ≡ x
if-true true x y e = refl
if-true false x y e = cc

pub if-false : {A : Type 0} (b : Bool) (x y : A) → b ≡ false → (if b then x else y) ≡ y
if-false true x y e = cc
if-false false x y e = refl

-- Rows from a number on

pub rows-here : (rows : List Row) (n : ℕ) (row : Row) → slice_get rows n ≡ Some row → drop n rows ≡ row ∷ drop (suc n) rows
rows-here [] n row e = cc
rows-here (x ∷ rows) zero row e = ap (λ (r : Row). r ∷ rows) (same_Some x row e)
rows-here (x ∷ rows) (suc n) row e = rows-here rows n row e

pub no-rows : (rows : List Row) (n : ℕ) → node_at rows n ≡ None → drop n rows ≡ []
no-rows [] zero e = refl
no-rows [] (suc n) e = refl
no-rows (x ∷ rows) zero e = cc
no-rows (x ∷ rows) (suc n) e = no-rows rows n e

-- What is open

-- none of them ends there
pub none-ended : (at : Option ℕ) (outer : List Open) → AreLeft at outer → (ended at outer ≡ []) × (left_open at outer ≡ outer)
none-ended at [] h = (refl, refl)
none-ended at (o ∷ outer) h =
    (if-false (is_past at o.end) (o.last ++ ended at outer) [] h, if-false (is_past at o.end) (left_open at outer) (o ∷ outer) h)

-- the innermost ends there
pub one-ended : (at : Option ℕ) (o : Open) (outer : List Open) → is_past at o.end ≡ true → (ended at (o ∷ outer) ≡ o.last ++ ended at outer) × (left_open at (o ∷ outer) ≡ left_open at outer)
one-ended at o outer h =
    (if-true (is_past at o.end) (o.last ++ ended at outer) [] h, if-true (is_past at o.end) (left_open at outer) (o ∷ outer) h)

-- What is said

pub said-over : (outer : List Open) (until n : ℕ) (step : Step) (steps : List Step) → n < until → said outer until n (step ∷ steps) ≡ said outer until (suc n) steps
said-over outer until n step steps less = if-true (nat_lt n until) _ _ (lt-ltb n until less)

pub said-here : (outer : List Open) (until n : ℕ) (step : Step) (steps : List Step) → until ≤ n → said outer until n (step ∷ steps) ≡ ended (Some n) outer ++ (step.first ++ said (opened step (left_open (Some n) outer)) (if step.is_over then step.end else until) (suc n) steps)
said-here outer until n step steps more = if-false (nat_lt n until) _ _ (le-ltb n until more)

-- the innermost ends before the next row
said-end : (o : Open) (outer : List Open) (n : ℕ) (step : Step) (steps : List Step) → is_past (Some n) o.end ≡ true → said (o ∷ outer) 0 n (step ∷ steps) ≡ o.last ++ said outer 0 n (step ∷ steps)
said-end o outer n step steps h =
    let it = one-ended (Some n) o outer h in
    let behind : List Open → List Event = λ os. step.first ++ said (opened step os) (if step.is_over then step.end else 0) (suc n) steps in
    said-here (o ∷ outer) 0 n step steps (omega arith)
    ∙ (ap₂ (λ xs os. xs ++ behind os) it.0 it.1
    ∙ (append_assoc o.last (ended (Some n) outer) (behind (left_open (Some n) outer))
    ∙ ap (λ xs. o.last ++ xs) (sym (said-here outer 0 n step steps (omega arith)))))

-- a row begins
said-first : (outer : List Open) (n : ℕ) (row : Row) (steps : List Step) → AreLeft (Some n) outer → said outer 0 n (kept row ∷ steps) ≡ begun row.node ++ said (opened (kept row) outer) 0 (suc n) steps
said-first outer n row steps h =
    let it = none-ended (Some n) outer h in
    said-here outer 0 n (kept row) steps (omega arith)
    ∙ ap₂ (λ xs os. xs ++ (begun row.node ++ said (opened (kept row) os) 0 (suc n) steps)) it.0 it.1

-- Of one tree

rest-row : (rows : List Row) (outer : List Open) (n : ℕ) (row : Row) → slice_get rows n ≡ Some row → said outer 0 n (map kept (drop n rows)) ≡ said outer 0 n (kept row ∷ map kept (drop (suc n) rows))
rest-row rows outer n row e = ap (λ rs. said outer 0 n (map kept rs)) (rows-here rows n row e)

ends-in : (rows : List Row) (n : ℕ) (o : Open) (outer : List Open) (r : Option Row) → slice_get rows n ≡ r → is_past (option_map (λ (node : Node). n) (option_map (λ (row : Row). row.node) r)) o.end ≡ true → said (o ∷ outer) 0 n (map kept (drop n rows)) ≡ o.last ++ said outer 0 n (map kept (drop n rows))
ends-in rows n o outer None e h =
    let none : drop n rows ≡ [] = no-rows rows n (ap (option_map (λ (row : Row). row.node)) e) in
    rw none refl
ends-in rows n o outer (Some row) e h =
    rest-row rows (o ∷ outer) n row e
    ∙ (said-end o outer n (kept row) (map kept (drop (suc n) rows)) h
    ∙ ap (λ xs. o.last ++ xs) (sym (rest-row rows outer n row e)))

-- the innermost open row ends next
pub end_said : (rows : List Row) (n : ℕ) (o : Open) (outer : List Open) → is_past (row_at rows n) o.end ≡ true → said (o ∷ outer) 0 n (map kept (drop n rows)) ≡ o.last ++ said outer 0 n (map kept (drop n rows))
end_said rows n o outer h = ends-in rows n o outer (slice_get rows n) refl h

-- a row begins next
pub row_said : (rows : List Row) (n : ℕ) (row : Row) (outer : List Open) → slice_get rows n ≡ Some row → AreLeft (row_at rows n) outer → said outer 0 n (map kept (drop n rows)) ≡ begun row.node ++ said (opened (kept row) outer) 0 (suc n) (map kept (drop (suc n) rows))
row_said rows n row outer e h =
    rest-row rows outer n row e
    ∙ said-first outer n row (map kept (drop (suc n) rows)) (subst (λ (at : Option ℕ). AreLeft at outer) (ap (λ r. option_map (λ (node : Node). n) (option_map (λ (own : Row). own.node) r)) e) h)

-- nothing is left
pub none_said : (rows : List Row) (n : ℕ) (outer : List Open) → node_at rows n ≡ None → AreLeft None outer → said outer 0 n (map kept (drop n rows)) ≡ []
none_said rows n outer e h =
    let none : drop n rows ≡ [] = no-rows rows n e in
    rw none (none-ended None outer h).0

-- Edits that are due

due-more : (n m : ℕ) (edits : List Edit) → n ≤ m → due m (due n edits) ≡ due m edits
due-more n m [] le = refl
due-more n m (e ∷ edits) le = elim (cases_Bool (nat_lt e.number n)) as (λ _. due m (due n (e ∷ edits)) ≡ due m (e ∷ edits)) [
  | inl less ↦
      let now : due n (e ∷ edits) ≡ due n edits = if-true (nat_lt e.number n) _ _ less in
      let later : due m (e ∷ edits) ≡ due m edits = if-true (nat_lt e.number m) _ _ (lt-ltb e.number m (let k = ltb-true e.number n less in omega (arith, k, le))) in
      ap (due m) now ∙ (due-more n m edits le ∙ sym later)
  | inr more ↦ ap (due m) (if-false (nat_lt e.number n) _ _ more)
]

pub steps-due : (n m : ℕ) (edits : List Edit) (rows : List Row) → n ≤ m → steps_from (due n edits) m rows ≡ steps_from edits m rows
steps-due n m edits [] le = refl
steps-due n m edits (row ∷ rows) le =
    ap₂ (λ es steps. step_at m es row ∷ steps) (due-more n m edits le) (steps-due n (suc m) edits rows (omega (arith, le)))

-- Stacks

-- what is open is taken out from the end
pub popped : {A : Type 0} (own : A → Open) (xs ys : List A) (r : Option A) (a : A) (next : Option ℕ) → r ≡ Some a → xs ≡ ys ++ option_to_list r → is_past next (own a).end ≡ true → MatchOption r ((ys ≡ xs) × AreLeft next (map own (reverse xs))) (λ b. IsTrue (is_past next (own b).end) × (map own (reverse xs) ≡ own b ∷ map own (reverse ys)))
popped own xs ys r a next is all past =
    let last : xs ≡ ys ++ a ∷ [] = all ∙ rw is in
    rw is (past, (rw last (ap (map own) (reverse-append ys (a ∷ [])))))
