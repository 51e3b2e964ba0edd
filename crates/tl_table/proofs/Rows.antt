-- Rows of children, linked one after the other.
use Rattle.std.proofs.Common.{◌≡◌, ◌<◌, ◌+◌, ◌==◌, ℕ, zero, suc, Bool, true, false, List, [], ◌∷◌, Option, None, Some, refl, sym, ap, ◌∙◌, subst, inl, inr, if◌then◌else◌, drop, length, map, slice_get, slice_set, option_map, add-one, get_or, replicate}
use Rattle.std.specs.Option.{is_none, is_some, option_map_or}
use Rattle.std.proofs.lemmas.Option.{slice_get-get_or, slice_get-map}
use Rattle.std.proofs.lemmas.Bool.{cases_Bool, eqb-true, eqb-false}
use Rattle.tl_table.specs.declared.links.Links.{Links}
use Rattle.tl_table.specs.Links.{behind, child_links, links_in}
use Rattle.tl_table.specs.Inner.Steps.{is_orphan, with_child, with_row}

-- lists, at a place

pub set_same : (ls : List Links) (n : ℕ) (x k : Links) → slice_get ls n ≡ Some k → slice_get (slice_set ls n x) n ≡ Some x
set_same [] n x k e = absurd (cc)
set_same (l ∷ ls) zero x k e = refl
set_same (l ∷ ls) (suc n) x k e = set_same ls n x k e

pub set_other : (ls : List Links) (c n : ℕ) (x : Links) → (c ≡ n → ⊥) → slice_get (slice_set ls c x) n ≡ slice_get ls n
set_other [] c n x other = refl
set_other (l ∷ ls) zero zero x other = absurd (other refl)
set_other (l ∷ ls) zero (suc n) x other = refl
set_other (l ∷ ls) (suc c) zero x other = refl
set_other (l ∷ ls) (suc c) (suc n) x other = set_other ls c n x (λ e. other (ap suc e))

pub chosen : (a b : List Links) (n : ℕ) (x k : Links) (s t : Bool) → s ≡ t → slice_get a n ≡ Some x → slice_get b n ≡ Some k
    → slice_get (if s then a else b) n ≡ Some (if t then x else k)
chosen a b n x k true true e f g = f
chosen a b n x k true false e f g = absurd (cc)
chosen a b n x k false true e f g = absurd (cc)
chosen a b n x k false false e f g = g

pub either : (a b : List Links) (n : ℕ) (s : Bool) → slice_get a n ≡ slice_get b n → slice_get (if s then a else b) n ≡ slice_get b n
either a b n true e = e
either a b n false e = refl

-- one child

child_same : (ls : List Links) (n parent : ℕ) (next : Option ℕ) (k : Links) → slice_get ls n ≡ Some k
    → slice_get (with_child (Some n) parent next ls) n ≡ Some (if is_none k.parent then child_links parent next else k)
child_same ls n parent next k e =
    chosen (slice_set ls n (child_links parent next)) ls n (child_links parent next) k (is_orphan ls n) (is_none k.parent)
    (ap (λ (o : Option Links). option_map_or (λ (own : Links). is_none own.parent) o false) e) (set_same ls n (child_links parent next) k e) e

child_other : (ls : List Links) (c n parent : ℕ) (next : Option ℕ) → (c ≡ n → ⊥) → slice_get (with_child (Some c) parent next ls) n ≡ slice_get ls n
child_other ls c n parent next other = either (slice_set ls c (child_links parent next)) ls n (is_orphan ls c) (set_other ls c n (child_links parent next) other)

set_past : (ls : List Links) (c n : ℕ) (x : Links) → slice_get ls n ≡ None → slice_get (slice_set ls c x) n ≡ None
set_past [] c n x e = refl
set_past (l ∷ ls) zero zero x e = absurd (cc)
set_past (l ∷ ls) zero (suc n) x e = e
set_past (l ∷ ls) (suc c) zero x e = absurd (cc)
set_past (l ∷ ls) (suc c) (suc n) x e = set_past ls c n x e

pub none_stays : (ls : List Links) (c n : ℕ) (x : Links) (s : Bool) → slice_get ls n ≡ None → slice_get (if s then slice_set ls c x else ls) n ≡ None
none_stays ls c n x false e = e
none_stays ls c n x true e = set_past ls c n x e

-- a row

-- what a row makes of the links of a node
abbrev pub row_link : ℕ → List ℕ → ℕ → Links → Links
row_link parent row n k = if is_some k.parent then k else option_map_or (child_links parent) (behind n row) k

same : (s : Bool) (k : Links) → (if s then k else k) ≡ k
same true k = refl
same false k = refl

-- a node that stands first in a row is linked, and nothing behind it changes that
first_linked : (s : Bool) (c parent n : ℕ) (cs : List ℕ) (k : Links) → is_some k.parent ≡ s → (c == n) ≡ true
    → row_link parent cs n (if is_none k.parent then child_links parent (slice_get cs 0) else k) ≡ row_link parent (c ∷ cs) n k
first_linked true c parent n cs k e same = rw e (rw e refl)
first_linked false c parent n cs k e same = rw e (rw same refl)

pub row_at : (row : List ℕ) (parent n : ℕ) (ls : List Links) (k : Links) → slice_get ls n ≡ Some k → slice_get (with_row row parent ls) n ≡ Some (row_link parent row n k)
row_at [] parent n ls k e = e ∙ ap Some (sym (same (is_some k.parent) k))
row_at (c ∷ cs) parent n ls k e = elim (cases_Bool (c == n)) [
  | inl is ↦
      let here : slice_get (with_child (Some c) parent (slice_get cs 0) ls) n ≡ Some (if is_none k.parent then child_links parent (slice_get cs 0) else k) =
      subst (λ (i : ℕ). slice_get (with_child (Some i) parent (slice_get cs 0) ls) n ≡ Some (if is_none k.parent then child_links parent (slice_get cs 0) else k))
      (sym (eqb-true c n is)) (child_same ls n parent (slice_get cs 0) k e) in
      row_at cs parent n (with_child (Some c) parent (slice_get cs 0) ls) (if is_none k.parent then child_links parent (slice_get cs 0) else k) here
      ∙ ap Some (first_linked (is_some k.parent) c parent n cs k refl is)
  | inr isnt ↦
      row_at cs parent n (with_child (Some c) parent (slice_get cs 0) ls) k (child_other ls c n parent (slice_get cs 0) (eqb-false c n isnt) ∙ e)
      ∙ ap (λ (s : Bool). Some (if is_some k.parent then k else option_map_or (child_links parent) (if s then Some (slice_get cs 0) else behind n cs) k)) (sym isnt)
]

pub row_past : (row : List ℕ) (parent n : ℕ) (ls : List Links) → slice_get ls n ≡ None → slice_get (with_row row parent ls) n ≡ None
row_past [] parent n ls e = e
row_past (c ∷ cs) parent n ls e =
    row_past cs parent n (with_child (Some c) parent (slice_get cs 0) ls)
    (none_stays ls c n (child_links parent (slice_get cs 0)) (is_orphan ls c) e)

row-next : (cs : List ℕ) (i parent : ℕ) (ls : List Links)
    → with_row (drop (suc i) cs) parent (with_child (slice_get cs i) parent (slice_get cs (suc i)) ls) ≡ with_row (drop i cs) parent ls
row-next [] zero parent ls = refl
row-next [] (suc i) parent ls = refl
row-next (c ∷ cs) zero parent ls = refl
row-next (c ∷ cs) (suc i) parent ls = row-next cs i parent ls

-- one child more
pub row_next : (cs : List ℕ) (i parent : ℕ) (ls : List Links)
    → with_row (drop (i + 1) cs) parent (with_child (slice_get cs i) parent (slice_get cs (i + 1)) ls) ≡ with_row (drop i cs) parent ls
row_next cs i parent ls =
    ap (λ (j : ℕ). with_row (drop j cs) parent (with_child (slice_get cs i) parent (slice_get cs j) ls)) (add-one i) ∙ row-next cs i parent ls

-- rows, which are those of the nodes from the number m on

abbrev pub with_rows : ℕ → List (List ℕ) → List Links → List Links
with_rows m [] ls = ls
with_rows m (row ∷ rows) ls = with_rows (m + 1) rows (with_row row m ls)

abbrev pub rows_link : ℕ → List (List ℕ) → ℕ → Links → Links
rows_link m rows n k = if is_some k.parent then k else option_map_or (λ (own : Links). own) (links_in m rows n) k

-- a row, and then the others
rows_step : (m : ℕ) (row : List ℕ) (rows : List (List ℕ)) (n : ℕ) (k : Links) (s : Bool) (b : Option (Option ℕ)) → is_some k.parent ≡ s → behind n row ≡ b
    → rows_link (m + 1) rows n (row_link m row n k) ≡ rows_link m (row ∷ rows) n k
rows_step m row rows n k true b e f = rw e (rw e refl)
rows_step m row rows n k false None e f = rw (e, f) (rw e refl)
rows_step m row rows n k false (Some next) e f = rw (e, f) refl

pub rows_at : (m : ℕ) (rows : List (List ℕ)) (n : ℕ) (ls : List Links) (k : Links) → slice_get ls n ≡ Some k → slice_get (with_rows m rows ls) n ≡ Some (rows_link m rows n k)
rows_at m [] n ls k e = e ∙ ap Some (sym (same (is_some k.parent) k))
rows_at m (row ∷ rows) n ls k e =
    rows_at (m + 1) rows n (with_row row m ls) (row_link m row n k) (row_at row m n ls k e) ∙ ap Some (rows_step m row rows n k (is_some k.parent) (behind n row) refl refl)

pub rows_past : (m : ℕ) (rows : List (List ℕ)) (n : ℕ) (ls : List Links) → slice_get ls n ≡ None → slice_get (with_rows m rows ls) n ≡ None
rows_past m [] n ls e = e
rows_past m (row ∷ rows) n ls e = rows_past (m + 1) rows n (with_row row m ls) (row_past row m n ls e)

drop-row : (rows : List (List ℕ)) (i : ℕ) (row : List ℕ) → slice_get rows i ≡ Some row → drop i rows ≡ row ∷ drop (suc i) rows
drop-row [] i row e = absurd (cc)
drop-row (r ∷ rows) zero row e = let is : r ≡ row = cc in ap (λ (q : List ℕ). q ∷ rows) is
drop-row (r ∷ rows) (suc i) row e = drop-row rows i row e

-- one row more
pub rows_next : (rows : List (List ℕ)) (i : ℕ) (row : List ℕ) (ls : List Links) → slice_get rows i ≡ Some row
    → with_rows (i + 1) (drop (i + 1) rows) (with_row row i ls) ≡ with_rows i (drop i rows) ls
rows_next rows i row ls e =
    ap (λ (j : ℕ). with_rows (i + 1) (drop j rows) (with_row row i ls)) (add-one i)
    ∙ ap (λ (rest : List (List ℕ)). with_rows i rest ls) (sym (drop-row rows i row e))

-- an item of a list
pub item_at : {X : Type 0} (xs : List X) (i : ℕ) (x : X) → i < length xs → x ≡ get_or xs i x → slice_get xs i ≡ Some x
item_at xs i x lt e = slice_get-get_or xs i x lt ∙ ap Some (sym e)

-- and of what is made of it twice
pub made_at : {X Y Z : Type 0} (f : X → Y) (g : Y → Z) (xs : List X) (i : ℕ) (x : X) → slice_get xs i ≡ Some x → slice_get (map g (map f xs)) i ≡ Some (g (f x))
made_at f g xs i x e = slice_get-map g (map f xs) i ∙ ap (option_map g) (slice_get-map f xs i ∙ ap (option_map f) e)

-- as many equal items
pub equal_at : {X : Type 0} (xs : List X) (x : Links) (n : ℕ) → slice_get (replicate (length xs) x) n ≡ option_map (λ _. x) (slice_get xs n)
equal_at [] x n = refl
equal_at (y ∷ ys) x zero = refl
equal_at (y ∷ ys) x (suc n) = equal_at ys x n
