-- The row at the top, and all links.
use Rattle.std.proofs.Common.{◌≡◌, ◌+◌, ◌==◌, ◌&&◌, ℕ, zero, suc, Bool, false, List, [], ◌∷◌, Option, None, Some, refl, sym, ap, ◌∙◌, subst, inl, inr, if◌then◌else◌, drop, map, slice_get, slice_set, option_map, add-one}
use Rattle.std.specs.Option.{is_none, option_flatten, option_map_or}
use Rattle.std.proofs.lemmas.Bool.{cases_Bool, eqb-true, eqb-false}
use Rattle.tl_spec.specs.Tree.Document.{Node}
use Rattle.tl_spec.specs.Tree.Element.{children_of}
use Rattle.tl_table.specs.declared.links.Links.{Links}
use Rattle.tl_table.specs.Links.{AreLinks, behind, links_in, links_of, top_links}
use Rattle.tl_table.specs.Inner.Steps.{is_loose, with_top, with_top_node}
use Rattle.tl_table.proofs.Rows.{chosen, either, none_stays, rows_at, rows_past, set_other, set_same, with_rows}

abbrev pub linked_by : Option ℕ → Option ℕ → Links
linked_by parent next = record { parent = parent; next = next }

-- no links at all
abbrev pub is_free : Links → Bool
is_free own = is_none own.parent && is_none own.next

top_same : (ls : List Links) (n : ℕ) (next : Option ℕ) (k : Links) → slice_get ls n ≡ Some k
    → slice_get (with_top_node n next ls) n ≡ Some (if is_free k then linked_by None next else k)
top_same ls n next k e =
    chosen (slice_set ls n (linked_by None next)) ls n (linked_by None next) k (is_loose ls n) (is_free k)
    (ap (λ (o : Option Links). option_map_or is_free o false) e) (set_same ls n (linked_by None next) k e) e

top_other : (ls : List Links) (c n : ℕ) (next : Option ℕ) → (c ≡ n → ⊥) → slice_get (with_top_node c next ls) n ≡ slice_get ls n
top_other ls c n next other = either (slice_set ls c (linked_by None next)) ls n (is_loose ls c) (set_other ls c n (linked_by None next) other)

-- what is linked stays
top_stays : (top : List ℕ) (n : ℕ) (ls : List Links) (k : Links) → is_free k ≡ false → slice_get ls n ≡ Some k → slice_get (with_top top ls) n ≡ Some k
top_stays [] n ls k isnt e = e
top_stays (c ∷ cs) n ls k isnt e = top_stays cs n (with_top_node c (slice_get cs 0) ls) k isnt (elim (cases_Bool (c == n)) [
  | inl is ↦
      subst (λ (i : ℕ). slice_get (with_top_node i (slice_get cs 0) ls) n ≡ Some k) (sym (eqb-true c n is))
      (top_same ls n (slice_get cs 0) k e ∙ ap (λ (s : Bool). Some (if s then linked_by None (slice_get cs 0) else k)) isnt)
  | inr other ↦ top_other ls c n (slice_get cs 0) (eqb-false c n other) ∙ e
])

-- the first of a row, which was free
top_first : (cs : List ℕ) (n : ℕ) (ls : List Links) → slice_get ls n ≡ Some (linked_by None (slice_get cs 0))
    → slice_get (with_top cs ls) n ≡ Some (linked_by None (slice_get cs 0))
top_first [] n ls e = e
top_first (d ∷ ds) n ls e = top_stays (d ∷ ds) n ls (linked_by None (Some d)) refl e

-- what is free is linked where it stands at the top
top_linked : (top : List ℕ) (n : ℕ) (ls : List Links) → slice_get ls n ≡ Some (linked_by None None) → slice_get (with_top top ls) n ≡ Some (top_links top n)
top_linked [] n ls e = e
top_linked (c ∷ cs) n ls e = elim (cases_Bool (c == n)) [
  | inl is ↦
      let here : slice_get (with_top_node c (slice_get cs 0) ls) n ≡ Some (linked_by None (slice_get cs 0)) =
      subst (λ (i : ℕ). slice_get (with_top_node i (slice_get cs 0) ls) n ≡ Some (linked_by None (slice_get cs 0))) (sym (eqb-true c n is))
      (top_same ls n (slice_get cs 0) (linked_by None None) e) in
      top_first cs n (with_top_node c (slice_get cs 0) ls) here
      ∙ ap (λ (s : Bool). Some (linked_by None (option_flatten (if s then Some (slice_get cs 0) else behind n cs)))) (sym is)
  | inr isnt ↦
      top_linked cs n (with_top_node c (slice_get cs 0) ls) (top_other ls c n (slice_get cs 0) (eqb-false c n isnt) ∙ e)
      ∙ ap (λ (s : Bool). Some (linked_by None (option_flatten (if s then Some (slice_get cs 0) else behind n cs)))) (sym isnt)
]

top_past : (top : List ℕ) (n : ℕ) (ls : List Links) → slice_get ls n ≡ None → slice_get (with_top top ls) n ≡ None
top_past [] n ls e = e
top_past (c ∷ cs) n ls e =
    top_past cs n (with_top_node c (slice_get cs 0) ls) (none_stays ls c n (linked_by None (slice_get cs 0)) (is_loose ls c) e)

top-next : (cs : List ℕ) (i c : ℕ) (ls : List Links) → slice_get cs i ≡ Some c
    → with_top (drop (suc i) cs) (with_top_node c (slice_get cs (suc i)) ls) ≡ with_top (drop i cs) ls
top-next [] i c ls e = absurd (cc)
top-next (d ∷ cs) zero c ls e = let same : d ≡ c = cc in ap (λ (i : ℕ). with_top cs (with_top_node i (slice_get cs 0) ls)) (sym same)
top-next (d ∷ cs) (suc i) c ls e = top-next cs i c ls e

-- one node more
pub top_next : (cs : List ℕ) (i c : ℕ) (ls : List Links) → slice_get cs i ≡ Some c
    → with_top (drop (i + 1) cs) (with_top_node c (slice_get cs (i + 1)) ls) ≡ with_top (drop i cs) ls
top_next cs i c ls e = ap (λ (j : ℕ). with_top (drop j cs) (with_top_node c (slice_get cs j) ls)) (add-one i) ∙ top-next cs i c ls e

-- all of it

-- links that rows gave have a parent
given_by : (m : ℕ) (rows : List (List ℕ)) (n : ℕ) (b : Option (Option ℕ)) (k : Links)
    → ((k : Links) → links_in (m + 1) rows n ≡ Some k → is_free k ≡ false)
    → option_map_or (λ (next : Option ℕ). Some (linked_by (Some m) next)) b (links_in (m + 1) rows n) ≡ Some k → is_free k ≡ false
given_by m rows n None k later e = later k e
given_by m rows n (Some next) k later e = let same : linked_by (Some m) next ≡ k = cc in ap is_free (sym same)

in_row : (m : ℕ) (rows : List (List ℕ)) (n : ℕ) (k : Links) → links_in m rows n ≡ Some k → is_free k ≡ false
in_row m [] n k e = absurd (cc)
in_row m (row ∷ rows) n k e = given_by m rows n (behind n row) k (λ later f. in_row (m + 1) rows n later f) e

finished : (rows : List (List ℕ)) (top : List ℕ) (n : ℕ) (ls : List Links) (o : Option Links) → links_in 0 rows n ≡ o
    → slice_get ls n ≡ Some (option_map_or (λ (own : Links). own) o (linked_by None None))
    → slice_get (with_top top ls) n ≡ Some (option_map_or (λ (own : Links). own) o (top_links top n))
finished rows top n ls None e f = top_linked top n ls f
finished rows top n ls (Some k) e f = top_stays top n ls k (in_row 0 rows n k e) f

made : (nodes : List Node) (top : List ℕ) (ls : List Links) (n : ℕ) (o : Option Node) → slice_get nodes n ≡ o
    → slice_get ls n ≡ option_map (λ _. linked_by None None) o
    → slice_get (with_top top (with_rows 0 (map children_of nodes) ls)) n ≡ option_map (λ _. links_of nodes top n) o
made nodes top ls n None e f = top_past top n (with_rows 0 (map children_of nodes) ls) (rows_past 0 (map children_of nodes) n ls f)
made nodes top ls n (Some node) e f =
    finished (map children_of nodes) top n (with_rows 0 (map children_of nodes) ls) (links_in 0 (map children_of nodes) n) refl
    (rows_at 0 (map children_of nodes) n ls (linked_by None None) f)

-- rows and then the top give the links of a table
pub are_links : (nodes : List Node) (top : List ℕ) (ls : List Links)
    → ((n : ℕ) → slice_get ls n ≡ option_map (λ _. linked_by None None) (slice_get nodes n))
    → AreLinks nodes top (with_top top (with_rows 0 (map children_of nodes) ls))
are_links nodes top ls are n = made nodes top ls n (slice_get nodes n) refl (are n)
