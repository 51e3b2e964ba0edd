-- Marks of the nodes of a table, and how they are passed on to children.
use Rattle.std.specs.Prelude.{◌≡◌, ℕ, Bool, true, false, Option, List, [], ◌∷◌, ◌++◌, length, nat_eq, slice_get, slice_index_or, slice_set, if◌then◌else◌}
use Rattle.std.specs.List.{cons_option, list_any}
use Rattle.std.specs.Option.{option_map_or}
use Rattle.tl_spec.specs.Tree.Document.{Node}
use Rattle.tl_spec.specs.Tree.Element.{children_of}
use Rattle.tl_spec.specs.Select.Selector.{Selector}
use Rattle.tl_spec.specs.Select.Meaning.{IsChild, IsChain, Holds}

-- whether a number is marked
abbrev pub is_at : List Bool → ℕ → Bool
is_at marks n = slice_index_or marks n false

-- whether a number is in a list
abbrev pub is_in : List ℕ → ℕ → Bool
is_in xs n = list_any (nat_eq n) xs

-- the children of the node of a number: none where there is no such node
abbrev pub children_at : List Node → ℕ → List ℕ
children_at nodes m = option_map_or children_of (slice_get nodes m) []

-- whether a number has its mark, or there is no node of it
abbrev pub is_done : List Bool → ℕ → Bool
is_done marks n = slice_index_or marks n true

-- marks a child that has no mark yet, and puts it at the end of the queue
abbrev pub mark_one : ℕ → List Bool × List ℕ → List Bool × List ℕ
mark_one c s = if slice_index_or s.0 c true then s else (slice_set s.0 c true, s.1 ++ c ∷ [])

-- the children marked, one after the other
abbrev pub spread : List ℕ → List Bool × List ℕ → List Bool × List ℕ
spread [] s = s
spread (c ∷ cs) s = spread cs (mark_one c s)

-- the child at a place, as a list of one, or of none past the last
abbrev pub child_at : List ℕ → ℕ → List ℕ
child_at cs i = cons_option (slice_get cs i) []

-- n is a child of a marked node
abbrev pub IsUnderMark : List Node → List Bool → ℕ → Type 0
IsUnderMark nodes marks n = (m : ℕ) × (is_at marks m ≡ true) × IsChild nodes m n

-- one or more steps lead from a marked node down to n
abbrev pub IsBelowMark : List Node → List Bool → ℕ → Type 0
IsBelowMark nodes marks n = (m : ℕ) × (k : ℕ) × (is_at marks m ≡ true) × IsChain nodes k m n

-- whether a node is in question: one with a mark, and where no marks are given each
abbrev pub is_among : Option (List Bool) → ℕ → Bool
is_among among n = option_map_or (λ marks. is_at marks n) among true

-- a mark for each node in question where the selector holds, and for no other
pub record AreMarks (among : Option (List Bool)) (e : Selector) (nodes : List Node)
    (marks : List Bool) : Type 0 where
  pub len : length marks ≡ length nodes
  pub sound : (n : ℕ) → is_at marks n ≡ true → (is_among among n ≡ true) × Holds nodes e n
  pub complete : (n : ℕ) → is_among among n ≡ true → Holds nodes e n → is_at marks n ≡ true
