-- Where the elements of a tree begin at which a selector holds.
use Rattle.std.specs.List.{Contains}
use Rattle.std.specs.List.Sorted.{IsStrictlyIncreasing}
use Rattle.std.specs.Option.{option_map, option_to_list}
use Rattle.std.specs.Prelude.{List, None, Option, Some, [], flat_map, length, suc, zero, ℕ, ◌+◌, ◌-◌, ◌∷◌, ◌≡◌}
use Rattle.tl_css.specs.Selector.{Css}
use Rattle.tl_tree.specs.Sources.{source_at}
use Rattle.tl_tree.specs.TreeView.{rows_in}
use Rattle.tl_tree.specs.declared.source.Source.{Source}
use Rattle.tl_tree.specs.declared.tree.Tree.{Tree}
use Rattle.tl_tree_select.specs.Meaning.{AreFound}
use Rattle.tl_tree_select.specs.Page.{page_of}

-- the byte where begins what a row comes from, as the start tag of an element. None of what the
-- standard put in
abbrev pub place_of : Tree → ℕ → Option ℕ
place_of tree number = option_map (λ (s : Source). s.start) (source_at tree number)

-- where elements of a tree begin that have a place
abbrev pub places_of : Tree → List ℕ → List ℕ
places_of tree numbers = flat_map (λ n. option_to_list (place_of tree n)) numbers

-- these are those, in order, and each once: the clones of an element have the place of its start
-- tag
pub record ArePlacesOf (tree : Tree) (numbers places : List ℕ) : Type 0 where
  pub rising : IsStrictlyIncreasing places
  pub kept : (place : ℕ) → Contains (places_of tree numbers) place → Contains places place
  pub none_added : (place : ℕ) → Contains places place → Contains (places_of tree numbers) place

-- these are the places of the elements of a tree where the selector holds
pub record AreSelected (e : Css) (tree : Tree) (places : List ℕ) : Type 0 where
  pub numbers : List ℕ
  pub found : AreFound (page_of tree) e numbers
  pub are_places : ArePlacesOf tree numbers places

-- where in a page of such a length the first of so many nodes from a number on comes from that has
-- a place
abbrev pub first_place : Tree → ℕ → ℕ → ℕ → ℕ
first_place tree page_len number zero = page_len
first_place tree page_len number (suc count) =
    elim (place_of tree number) as (λ _. ℕ) [
      | None ↦ first_place tree page_len (number + 1) count
      | Some place ↦ place
    ]

-- the first of some elements that no tag stands for
abbrev pub untagged : Tree → List ℕ → Option ℕ
untagged tree [] = None
untagged tree (number ∷ numbers) =
    elim (place_of tree number) as (λ _. Option ℕ) [
      | None ↦ Some number
      | Some place ↦ untagged tree numbers
    ]

-- where it was put in, in a page of such a length: before what begins there
abbrev pub untagged_at : Tree → ℕ → List ℕ → Option ℕ
untagged_at tree page_len numbers =
    option_map
    (λ number. first_place tree page_len number (length (rows_in tree) - number))
    (untagged tree numbers)

-- of the elements where the selector holds the first that no tag stands for was put in there
pub record IsUntagged (e : Css) (tree : Tree) (page_len at : ℕ) : Type 0 where
  pub numbers : List ℕ
  pub found : AreFound (page_of tree) e numbers
  pub is : untagged_at tree page_len numbers ≡ Some at
