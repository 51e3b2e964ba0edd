-- The handles that a walk meets, and the children of a node one by one.
use Rattle.std.specs.Prelude.{ℕ, ◌+◌, List, [], length, Option, Some, option_map, slice_get}
use Rattle.tl_spec.specs.Tree.Document.{Node, Tag}
use Rattle.tl_spec.specs.Walk.{all_tags, visits, walk}

-- the child at a place, with the place after it
abbrev pub child_at : List ℕ → ℕ → Option (ℕ × ℕ)
child_at children place = option_map (λ child. (child, place + 1)) (slice_get children place)

module _ (nodes : List Node) where
  -- how many handles a walk meets
  abbrev pub met : List ℕ → ℕ
  met hs = length (visits (walk all_tags nodes [] hs))

  -- how many a walk meets from one handle on
  abbrev pub handle_met : Option Node → ℕ
  handle_met (Some (Tag own)) = 1 + met own.children.items
  handle_met _ = 1
