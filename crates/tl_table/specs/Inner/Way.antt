-- The way along last children, from one handle on.
use Rattle.std.specs.Prelude.{◌≡◌, ℕ, zero, suc, ◌<◌, List, Option, None, Some, slice_get}
use Rattle.std.specs.List.{last_or}
use Rattle.std.specs.Option.{option_and_then}
use Rattle.tl_spec.specs.Tree.Document.{Node}
use Rattle.tl_spec.specs.Tree.Element.{last_child_of}

module _ (nodes : List Node) where
  -- the last child of the node at a handle, if it has one
  abbrev pub last_child_at : ℕ → Option ℕ
  last_child_at h = option_and_then last_child_of (slice_get nodes h)

  -- the handle that the way comes to after n steps, if it goes on so long
  abbrev pub after_steps : Option ℕ → ℕ → Option ℕ
  after_steps last zero = last
  after_steps last (suc n) = option_and_then last_child_at (after_steps last n)

  -- the way rises: each handle on it is below the next one
  abbrev pub Rises : Option ℕ → Type 0
  Rises last = (n h k : ℕ) → after_steps last n ≡ Some h → after_steps last (suc n) ≡ Some k → h < k

  -- the way below a node with these children, which begins with the last of them
  abbrev pub RisesBelow : List ℕ → Type 0
  RisesBelow children = Rises (last_or None children)
