-- The order of the nodes of a table.
use Rattle.std.specs.Prelude.{◌≡◌, ℕ, ◌+◌, ◌<◌, All, List, [], take, drop, slice_get, Some}
use Rattle.tl_spec.specs.Tree.Document.{Node, Tag, TagNode}
use Rattle.tl_spec.specs.Walk.{all_tags, visits, visits_from, walk}

-- a child's number is above its parent's
abbrev pub ChildrenFollowParents : List Node → Type 0
ChildrenFollowParents nodes = (n : ℕ) (own : TagNode) → slice_get nodes n ≡ Some (Tag own) →
    All (λ c. n < c) own.children.items

-- all that hangs below a tag, each node before what hangs below it, is the nodes right after the
-- tag
abbrev pub DescendantsAreContiguous : List Node → Type 0
DescendantsAreContiguous nodes = (n : ℕ) (own : TagNode) → slice_get nodes n ≡ Some (Tag own) →
    (count : ℕ) × (visits (walk all_tags nodes [] own.children.items)
    ≡ visits_from (n + 1) (take count (drop (n + 1) nodes)))
