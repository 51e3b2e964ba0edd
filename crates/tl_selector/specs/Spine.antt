-- The two sides of a joined selector, and chains, which stand in one another as first sides.
use Rattle.std.specs.Prelude.{Bool, true, false, ◌&&◌, List, [], ◌∷◌, map}
use denote.Ref.{Bor}
use Rattle.tl_spec.specs.Tree.Document.{Node}
use Rattle.tl_spec.specs.Select.Selector.{Selector, And, Or, Descendant, Parent}
use Rattle.tl_spec.specs.Select.Search.{holds_alone}
use Rattle.tl_selector.specs.View.{selector}
use Rattle.tl_selector.specs.declared.selector.Selector as declared

-- whether it is joined of two
abbrev pub has_sides : Selector → Bool
has_sides (And a b) = true
has_sides (Or a b) = true
has_sides (Descendant a b) = true
has_sides (Parent a b) = true
has_sides _ = false

-- a selector with another one as its first side; that one alone where it has no sides
abbrev pub with_first : Selector → Selector → Selector
with_first (And x b) a = And a b
with_first (Or x b) a = Or a b
with_first (Descendant x b) a = Descendant a b
with_first (Parent x b) a = Parent a b
with_first _ a = a

-- a selector as the first side of the last of a list, which is the first side of the one before it,
-- and so on
abbrev pub nested_in : List Selector → Selector → Selector
nested_in [] e = e
nested_in (x ∷ xs) e = with_first x (nested_in xs e)

-- the selectors behind references
abbrev pub selectors : List (Bor declared.Selector) → List Selector
selectors refs = map (λ r. selector r.now) refs

-- the first of the parts that all have to hold
abbrev pub first_simple : Selector → Selector
first_simple (And a b) = first_simple a
first_simple e = e

-- whether all the others hold at a node alone
abbrev pub others_hold : Selector → Node → Bool
others_hold (And a b) node = others_hold a node && holds_alone b node
others_hold e node = true
