-- How the nodes of a table lie that was just read.
use Rattle.std.specs.Prelude.{◌≡◌, ℕ, ◌+◌, ⊤, List, [], ◌∷◌, ◌++◌, map}
use Rattle.tl.specs.declared.parser.tag.node.NodeOf.{NodeOf}
use Rattle.tl.specs.declared.parser.tag.node.NodeOf.TheVariants.{Tag, Raw, Comment}

-- the lists of children of the nodes from the number n on: these handles come next, each of them
-- before its children, and no other node comes
abbrev pub ArePreorder : ℕ → List ℕ → List (List ℕ) → Type 0
ArePreorder n [] [] = ⊤
ArePreorder n [] (children ∷ lists) = ⊥
ArePreorder n (h ∷ hs) [] = ⊥
ArePreorder n (h ∷ hs) (children ∷ lists) = (h ≡ n) × ArePreorder (n + 1) (children ++ hs) lists

module _ {A B O : Type 0} where
  -- the handles of the children of a node
  abbrev pub children_in : NodeOf A B O → List ℕ
  children_in (Tag t) = t.children.items
  children_in (Raw b) = []
  children_in (Comment b) = []

  -- the nodes are those of trees in preorder, below some roots: what hangs below a tag are the
  -- nodes right after it
  abbrev pub IsInPreorder : List (NodeOf A B O) → Type 0
  IsInPreorder nodes = (roots : List ℕ) × ArePreorder 0 roots (map children_in nodes)
