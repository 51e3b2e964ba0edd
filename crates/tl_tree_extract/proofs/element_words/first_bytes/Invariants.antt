use Rattle.std.proofs.Common.{List, false, slice_index_or, true, ℕ, ◌≡◌}
use Rattle.tl_tree.specs.Asked.{attributes_at, value_of}
use Rattle.tl_tree.specs.TreeView.{rows_in}
use Rattle.tl_tree_extract.specs.Inner.Keys.{place_of}
use Rattle.tl_tree_extract.proofs.element_words.first_bytes.Given as goal

-- a key without a mark is none of those before
abbrev pub invariant-loop-attribute : goal.invariant-loop-attribute
invariant-loop-attribute l =
    (key : List ℕ) → slice_index_or l.found (place_of key) true ≡ false
    → value_of key l.attribute-iterator ≡ value_of key (attributes_at (rows_in l.tree) l.number)
