use Rattle.std.proofs.Common.{map, take, ◌++◌, ◌≡◌}
use Rattle.tl_tree.specs.Asked.{attributes_at}
use Rattle.tl_tree.specs.TreeView.{rows_in}
use Rattle.tl_tree_extract.specs.NodeOutline.{keys_words}
use Rattle.tl_tree_extract.proofs.element_words.put_keys.Given as goal

-- what was written are the keys so far
abbrev pub invariant-loop-key : goal.invariant-loop-key
invariant-loop-key l = l.out.items ≡ l.fn.out.items ++ keys_words (map (λ own. own.now) (take l.key-index l.keys)) (attributes_at (rows_in l.tree) l.number)
