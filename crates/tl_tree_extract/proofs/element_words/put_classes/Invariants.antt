use Rattle.std.proofs.Common.{codes, ◌++◌, ◌≡◌}
use Rattle.std.specs.Prelude.{flat_map}
use Rattle.tl_tree.specs.Asked.{attributes_at}
use Rattle.tl_tree.specs.Below.{words_of}
use Rattle.tl_tree.specs.TreeView.{rows_in}
use Rattle.tl_tree_extract.specs.NodeOutline.{class_word, value_or}
use Rattle.tl_tree_extract.proofs.element_words.put_classes.Given as goal

-- what was written, and then the classes that are left, are all
abbrev pub invariant-loop-word : goal.invariant-loop-word
invariant-loop-word l =
    l.out.items ++ flat_map class_word l.word-iterator
    ≡ l.fn.out.items ++ flat_map class_word (words_of (value_or (attributes_at (rows_in l.tree) l.number) (codes "class")))
