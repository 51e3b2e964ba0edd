use Rattle.std.proofs.Common.{codes, ◌≡◌}
use Rattle.std.specs.List.{list_any}
use Rattle.tl_tree.specs.Asked.{attributes_at}
use Rattle.tl_tree.specs.TreeView.{rows_in}
use Rattle.tl_tree_safe.specs.Kept.{has_key, kept_attributes}
use Rattle.tl_tree_safe.specs.Policies.{listed_words}
use Rattle.tl_tree_safe.proofs.start_tag.has_target.Given as goal

abbrev pub invariant-loop-attribute : goal.invariant-loop-attribute
invariant-loop-attribute l =
    list_any (has_key (codes "href")) (kept_attributes (listed_words l.lists) (attributes_at (rows_in l.tree) l.number))
    ≡ list_any (has_key (codes "href")) (kept_attributes (listed_words l.lists) l.attribute-iterator)
