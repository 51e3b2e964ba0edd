use Rattle.std.proofs.Common.{◌++◌, ◌≡◌}
use Rattle.std.specs.List.{filter}
use Rattle.std.specs.Prelude.{flat_map}
use Rattle.tl_html_print.specs.Serialized.{serialized_attribute}
use Rattle.tl_tree.specs.Asked.{attributes_at}
use Rattle.tl_tree.specs.TreeView.{rows_in}
use Rattle.tl_tree_safe.specs.Kept.{is_beside_mark, kept_attributes}
use Rattle.tl_tree_safe.specs.Policies.{listed_words}
use Rattle.tl_tree_safe.proofs.start_tag.write_others.Given as goal

abbrev pub invariant-loop-attribute : goal.invariant-loop-attribute
invariant-loop-attribute l =
    l.fn.out.items ++ flat_map serialized_attribute (filter is_beside_mark (kept_attributes (listed_words l.lists) (attributes_at (rows_in l.tree) l.number)))
    ≡ l.out.items ++ flat_map serialized_attribute (filter is_beside_mark (kept_attributes (listed_words l.lists) l.attribute-iterator))
