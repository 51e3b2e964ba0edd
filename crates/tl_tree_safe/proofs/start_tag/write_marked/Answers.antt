use Rattle.std.proofs.Common.{List, ap, append_assoc, ◌++◌, ◌∙◌, ℕ}
use Rattle.std.proofs.lemmas.Result.{IfOk-equal}
use Rattle.std.specs.List.{filter}
use Rattle.std.specs.Prelude.{flat_map}
use Rattle.tl_html_print.specs.Serialized.{serialized_attribute}
use Rattle.tl_tree.specs.Asked.{attributes_at}
use Rattle.tl_tree.specs.TreeView.{rows_in}
use Rattle.tl_tree_safe.specs.Kept.{is_beside_mark, kept_attributes, mark}
use Rattle.tl_tree_safe.specs.Policies.{listed_words}
use Rattle.tl_tree_safe.proofs.start_tag.write_marked.Goals as goal

pub returns : goal.returns
returns c =
    let others : List ℕ = flat_map serialized_attribute (filter is_beside_mark (kept_attributes (listed_words c.args.lists.now) (attributes_at (rows_in c.args.tree.now) c.args.number))) in
    IfOk-equal c.write_others.result _ _ _ c.write_others.ensures
    (ap (λ x. x ++ others) c.in_ok-write_mark.ensures ∙ append_assoc c.args.out.now.items (serialized_attribute mark) others)
