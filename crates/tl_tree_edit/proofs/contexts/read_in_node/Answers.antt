use Rattle.std.proofs.Common.{Bool, List, ap, codes, map, subst, ℕ, ◌∙◌}
use Rattle.std.specs.Borrow.{Bor}
use Rattle.std.specs.Option.{unwrap_or}
use Rattle.tl_dom_spec.specs.Tags.{Tag}
use Rattle.tl_tree.specs.Asked.{node_at}
use Rattle.tl_tree.specs.Contexts.{attribute_in}
use Rattle.tl_tree.specs.Inner.Store.{space_of}
use Rattle.tl_tree.specs.TreeView.{rows_in}
use Rattle.tl_tree.specs.declared.entries.Namespace.TheVariants.{Html}
use Rattle.tl_tree_edit.proofs.Held.{tag_by}
use Rattle.tl_tree_edit.proofs.Places.{asked, copied}
use Rattle.tl_tree_edit.specs.Inner.Contexts.{IsReadIn, context_by}
use Rattle.tl_tree_edit.proofs.contexts.read_in_node.Goals as goal

pub returns : goal.returns
returns c =
    let attributes = map attribute_in c.as_slice.result.now in
    let name = c.unwrap_or-2.result.now in
    let tag = asked (node_at (rows_in c.args.tree.now) c.args.number) c.unwrap_or.result name attributes
    (c.unwrap_or.ensures ∙ ap (λ o. unwrap_or o Html) c.namespace.ensures)
    (ap (λ (b : Bor (List ℕ)). b.now) c.unwrap_or-2.ensures ∙ (copied c.name.result _ ∙ ap (λ o. unwrap_or o (codes "body")) c.name.ensures))
    (ap (map attribute_in) c.as_slice.ensures.value ∙ c.in_ok-attributes.ensures) in
    subst (λ (t : Tag). IsReadIn c.args.markup.now (context_by t c.args.is_in_form c.args.tree.now.is_quirks) c.read_fragment.result) tag
    (subst (λ (q : Bool). IsReadIn c.args.markup.now (context_by (tag_by (space_of c.unwrap_or.result) name attributes) c.args.is_in_form q) c.read_fragment.result) c.is_quirks.ensures c.read_fragment.ensures)
