use Rattle.std.proofs.Common.{codes}
use Rattle.tl_dom_spec.specs.Tags.{Tag}
use Rattle.tl_tree.specs.Asked.{node_at}
use Rattle.tl_tree.specs.TreeView.{rows_in}
use Rattle.tl_tree_edit.proofs.Places.{both, held_html, held_none, held_other, not_first, not_second}
use Rattle.tl_tree_edit.specs.Inner.Contexts.{IsReadIn, context_by}
use Rattle.tl_tree_edit.specs.Operations.{is_named}
use Rattle.tl_tree_edit.proofs.contexts.read_held.Goals as goal
use Rattle.tl_tree_edit.proofs.contexts.read_held.Goals.{else-is_adjacent-via-then-is_adjacent+else-is_named, else-is_adjacent-via-else-is_adjacent}

pub returns-in_default : goal.returns-in_default
returns-in_default c =
    held_none
    (λ (t : Tag). IsReadIn c.args.markup.now (context_by t c.args.is_in_form c.args.tree.now.is_quirks) c.read_in_body.result)
    (rows_in c.args.tree.now) c.args.holder c.args.is_adjacent c.in_default.is c.read_in_body.ensures

pub returns-then-is_named : goal.returns-then-is_named
returns-then-is_named c =
    held_html
    (λ (t : Tag). IsReadIn c.args.markup.now (context_by t c.args.is_in_form c.args.tree.now.is_quirks) c.read_in_body-then-is_named.result)
    (rows_in c.args.tree.now) c.args.holder c.in-Some.number c.args.is_adjacent c.in-Some.is
    (both c.args.is_adjacent c.is_named.result _ c.if-is_adjacent.true c.is_named.ensures c.if-is_named.true)
    c.read_in_body-then-is_named.ensures

pub returns : goal.returns
returns c =
    let P = λ (t : Tag). IsReadIn c.args.markup.now (context_by t c.args.is_in_form c.args.tree.now.is_quirks) c.read_in_node.result in
    let named = is_named (codes "html") (node_at (rows_in c.args.tree.now) c.in-Some.number) in
    elim c.else-is_adjacent.branch [
      | else-is_adjacent-via-then-is_adjacent+else-is_named w ↦
          held_other P (rows_in c.args.tree.now) c.args.holder c.in-Some.number c.args.is_adjacent c.in-Some.is
          (not_second c.args.is_adjacent w.is_named.result named w.if-is_adjacent.true w.is_named.ensures w.if-is_named.false)
          c.read_in_node.ensures
      | else-is_adjacent-via-else-is_adjacent w ↦
          held_other P (rows_in c.args.tree.now) c.args.holder c.in-Some.number c.args.is_adjacent c.in-Some.is
          (not_first c.args.is_adjacent named w.if-is_adjacent.false)
          c.read_in_node.ensures
    ]
