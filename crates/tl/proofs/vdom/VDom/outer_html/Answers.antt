use Rattle.std.proofs.Common.{◌++◌, [], List, ℕ, map, ap, ◌∙◌, rules}
use Rattle.tl_spec.specs.Print.{print}
use Rattle.tl_spec.specs.Walk.{prints_children, trees, walk}
use Rattle.tl.specs.View.{node_view}
use Rattle.tl.proofs.Printing.{reads-printed}
use Rattle.tl.proofs.vdom.VDom.outer_html.Goals as goal

pub returns-clause-identity : goal.returns-clause-identity
returns-clause-identity c =
    let written : List ℕ = print (trees (walk prints_children (map node_view c.nodes.result.now) [] c.children.result.now)) in
    rw (← c.nodes.ensures.value, ← c.children.ensures)
    (reads-printed (map node_view c.nodes.result.now) c.children.result.now _ c.in_ok-write_row.ensures.writes.0
    (c.in_ok-write_row.ensures.writes.1 ∙ ap (λ old. old ++ written) c.new-out.ensures.bytes) c.in_ok-write_row.ensures.own)

pub returns-clause-answers : goal.returns-clause-answers
returns-clause-answers c = search rules
