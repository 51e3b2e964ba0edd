use Rattle.std.proofs.Common.{◌++◌, List, ℕ, map, ap, ◌∙◌, rules, string_bytes, subst}
use Rattle.tl_spec.specs.Print.Clean.{IsCleanNode}
use Rattle.tl_spec.specs.Tree.Document.{Tag}
use Rattle.tl_spec.specs.Print.Normal.{ReadsAs}
use Rattle.tl_spec.specs.Print.{print}
use Rattle.tl_spec.specs.Walk.{all_tags, prints_children, trees, walk_of}
use Rattle.tl.specs.View.{node_view, tag_view}
use Rattle.tl.proofs.Printing.{reads-node}
use Rattle.tl.proofs.walk.print.HTMLTag.outer_html.Goals as goal

pub returns-clause-answers : goal.returns-clause-answers
returns-clause-answers c = search rules

pub returns-clause-identity : goal.returns-clause-identity
returns-clause-identity c =
    let own = Tag (tag_view c.args.self.now) in
    let written : List ℕ = print (trees (walk_of prints_children (map node_view c.nodes.result.now) own)) in
    subst (λ ns. IsCleanNode (map node_view ns) own → ReadsAs (string_bytes c.write_tag.new.out) (trees (walk_of all_tags (map node_view ns) own))) c.nodes.ensures.value
    (reads-node (map node_view c.nodes.result.now) own (string_bytes c.write_tag.new.out) c.in_ok-write_tag.ensures.writes.0
    (c.in_ok-write_tag.ensures.writes.1 ∙ ap (λ old. old ++ written) c.new-out.ensures.bytes) c.in_ok-write_tag.ensures.own)
