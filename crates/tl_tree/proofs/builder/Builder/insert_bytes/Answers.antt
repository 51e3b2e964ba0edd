use Rattle.std.proofs.Common.{ap, ◌∙◌}
use Rattle.std.proofs.lemmas.Result.{on_ok_weaker}
use Rattle.tl_dom_spec.specs.Marks.{marked}
use Rattle.tl_dom_spec.specs.Path.{Path, Place, and_text, no_nodes, place_in, put}
use Rattle.tl_tree.proofs.Built.{known-kept, path-changed, token-kept}
use Rattle.tl_tree.specs.Inner.Builders.{builder_of}
use Rattle.tl_tree.specs.Inner.Frames.{path_of}
use Rattle.tl_tree.specs.Inner.Store.{bytes_of, node_of}
use Rattle.tl_tree.proofs.builder.Builder.insert_bytes.Goals as goal

pub invariant_of-self : goal.invariant_of-self
invariant_of-self c =
    let b = c.args.self.now in
    record { known = known-kept b c.put.new.self c.put.ensures.grows c.put.ensures.next }

pub returns-clause-ok : goal.returns-clause-ok
unfolding builder_of node_of
returns-clause-ok c =
    let b = c.args.self.now in
    let q = c.put.new.self in
    let placed : Place → Path = λ at. put at (and_text no_nodes (marked b.marks (bytes_of b.path.store c.args.text))) (path_of b.path) in
    on_ok_weaker c.put.result
    (λ is.
    path-changed b q (known-kept b q c.put.ensures.grows c.put.ensures.next)
    (placed (place_in b.is_fostering (path_of b.path))) b.path.next c.put.ensures.grows c.put.ensures.next
    (is ∙ ap placed c.place_in-place.ensures))
    c.put.ensures.ok

pub returns-clause-token : goal.returns-clause-token
returns-clause-token c =
    let b = c.args.self.now in
    token-kept b c.put.new.self _ c.put.ensures.grows
