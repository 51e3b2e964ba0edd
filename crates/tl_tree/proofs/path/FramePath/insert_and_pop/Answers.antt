use Rattle.std.proofs.Common.{ap, arith, length, nat_le, nat_lt, ◌∙◌}
use Rattle.std.proofs.lemmas.Bool.{and_from, le-leb}
use Rattle.tl_dom_spec.specs.Path.{and_element, no_nodes, put}
use Rattle.tl_tree.proofs.Gone.{path-kept}
use Rattle.tl_tree.proofs.Grown.{node-element, nodes-none}
use Rattle.tl_tree.specs.Inner.Frames.{path_of, place_of}
use Rattle.tl_tree.specs.Inner.Store.{tag_at}
use Rattle.tl_tree.proofs.path.FramePath.insert_and_pop.Goals as goal

pub put-requires : goal.put-requires
put-requires c =
    let s = c.args.self.now.store in
    and_from (nat_lt c.args.tag (length s.tags.items)) (nat_le 0 (length s.cells.items)) c.requires (le-leb 0 (length s.cells.items) (omega arith))

pub returns-clause-ok : goal.returns-clause-ok
returns-clause-ok c =
    let p = c.args.self.now in
    let s = p.store in
    path-kept c.put.new.self c.count_one.new.self c.count_one.ensures.frames c.count_one.ensures.gaps
    ∙ (c.in_ok-put.ensures.ok
    ∙ ap (λ nodes. put (place_of c.args.place) nodes (path_of p)) (node-element s c.args.tag 0 ∙ ap (and_element no_nodes (tag_at s c.args.tag)) (nodes-none s)))
