use Rattle.std.proofs.Common.{ap, arith, suc, ◌∙◌, length}
use Rattle.std.proofs.lemmas.Bool.{lt-ltb}
use Rattle.tl_dom_spec.specs.Path.{Path, Place, and_element, no_nodes, place_in, put}
use Rattle.tl_tree.proofs.Built.{known-more, on-ok-both, path-changed, token-kept}
use Rattle.tl_tree.specs.Inner.Builders.{builder_of}
use Rattle.tl_tree.specs.Inner.Frames.{path_of}
use Rattle.tl_tree.specs.Inner.Store.{tag_at}
use Rattle.tl_tree.proofs.builder.Builder.insert_and_pop_tag.Goals as goal

pub insert_and_pop-requires : goal.insert_and_pop-requires
insert_and_pop-requires c =
    let b = c.args.self.now in
    lt-ltb c.args.tag (length b.path.store.tags.items) c.requires

pub invariant_of-self : goal.invariant_of-self
invariant_of-self c =
    let b = c.args.self.now in
    record { known = known-more b c.insert_and_pop.new.self c.insert_and_pop.ensures.grows c.insert_and_pop.ensures.least }

pub returns-clause-ok : goal.returns-clause-ok
unfolding builder_of
returns-clause-ok c =
    let b = c.args.self.now in
    let q = c.insert_and_pop.new.self in
    let own = tag_at b.path.store c.args.tag in
    let placed : Place → Path = λ at. put at (and_element no_nodes own no_nodes) (path_of b.path) in
    on-ok-both c.insert_and_pop.result
    (λ is-path is-next.
    path-changed b q (known-more b q c.insert_and_pop.ensures.grows c.insert_and_pop.ensures.least)
    (placed (place_in b.is_fostering (path_of b.path))) (suc b.path.next) c.insert_and_pop.ensures.grows (omega arith)
    (is-path ∙ ap placed c.place_in-place.ensures))
    c.insert_and_pop.ensures.ok c.insert_and_pop.ensures.next

pub returns-clause-token : goal.returns-clause-token
returns-clause-token c =
    let b = c.args.self.now in
    let q = c.insert_and_pop.new.self in
    token-kept b q _ c.insert_and_pop.ensures.grows
