use Rattle.std.proofs.Common.{arith, suc, length}
use Rattle.std.proofs.lemmas.Bool.{lt-ltb}
use Rattle.tl_dom_spec.specs.Builder.{pushed_at}
use Rattle.tl_dom_spec.specs.Path.{new_frame}
use Rattle.tl_tree.proofs.Built.{known-more, on-ok-both, path-changed, token-kept}
use Rattle.tl_tree.specs.Inner.Builders.{builder_of}
use Rattle.tl_tree.specs.Inner.Frames.{path_of, place_of}
use Rattle.tl_tree.specs.Inner.Store.{tag_at}
use Rattle.tl_tree.proofs.builder.Builder.insert_tag_at.Goals as goal

pub insert_element-requires : goal.insert_element-requires
insert_element-requires c =
    let b = c.args.self.now in
    lt-ltb c.args.tag (length b.path.store.tags.items) c.requires

pub invariant_of-self : goal.invariant_of-self
invariant_of-self c =
    let b = c.args.self.now in
    record { known = known-more b c.insert_element.new.self c.insert_element.ensures.grows c.insert_element.ensures.least }

pub returns-clause-ok : goal.returns-clause-ok
unfolding builder_of
returns-clause-ok c =
    let b = c.args.self.now in
    let q = c.insert_element.new.self in
    let own = tag_at b.path.store c.args.tag in
    let place = place_of c.args.place in
    on-ok-both c.insert_element.result
    (λ is-path is-next.
    path-changed b q (known-more b q c.insert_element.ensures.grows c.insert_element.ensures.least)
    (pushed_at place (new_frame b.path.next own place) (path_of b.path)) (suc b.path.next) c.insert_element.ensures.grows (omega arith)
    is-path)
    c.insert_element.ensures.ok c.insert_element.ensures.next

pub returns-clause-token : goal.returns-clause-token
returns-clause-token c =
    let b = c.args.self.now in
    let q = c.insert_element.new.self in
    token-kept b q _ c.insert_element.ensures.grows
