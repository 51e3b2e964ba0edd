use Rattle.std.proofs.lemmas.Result.{on_ok_weaker}
use Rattle.tl_dom_spec.specs.Builder.{with_more}
use Rattle.tl_dom_spec.specs.Path.{at_number}
use Rattle.tl_tree.proofs.Built.{known-kept, path-changed, token-kept}
use Rattle.tl_tree.specs.Inner.Builders.{builder_of, token_of}
use Rattle.tl_tree.specs.Inner.Frames.{path_of}
use Rattle.tl_tree.specs.Inner.Stack.{retagged_by}
use Rattle.tl_tree.specs.Inner.Store.{tag_at}
use Rattle.tl_tree.proofs.builder.Builder.add_attributes.Goals as goal

pub invariant_of-self : goal.invariant_of-self
invariant_of-self c =
    let b = c.args.self.now in
    record { known = known-kept b c.add_attributes.new.self c.add_attributes.ensures.grows c.add_attributes.ensures.next }

pub returns-clause-ok : goal.returns-clause-ok
unfolding builder_of token_of
returns-clause-ok c =
    let b = c.args.self.now in
    let q = c.add_attributes.new.self in
    let g = c.add_attributes.ensures.grows in
    let next = c.add_attributes.ensures.next in
    let more = retagged_by (with_more (tag_at b.path.store b.tag).attributes) in
    on_ok_weaker c.add_attributes.result
    (path-changed b q (known-kept b q g next) (at_number c.args.number more (path_of b.path)) b.path.next g next)
    c.add_attributes.ensures.path

pub returns-clause-token : goal.returns-clause-token
returns-clause-token c =
    let b = c.args.self.now in
    token-kept b c.add_attributes.new.self _ c.add_attributes.ensures.grows
