use Rattle.std.proofs.lemmas.Result.{on_ok_weaker}
use Rattle.tl_dom_spec.specs.Path.{popped}
use Rattle.tl_tree.proofs.Built.{known-kept, path-changed, token-kept}
use Rattle.tl_tree.specs.Inner.Builders.{builder_of}
use Rattle.tl_tree.specs.Inner.Frames.{path_of}
use Rattle.tl_tree.proofs.builder.Builder.pop_current_node.Goals as goal

pub invariant_of-self : goal.invariant_of-self
invariant_of-self c =
    let b = c.args.self.now in
    record { known = known-kept b c.pop.new.self c.pop.ensures.grows c.pop.ensures.next }

pub returns-clause-ok : goal.returns-clause-ok
unfolding builder_of
returns-clause-ok c =
    let b = c.args.self.now in
    let q = c.pop.new.self in
    on_ok_weaker c.pop.result
    (path-changed b q (known-kept b q c.pop.ensures.grows c.pop.ensures.next)
    (popped (path_of b.path)) b.path.next c.pop.ensures.grows c.pop.ensures.next)
    c.pop.ensures.ok

pub returns-clause-token : goal.returns-clause-token
returns-clause-token c =
    let b = c.args.self.now in
    let q = c.pop.new.self in
    token-kept b q _ c.pop.ensures.grows
