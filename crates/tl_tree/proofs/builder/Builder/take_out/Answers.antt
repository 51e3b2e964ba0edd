use Rattle.std.proofs.lemmas.Result.{on_ok_weaker}
use Rattle.tl_dom_spec.specs.Path.{taken_out}
use Rattle.tl_tree.proofs.Built.{known-kept, path-changed, token-kept}
use Rattle.tl_tree.specs.Inner.Builders.{builder_of}
use Rattle.tl_tree.specs.Inner.Frames.{path_of}
use Rattle.tl_tree.proofs.builder.Builder.take_out.Goals as goal

pub invariant_of-self : goal.invariant_of-self
invariant_of-self c =
    let b = c.args.self.now in
    record { known = known-kept b c.take_out.new.self c.take_out.ensures.grows c.take_out.ensures.next }

pub returns-clause-ok : goal.returns-clause-ok
unfolding builder_of
returns-clause-ok c =
    let b = c.args.self.now in
    let q = c.take_out.new.self in
    on_ok_weaker c.take_out.result
    (path-changed b q (known-kept b q c.take_out.ensures.grows c.take_out.ensures.next)
    (taken_out c.args.number (path_of b.path)) b.path.next c.take_out.ensures.grows c.take_out.ensures.next)
    c.take_out.ensures.ok

pub returns-clause-token : goal.returns-clause-token
returns-clause-token c =
    let b = c.args.self.now in
    token-kept b c.take_out.new.self _ c.take_out.ensures.grows
