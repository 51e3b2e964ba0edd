use Rattle.std.proofs.lemmas.Result.{on_ok_weaker}
use Rattle.tl_dom_spec.specs.Path.{implied_closed}
use Rattle.tl_tree.proofs.Built.{known-kept, path-changed, token-kept}
use Rattle.tl_tree.specs.Inner.Builders.{builder_of}
use Rattle.tl_tree.specs.Inner.Frames.{path_of}
use Rattle.tl_tree.specs.Inner.Tests.{tag_test_of}
use Rattle.tl_tree.proofs.builder.Builder.generate_implied_end_tags_except_for.Goals as goal

pub invariant_of-self : goal.invariant_of-self
invariant_of-self c =
    let b = c.args.self.now in
    record { known = known-kept b c.close_implied.new.self c.close_implied.ensures.grows c.close_implied.ensures.next }

pub returns-clause-ok : goal.returns-clause-ok
unfolding builder_of
returns-clause-ok c =
    let b = c.args.self.now in
    let q = c.close_implied.new.self in
    on_ok_weaker c.close_implied.result
    (path-changed b q (known-kept b q c.close_implied.ensures.grows c.close_implied.ensures.next)
    (implied_closed (tag_test_of c.args.but) (path_of b.path)) b.path.next c.close_implied.ensures.grows c.close_implied.ensures.next)
    c.close_implied.ensures.ok

pub returns-clause-token : goal.returns-clause-token
returns-clause-token c =
    let b = c.args.self.now in
    let q = c.close_implied.new.self in
    token-kept b q _ c.close_implied.ensures.grows
