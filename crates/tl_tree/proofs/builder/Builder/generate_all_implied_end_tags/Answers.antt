use Rattle.std.proofs.lemmas.Result.{on_ok_weaker}
use Rattle.tl_dom_spec.specs.Path.{has_tag, popped_while}
use Rattle.tl_dom_spec.specs.Tags.{is_implied_thoroughly}
use Rattle.tl_tree.proofs.Built.{known-kept, path-changed, token-kept}
use Rattle.tl_tree.specs.Inner.Builders.{builder_of}
use Rattle.tl_tree.specs.Inner.Frames.{path_of}
use Rattle.tl_tree.proofs.builder.Builder.generate_all_implied_end_tags.Goals as goal

pub invariant_of-self : goal.invariant_of-self
invariant_of-self c =
    let b = c.args.self.now in
    record { known = known-kept b c.pop_while.new.self c.pop_while.ensures.grows c.pop_while.ensures.next }

pub returns-clause-ok : goal.returns-clause-ok
unfolding builder_of
returns-clause-ok c =
    let b = c.args.self.now in
    let q = c.pop_while.new.self in
    on_ok_weaker c.pop_while.result
    (path-changed b q (known-kept b q c.pop_while.ensures.grows c.pop_while.ensures.next)
    (popped_while (has_tag is_implied_thoroughly) (path_of b.path)) b.path.next c.pop_while.ensures.grows c.pop_while.ensures.next)
    c.pop_while.ensures.ok

pub returns-clause-token : goal.returns-clause-token
returns-clause-token c =
    let b = c.args.self.now in
    let q = c.pop_while.new.self in
    token-kept b q _ c.pop_while.ensures.grows
