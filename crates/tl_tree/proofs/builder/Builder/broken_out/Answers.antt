use Rattle.std.proofs.lemmas.Result.{on_ok_weaker}
use Rattle.tl_dom_spec.specs.Path.{popped_to}
use Rattle.tl_tree.proofs.Built.{known-kept, path-changed, token-kept}
use Rattle.tl_tree.specs.Inner.Builders.{builder_of}
use Rattle.tl_tree.specs.Inner.Frames.{path_of}
use Rattle.tl_dom_spec.specs.Dispatcher.{is_html_place}
use Rattle.tl_tree.proofs.builder.Builder.broken_out.Goals as goal

pub invariant_of-self : goal.invariant_of-self
invariant_of-self c =
    let b = c.args.self.now in
    record { known = known-kept b c.pop_to.new.self c.pop_to.ensures.grows c.pop_to.ensures.next }

pub returns-clause-ok : goal.returns-clause-ok
unfolding builder_of
returns-clause-ok c =
    let b = c.args.self.now in
    let q = c.pop_to.new.self in
    on_ok_weaker c.pop_to.result
    (path-changed b q (known-kept b q c.pop_to.ensures.grows c.pop_to.ensures.next)
    (popped_to is_html_place (path_of b.path)) b.path.next c.pop_to.ensures.grows c.pop_to.ensures.next)
    c.pop_to.ensures.ok

pub returns-clause-token : goal.returns-clause-token
returns-clause-token c =
    let b = c.args.self.now in
    let q = c.pop_to.new.self in
    token-kept b q _ c.pop_to.ensures.grows
