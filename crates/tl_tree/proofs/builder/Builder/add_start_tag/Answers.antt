use Rattle.tl_tree.proofs.Built.{known-kept, path-changed, token-kept}
use Rattle.tl_tree.specs.Inner.Builders.{builder_of}
use Rattle.tl_tree.specs.Inner.Frames.{path_of}
use Rattle.tl_tree.proofs.builder.Builder.add_start_tag.Goals as goal

pub invariant_of-self : goal.invariant_of-self
invariant_of-self c =
    let b = c.args.self.now in
    record { known = known-kept b c.add_start_tag.new.self c.add_start_tag.ensures.grows c.add_start_tag.ensures.next }

pub returns-clause-ok : goal.returns-clause-ok
unfolding builder_of
returns-clause-ok c =
    let b = c.args.self.now in
    let q = c.add_start_tag.new.self in
    path-changed b q (known-kept b q c.add_start_tag.ensures.grows c.add_start_tag.ensures.next)
    (path_of b.path) b.path.next c.add_start_tag.ensures.grows c.add_start_tag.ensures.next c.add_start_tag.ensures.path

pub returns-clause-token : goal.returns-clause-token
returns-clause-token c =
    let b = c.args.self.now in
    let q = c.add_start_tag.new.self in
    token-kept b q _ c.add_start_tag.ensures.grows

pub returns-clause-tag : goal.returns-clause-tag
unfolding builder_of
returns-clause-tag c = c.add_start_tag.ensures.tag
