use Rattle.std.proofs.Common.{arith}
use Rattle.tl_tree.proofs.Written.{path-length}
use Rattle.tl_tree.specs.Inner.Builders.{builder_of}
use Rattle.tl_tree.proofs.builder.Builder.bound.Goals as goal

pub overflow_sub-frames : goal.overflow_sub-frames
overflow_sub-frames c =
    let p = c.args.self.now.path in
    let own = p.frames.ok.0 in
    let long = path-length p in
    omega arith

pub returns : goal.returns
unfolding builder_of
returns c =
    let p = c.args.self.now.path in
    let own = p.frames.ok.0 in
    let long = path-length p in
    omega arith
