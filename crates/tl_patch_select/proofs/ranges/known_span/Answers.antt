use Rattle.std.proofs.Common.{arith, length, ◌<◌}
use Rattle.tl_patch_select.proofs.ranges.known_span.Goals as goal

pub returns : goal.returns
returns c = c.requires.spans.each c.args.at _ (let l : c.args.at < length c.args.spans.now = omega (arith, c.requires.spans.count, c.requires.within) in l)
