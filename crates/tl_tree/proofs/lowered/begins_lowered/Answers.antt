use Rattle.std.proofs.Common.{◌∙◌}
use Rattle.tl_tree.proofs.Pointed.{begins-low}
use Rattle.tl_tree.proofs.lowered.begins_lowered.Goals as goal

pub returns-then-bytes-lower : goal.returns-then-bytes-lower
returns-then-bytes-lower c = c.is_lowered.ensures ∙ begins-low c.args.bytes.now c.args.lower.now
