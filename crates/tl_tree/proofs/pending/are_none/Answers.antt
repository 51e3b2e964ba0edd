use Rattle.std.proofs.Common.{◌∙◌}
use Rattle.tl_tree.proofs.PendingBytes.{none-counted}
use Rattle.tl_tree.proofs.pending.are_none.Goals as goal

pub returns : goal.returns
returns c = c.is_empty.ensures ∙ none-counted c.args.bytes.now
