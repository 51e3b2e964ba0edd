use Rattle.tl_tree_safe.proofs.OpenElements.{begin_spot}
use Rattle.tl_tree_safe.proofs.writer.Writer.new.Goals as goal

pub returns : goal.returns
returns c = begin_spot c.outermost_level.result c.new.result.items c.outermost_level.ensures c.new.ensures.items
