use Rattle.std.proofs.Common.{◌∙◌}
use Rattle.tl_tree_extract.proofs.Flows.{line-len}
use Rattle.tl_tree_extract.proofs.text.flow.line_len.Goals as goal

pub returns : goal.returns
returns c = c.unwrap_or.ensures ∙ line-len c.args.text.now c.memchr.result c.memchr.ensures
