use Rattle.std.proofs.Common.{◌∙◌}
use Rattle.tl_tree_extract.proofs.Singles.{part-end, part-less, part-plain}
use Rattle.tl_tree_extract.proofs.text.flow.part_len.Goals as goal

pub returns-then-text-len-eq32-clause-plain : goal.returns-then-text-len-eq32-clause-plain
returns-then-text-len-eq32-clause-plain c =
    part-less c.args.text.now c.unwrap_or-len.result c.if-len-gt1.true (c.unwrap_or-len.ensures ∙ part-end c.args.text.now c.memchr3.result c.memchr3.ensures)

pub returns-else-len-gt1-clause-plain : goal.returns-else-len-gt1-clause-plain
returns-else-len-gt1-clause-plain c =
    part-plain c.args.text.now c.unwrap_or-len.result (c.unwrap_or-len.ensures ∙ part-end c.args.text.now c.memchr3.result c.memchr3.ensures)
