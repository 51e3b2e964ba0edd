use Rattle.std.proofs.Common.{sym, ◌∙◌}
use Rattle.tl_patch_edit.proofs.Edges.{last_is}
use Rattle.tl_patch_edit.proofs.seam.last_part.Goals as goal

pub returns : goal.returns
returns c = last_is c.args.parts.now _ (sym c.is_empty.ensures ∙ c.if-is_empty.false)
