use Rattle.std.proofs.Common.{◌∙◌}
use Rattle.tl_tree_extract.proofs.BoxTable.{dialog-told}
use Rattle.tl_tree_extract.proofs.text.display.is_dialog.Goals as goal

pub returns : goal.returns
returns c n e = c.eq.ensures ∙ dialog-told c.args.known n e
