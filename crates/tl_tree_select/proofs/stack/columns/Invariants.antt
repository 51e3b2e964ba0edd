use Rattle.std.proofs.Common.{take}
use Rattle.tl_css.specs.Program.{waiting_after}
use Rattle.tl_tree_select.specs.Page.{seen}
use Rattle.tl_tree_select.specs.Inner.Columns.{AreColumns, columns_of}
use Rattle.tl_tree_select.proofs.stack.columns.Given as goal

abbrev pub invariant-loop-step : goal.invariant-loop-step
invariant-loop-step l = AreColumns (seen l.page) (waiting_after (take l.step-index l.steps)) (columns_of l.columns.items)
