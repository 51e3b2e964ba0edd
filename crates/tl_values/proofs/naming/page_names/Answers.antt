use Rattle.std.proofs.Common.{◌≡◌}
use Rattle.tl_tree.specs.TreeView.{rows_in}
use Rattle.tl_values.specs.Naming.{names_before}
use Rattle.tl_values.proofs.NamesGot.{page_more}
use Rattle.tl_values.proofs.naming.page_names.Goals as goal

pub loop-number-preserved : goal.loop-number-preserved
loop-number-preserved c =
    page_more _ c.args.key.now (rows_in c.args.tree.now) c.loop-number.number _ c.value_at-value.ensures
    (c.in_ok-add_value.ensures (names_before c.args.key.now (rows_in c.args.tree.now) c.loop-number.number) c.loop-number.invariant)
