use Rattle.std.proofs.Common.{sym, ◌∙◌}
use Rattle.tl_html_print.proofs.Laid.{void_whole}
use Rattle.tl_html_print.specs.Inner.Printed.{tag_at}
use Rattle.tl_tree.specs.TreeView.{rows_in}
use Rattle.tl_html_print.proofs.pretty.stand.is_broken.Goals as goal

pub returns-then-is_void : goal.returns-then-is_void
returns-then-is_void c =
    sym (void_whole (tag_at (rows_in c.args.tree.now) c.args.number) (sym c.is_void.ensures ∙ c.if-is_void.true))
