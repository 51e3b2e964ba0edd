use Rattle.std.proofs.Common.{ap, ◌∙◌}
use Rattle.std.proofs.lemmas.Result.{on_ok_weaker}
use Rattle.tl_tree.specs.TreeView.{rows_in}
use Rattle.tl_tree_extract.specs.Sheet.{words_of_cell}
use Rattle.tl_tree_extract.proofs.sheet.take_slot.Goals as goal

pub returns-clause-line : goal.returns-clause-line
returns-clause-line c =
    on_ok_weaker c.take_words.result
    (λ e. e ∙ ap (words_of_cell c.args.spans (rows_in c.args.tree.now) c.args.column c.args.row) (c.cell.ensures ∙ c.requires.at_row.slots c.args.column c.requires.within))
    c.take_words.ensures.line
