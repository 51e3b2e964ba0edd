use Rattle.tl_program.proofs.Pieces.{table_after-untouched, table_after-passes}
use Rattle.tl_program.proofs.script.laws.table_edits_keep_the_rest.Goals as goal

pub returns-clause-others : goal.returns-clause-others
returns-clause-others c = table_after-untouched

pub returns-clause-pieces : goal.returns-clause-pieces
returns-clause-pieces c = λ test cs t u n made owned_passes. table_after-passes test owned_passes cs t u n made
