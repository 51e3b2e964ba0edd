use Rattle.tl_program.proofs.Tables.{image-edited_table, image-table_after}
use Rattle.tl_program.proofs.script.laws.table_edits_are_edits.Goals as goal

pub returns-clause-one : goal.returns-clause-one
returns-clause-one c = image-edited_table

pub returns-clause-all : goal.returns-clause-all
returns-clause-all c = image-table_after
