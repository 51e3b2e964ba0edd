use Rattle.std.proofs.Common.{◌≡◌, map, take, Ok}
use Rattle.tl_program.specs.Steps.{change_of}
use Rattle.tl_program.specs.TableEdit.{table_after}
use Rattle.tl_program.proofs.script.edit.run.Given as goal

abbrev pub invariant-loop-place : goal.invariant-loop-place
invariant-loop-place l = table_after (take l.place (map change_of l.steps)) l.fn.document ≡ Ok l.document
