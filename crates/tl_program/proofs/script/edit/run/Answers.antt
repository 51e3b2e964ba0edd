use Rattle.tl.specs.View.{HTMLTable}
use Rattle.std.proofs.Common.{map, take, ap, ◌∙◌}
use Rattle.tl_program.specs.Steps.{change_of}
use Rattle.tl_program.proofs.Tables.{image-table_after, table_after-version}
use Rattle.tl_program.proofs.Stepping.{steps-taken, steps-refused, steps-want, steps-all}
use Rattle.tl_program.proofs.script.edit.run.Goals as goal

pub returns-in-Err-clause-err : goal.returns-in-Err-clause-err
returns-in-Err-clause-err c = steps-refused _ _ _ _ _ _ c.loop-place-test.true c.loop-place.invariant _ c.in-Err.error c.in-Err.ensures.0 c.in-Err.ensures.1

pub returns-in-Err-clause-memory : goal.returns-in-Err-clause-memory
returns-in-Err-clause-memory c = steps-want _ _ _ c.loop-place.document _ _ c.loop-place-test.true c.loop-place.invariant c.in-Err.error c.in-Err.ensures.1

pub loop-place-preserved : goal.loop-place-preserved
loop-place-preserved c = steps-taken _ _ _ _ _ _ c.loop-place-test.true c.loop-place.invariant c.in_default.ensures

pub returns-in-Err-clause-version : goal.returns-in-Err-clause-version
returns-in-Err-clause-version c =
    ap (λ (t : HTMLTable). t.version) c.in-Err.ensures.0 ∙ table_after-version (take c.loop-place.place (map change_of c.args.steps.now)) c.args.document.now c.loop-place.document c.loop-place.invariant

pub returns-clause-ok : goal.returns-clause-ok
returns-clause-ok c =
    image-table_after (map change_of c.args.steps.now) c.args.document.now c.loop-place.document
    (steps-all _ _ _ _ c.loop-place-test.false c.loop-place.invariant)

pub returns-clause-version : goal.returns-clause-version
returns-clause-version c =
    table_after-version (map change_of c.args.steps.now) c.args.document.now c.loop-place.document
    (steps-all _ _ _ _ c.loop-place-test.false c.loop-place.invariant)
