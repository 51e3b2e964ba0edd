use Rattle.std.proofs.Common.{true, Result, Ok, refl, sym, ap, subst}
use Rattle.tl_spec.specs.Edit.{Refusal}
use Rattle.tl.specs.View.{HTMLNode}
use Rattle.tl_program.specs.declared.script.step.StepError.{StepError}
use Rattle.tl_program.proofs.Stepping.{node-stepped, kept_for_memory}
use Rattle.tl_program.proofs.script.edit.replace_node.Goals as goal

pub returns-in_err-copy : goal.returns-in_err-copy
returns-in_err-copy g c = λ node makes.
    let edit : HTMLNode → Result HTMLNode Refusal = λ _. Ok node in
    kept_for_memory _ _ _ _ c.parser_mut.ensures.value c.in-Some.ensures.value true edit _ c.from_residual.ensures.1 refl refl

pub returns : goal.returns
returns g c = λ node makes.
    let edit : HTMLNode → Result HTMLNode Refusal = λ _. Ok node in
    let made : HTMLNode → Result HTMLNode Refusal = λ m. Ok m in
    let told : Result (Unit {0}) StepError = Ok tt in
    let post = subst (λ k. g.F.FnOnce.post c.args.make (k, tt) c.make.result) c.in_ok-copy.ensures c.make.ensures in
    node-stepped _ _ _ _ c.parser_mut.ensures.value c.in-Some.ensures.value true edit c.make.result told (sym (ap made (makes c.make.result post)))
