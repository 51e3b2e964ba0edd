use Rattle.std.proofs.Common.{Err, ap}
use Rattle.tl_c.proofs.CompiledSelectors.{compiles_nothing, compiles_some}
use Rattle.tl_c.proofs.Room.{number_of-memory}
use Rattle.tl_c.proofs.compiled_calls.tl_compile_css.Goals as goal

pub returns-in-Ok-clause-compiles : goal.returns-in-Ok-clause-compiles
returns-in-Ok-clause-compiles c =
    compiles_some c.args.selector.now c.args.compiled.now.held c.replace-before.new.self.held c.in-Ok.own.value c.replace-before.ensures.held c.in-Ok.ensures.reads

pub returns-in-Err-clause-compiles : goal.returns-in-Err-clause-compiles
returns-in-Err-clause-compiles c =
    compiles_nothing c.args.selector.now c.args.compiled.now.held c.in-Err.failure c.in-Err.ensures.reads

pub returns-in-Ok-clause-told : goal.returns-in-Ok-clause-told
returns-in-Ok-clause-told c = λ _. c.in-Ok.ensures.told (λ lost. absurd (cc))

pub returns-in-Err-clause-told : goal.returns-in-Err-clause-told
returns-in-Err-clause-told c = λ other. c.in-Err.ensures.told (λ lost. other ((number_of-memory c.in-Err.failure).1 (cc)))

pub returns-in-Err-clause-lost : goal.returns-in-Err-clause-lost
returns-in-Err-clause-lost c = λ three. c.in-Err.ensures.lost (ap Err ((number_of-memory c.in-Err.failure).0 three))
