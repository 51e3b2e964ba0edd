-- Why a command is not carried out.
use Rattle.std.specs.Prelude.{Bool, true, false, Result, Ok, Err, ⊤}
use Rattle.tl_page.specs.declared.failure.Failure.{Failure}
use Rattle.tl_page.specs.declared.failure.Failure.TheVariants.{Refused, NotUnderstood, OutOfMemory, Fault}
use Rattle.tl_program.specs.declared.script.step.StepError.{StepError}
use Rattle.tl_program.specs.declared.script.step.StepError.TheVariants.{NoNode, NotTag, NoPlace, OutOfMemory as StepMemory}

-- what a refusal of a step is
abbrev pub failure_of_step : StepError → Failure
failure_of_step NoNode = Refused
failure_of_step NotTag = Refused
failure_of_step NoPlace = Refused
failure_of_step StepMemory = OutOfMemory

-- the reading failed, and memory was there
abbrev pub is_fault : {A : Type 0} → Result A Failure → Bool
is_fault (Ok x) = false
is_fault (Err Refused) = false
is_fault (Err NotUnderstood) = false
is_fault (Err OutOfMemory) = false
is_fault (Err Fault) = true

-- a reading fails by a fault or for want of memory
abbrev pub IsReadFailure : Failure → Type 0
IsReadFailure Refused = ⊥
IsReadFailure NotUnderstood = ⊥
IsReadFailure OutOfMemory = ⊤
IsReadFailure Fault = ⊤
