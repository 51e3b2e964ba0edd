-- What a call answers that goes through a table.
use Rattle.std.specs.Prelude.{◌≡◌, ◌≢◌, ⊤, Result, Ok, Err}
use Rattle.std.specs.Result.{result_err}
use Rattle.tl_spec.specs.Walk.{TreeFault}
use Rattle.tl_table.specs.TreeFault.{IsRefusal}
use Rattle.tl_table.specs.declared.errors.TreeError.{TreeError}
use Rattle.tl_table.specs.declared.errors.TreeError.TheVariants.{OutOfMemory}

-- the value of a reading, as it is shown, or its fault; or memory ran out
abbrev pub Answers : {A B : Type 0} → (A → B) → Result B TreeFault → Result A TreeError → Type 0
Answers shown reading (Ok value) = reading ≡ Ok (shown value)
Answers shown reading (Err error) = IsRefusal (result_err reading) error

-- memory did not run out
abbrev pub WantsNoMemory : {A : Type 0} → Result A TreeError → Type 0
WantsNoMemory (Ok value) = ⊤
WantsNoMemory (Err error) = error ≢ OutOfMemory
