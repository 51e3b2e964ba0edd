-- The faults of a walk as errors.
use Rattle.std.specs.Prelude.{◌≡◌, ℕ, List, Option, Some, None, IfSome, slice_get}
use Rattle.tl_spec.specs.Walk.{TreeFault, Dangling, Cycle}
use Rattle.tl_table.specs.declared.errors.TreeError.{TreeError}
use Rattle.tl_table.specs.declared.errors.TreeError.TheVariants.{Dangling as DanglingError, Cycle as CycleError, OutOfMemory}

-- the error that says a fault
abbrev pub error_of : TreeFault → TreeError
error_of (Dangling h) = DanglingError h
error_of (Cycle h) = CycleError h

-- the fault that an error says; none where memory ran out
abbrev pub fault_of : TreeError → Option TreeFault
fault_of (DanglingError h) = Some (Dangling h)
fault_of (CycleError h) = Some (Cycle h)
fault_of OutOfMemory = None

-- the error says this fault; or memory ran out
abbrev pub IsRefusal : Option TreeFault → TreeError → Type 0
IsRefusal fault error = IfSome (fault_of error) (λ f. fault ≡ Some f)

-- the first of these handles is this one, and the table has no node of it
abbrev pub FirstDangles : {N : Type 0} → List N → List ℕ → ℕ → Type 0
FirstDangles nodes handles h = (slice_get handles 0 ≡ Some h) × (slice_get nodes h ≡ None)
