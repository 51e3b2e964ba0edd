-- Why there is nothing of what was asked.
use Rattle.std.specs.Prelude.{ℕ, List, codes}
use Rattle.tl.specs.declared.errors.ParseError.{ParseError}
use Rattle.tl.specs.declared.errors.ParseError.TheVariants.{InvalidLength, OutOfMemory as ParseMemory}
use Rattle.tl_table.specs.declared.errors.TreeError.{TreeError}
use Rattle.tl_table.specs.declared.errors.TreeError.TheVariants.{Dangling, Cycle, OutOfMemory as TreeMemory}
use Rattle.tl_page.specs.declared.failure.Failure.{Failure}
use Rattle.tl_page.specs.declared.failure.Failure.TheVariants.{Refused, NotUnderstood, OutOfMemory, Fault}

-- what a refusal to read a text is
abbrev pub failure_of_parse : ParseError → Failure
failure_of_parse InvalidLength = NotUnderstood
failure_of_parse ParseMemory = OutOfMemory

-- what a refusal to walk a tree is
abbrev pub failure_of_tree : TreeError → Failure
failure_of_tree (Dangling h) = Refused
failure_of_tree (Cycle h) = Refused
failure_of_tree TreeMemory = OutOfMemory

-- the reason in words
abbrev pub reason_of : Failure → List ℕ
reason_of Refused = codes "refused"
reason_of NotUnderstood = codes "not understood"
reason_of OutOfMemory = codes "out of memory"
reason_of Fault = codes "read or write failed"

-- the status of a program that ends with it
abbrev pub status_of_failure : Failure → ℕ
status_of_failure Refused = 1
status_of_failure NotUnderstood = 2
status_of_failure OutOfMemory = 3
status_of_failure Fault = 4
