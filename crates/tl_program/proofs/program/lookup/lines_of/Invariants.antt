use Rattle.std.proofs.Common.{◌≡◌, ◌++◌, string_bytes}
use Rattle.tl_program.specs.Output.{number_lines}
use Rattle.tl_program.proofs.program.lookup.lines_of.Given as goal

-- what is written, and then the lines of the handles that are left, are all the lines
abbrev pub invariant-loop-handle : goal.invariant-loop-handle
invariant-loop-handle l = string_bytes l.lines ++ number_lines l.handle-iterator ≡ number_lines l.initial.handle-iterator
