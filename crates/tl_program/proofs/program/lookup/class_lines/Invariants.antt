use Rattle.std.proofs.Common.{◌≡◌, ◌++◌, string_bytes}
use Rattle.tl.specs.Lookup.{with_member}
use Rattle.tl_program.specs.Output.{number_lines}
use Rattle.tl_program.proofs.program.lookup.class_lines.Given as goal

-- what is written, and then the lines of the tags that are left, are all the lines
abbrev pub invariant-loop-handle : goal.invariant-loop-handle
invariant-loop-handle l = string_bytes l.lines ++ number_lines l.handle-iterator ≡ number_lines (with_member l.fn.document l.fn.member)
