use Rattle.std.proofs.Common.{◌≡◌, ◌++◌, take}
use Rattle.uses.specs.Fields.{escape}
use Rattle.uses.proofs.field.add_value.Given as goal

-- what was added are the escapes of the bytes so far
abbrev pub invariant-loop-byte : goal.invariant-loop-byte
invariant-loop-byte l = l.text.items ≡ l.initial.text.items ++ escape (take l.byte-index l.value)
