use Rattle.std.proofs.Common.{◌≡◌, drop}
use Rattle.uses.specs.Fields.{fields_of, value_of}
use Rattle.uses.proofs.field.value_of.Given as goal

-- no field so far has the name
abbrev pub invariant-loop-field : goal.invariant-loop-field
invariant-loop-field l = value_of (fields_of (drop l.field-index l.fields)) l.name ≡ value_of (fields_of l.fields) l.name
