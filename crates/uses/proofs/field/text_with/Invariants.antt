use Rattle.std.proofs.Common.{◌≡◌, ◌++◌, ◌+◌, flat_map, length}
use Rattle.std.specs.Option.{option_map_or}
use Rattle.uses.specs.Split.{remaining_pieces}
use Rattle.uses.specs.Fields.{fields_of, opening, part_with, text_with}
use Rattle.uses.proofs.field.text_with.Given as goal

-- what is written, and then the parts that are left, are the text
abbrev pub invariant-loop-rest : goal.invariant-loop-rest
invariant-loop-rest l = l.all.items ++ flat_map (part_with (fields_of l.fields)) (remaining_pieces opening l.rest) ≡ text_with (fields_of l.fields) l.text

abbrev pub decreases-loop-rest : goal.decreases-loop-rest
decreases-loop-rest l = option_map_or (λ r. length r.now + 1) l.rest 0
