use Rattle.std.proofs.Common.{◌+◌, ◌++◌, ◌≡◌, filter, length}
use Rattle.std.specs.List.{join_with_byte}
use Rattle.std.specs.Option.{option_map_or}
use Rattle.tl_values.specs.Inner.Parameters.{joined_all, parameters_left}
use Rattle.tl_values.specs.Parameters.{is_other_named, parameters_of}
use Rattle.tl_values.proofs.parameters.others.Given as goal

-- the parameters so far, and then those of what is left
abbrev pub invariant-loop-rest : goal.invariant-loop-rest
invariant-loop-rest l =
    join_with_byte 38 (filter (is_other_named l.pattern) (parameters_of l.query))
    ≡ l.kept.items ++ joined_all l.is_first (filter (is_other_named l.pattern) (parameters_left l.rest))

abbrev pub decreases-loop-rest : goal.decreases-loop-rest
decreases-loop-rest l = option_map_or (λ r. length r.now + 1) l.rest 0
