use Rattle.std.proofs.Common.{◌+◌, ◌≡◌, length}
use Rattle.std.specs.List.{list_any}
use Rattle.std.specs.Option.{option_map_or}
use Rattle.tl_values.specs.Inner.Parameters.{parameters_left}
use Rattle.tl_values.specs.Parameters.{is_named, parameters_of}
use Rattle.tl_values.proofs.parameters.has_named.Given as goal

-- none so far is one
abbrev pub invariant-loop-rest : goal.invariant-loop-rest
invariant-loop-rest l =
    list_any (is_named l.pattern) (parameters_of l.query)
    ≡ list_any (is_named l.pattern) (parameters_left l.rest)

abbrev pub decreases-loop-rest : goal.decreases-loop-rest
decreases-loop-rest l = option_map_or (λ r. length r.now + 1) l.rest 0
