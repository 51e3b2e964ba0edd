-- What becomes of a token, where what is done first may not be possible.
use Rattle.std.specs.Prelude.{Err, Ok, Result}
use Rattle.tl_tree.specs.declared.error.GrowError.{GrowError}
use Rattle.tl_tree.specs.declared.outcome.Outcome.{Outcome}

abbrev pub after : Outcome → Result Unit GrowError → Result Outcome GrowError
after outcome (Ok _) = Ok outcome
after outcome (Err error) = Err error
