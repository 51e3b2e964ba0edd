use Rattle.std.proofs.Common.{◌≡◌, length}
use Rattle.tl_encoding.specs.Runs.{from_word}
use Rattle.tl_encoding.proofs.run.from_word.Given as goal

-- the word stands in what is left where it stands in all
abbrev pub invariant-loop-rest : goal.invariant-loop-rest
invariant-loop-rest l = from_word l.word l.bytes ≡ from_word l.word l.rest

abbrev pub decreases-loop-rest : goal.decreases-loop-rest
decreases-loop-rest l = length l.rest
