use Rattle.std.proofs.Common.{take, ℕ, ◌≡◌}
use Rattle.std.specs.HashMap.{get}
use Rattle.std.specs.Prelude.{nat_eq}
use Rattle.tl_answers.specs.SourceLines.{end_from}
use Rattle.tl_answers.proofs.sources.Ends.of.Given as goal

-- the ends are those of the elements so far
abbrev pub invariant-loop-element : goal.invariant-loop-element
invariant-loop-element l =
    (place : ℕ) → get nat_eq l.ends place ≡ end_from (take l.element-index l.elements) place
