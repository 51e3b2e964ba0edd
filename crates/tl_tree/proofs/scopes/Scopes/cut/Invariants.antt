use Rattle.std.proofs.Common.{length, take, ◌≡◌}
use Rattle.tl_tree.specs.Inner.Entered.{entered}
use Rattle.tl_tree.proofs.scopes.Scopes.cut.Given as goal

abbrev pub invariant-loop-self : goal.invariant-loop-self
invariant-loop-self l = take l.len (entered l.self) ≡ take l.len (entered l.fn.self)

abbrev pub decreases-loop-self : goal.decreases-loop-self
decreases-loop-self l = length (entered l.self)
