use Rattle.std.proofs.Common.{IsTrue, None, Some, ℕ, ◌+◌, ◌≡◌}
use Rattle.std.specs.Option.{MatchOption}
use Rattle.tl_tree.specs.Inner.Gathering.{gathered}
use Rattle.tl_tree.specs.Inner.Settling.{Sound, stack_weight, state_of, weight_of, whole_of}
use Rattle.tl_tree.specs.Inner.Store.{IsAlike, is_row, nodes_of}
use Rattle.tl_tree.proofs.settling.Settling.run.Given as goal

abbrev pub invariant-loop-next : goal.invariant-loop-next
invariant-loop-next l =
    Sound l.self
    × IsAlike l.initial.self.store l.self.store
    × MatchOption l.next
    (state_of l.self ≡ gathered (nodes_of l.initial.self.store l.initial.row) (state_of l.initial.self))
    (λ row. IsTrue (is_row l.self.store row)
    × (whole_of l.self (nodes_of l.self.store row) ≡ gathered (nodes_of l.initial.self.store l.initial.row) (state_of l.initial.self)))

abbrev pub decreases-loop-next : goal.decreases-loop-next
decreases-loop-next l =
    elim l.next as (λ _. ℕ) [
      | None ↦ 0
      | Some row ↦ 1 + weight_of l.self.store row + stack_weight l.self.store l.self.stack.items
    ]
