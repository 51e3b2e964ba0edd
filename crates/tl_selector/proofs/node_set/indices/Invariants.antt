use Rattle.std.proofs.Common.{◌≡◌, ◌<◌, ℕ, true}
use Rattle.tl_selector.specs.NodeSet.{is_at, is_in}
use Rattle.tl_selector.proofs.node_set.indices.Given as goal

abbrev pub invariant-loop-m : goal.invariant-loop-m
invariant-loop-m l = record {
  all : (m : ℕ) → m < l.m → is_at l.holds m ≡ true → is_in l.queue.items m ≡ true;
  only : (m : ℕ) → is_in l.queue.items m ≡ true → is_at l.holds m ≡ true;
}
