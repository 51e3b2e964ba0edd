use Rattle.std.proofs.Common.{drop, ◌-◌, ◌≡◌, ◌||◌}
use Rattle.tl_tree_extract.specs.Inner.Runs.{has_idle_space}
use Rattle.tl_tree_extract.proofs.text.flow.has_idle_space.Given as goal

abbrev pub invariant-loop-place : goal.invariant-loop-place
invariant-loop-place l =
    has_idle_space l.text ≡ (l.found || has_idle_space (drop (l.place - 1) l.text))
