use Rattle.std.proofs.Common.{false, ℕ, ◌<◌, ◌≡◌, ◌≤◌}
use Rattle.tl_tree.specs.Inner.Adopted.{frame_at, is_block}
use Rattle.tl_tree.specs.Inner.Tests.{tag_test_of}
use Rattle.tl_tree.proofs.path.FramePath.block_from.Given as goal

abbrev pub invariant-loop-place : goal.invariant-loop-place
invariant-loop-place l =
    (i : ℕ) → l.start ≤ i → i < l.place → is_block (tag_test_of l.test) (frame_at l.self i) ≡ false
