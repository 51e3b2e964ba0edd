use Rattle.std.proofs.Common.{◌≡◌, ◌==◌, ◌+◌, ℕ, List, [], drop, add-zero, arith, sym, ap, ◌∙◌}
use Rattle.std.specs.List.{common_prefix_len}
use Rattle.std.proofs.Math.ListN.{drop_of_length-le}
use Rattle.tl_text.proofs.Order.{common_none}
use Rattle.tl_text.proofs.names.shared_len.Goals as goal

pub returns-else-at-bytes : goal.returns-else-at-bytes
returns-else-at-bytes c =
    let n : List ℕ = c.args.name.now in
    let s : List ℕ = c.args.bytes.now in
    let k : ℕ = c.loop-at.at in
    let end : drop k s ≡ [] = drop_of_length-le s (omega arith) in
    sym (c.loop-at.invariant.shared ∙ ap (λ x. k + common_prefix_len ◌==◌ (drop k n) x) end ∙ ap (λ x. k + x) (common_none (drop k n)) ∙ add-zero k)
