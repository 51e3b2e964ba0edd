use Rattle.std.proofs.Common.{not, length, List, ℕ, slice_index_or, ap, sym, arith}
use Rattle.std.proofs.lemmas.Bool.{eq-eqb}
use Rattle.std.proofs.lemmas.List.Sums.{prefix_len_is}
use Rattle.tl_text.specs.Inner.View.{is_not}
use Rattle.tl_text.proofs.split.first_place.Goals as goal

pub returns-else-bytes-at-clause-place : goal.returns-else-bytes-at-clause-place
returns-else-bytes-at-clause-place c =
    let s : List ℕ = c.args.bytes.now in
    sym (prefix_len_is (is_not c.args.wanted) s c.loop-at.at 0 c.loop-at.invariant.bound c.loop-at.invariant.passed (λ _. ap not (eq-eqb (slice_index_or s c.loop-at.at 0) c.args.wanted c.if-bytes-at.false)))

pub returns-after-loop-at-clause-place : goal.returns-after-loop-at-clause-place
returns-after-loop-at-clause-place c =
    let s : List ℕ = c.args.bytes.now in
    sym (prefix_len_is (is_not c.args.wanted) s c.loop-at.at 0 c.loop-at.invariant.bound c.loop-at.invariant.passed (λ l. absurd (omega arith)))
