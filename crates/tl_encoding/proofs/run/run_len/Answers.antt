use Rattle.std.proofs.Common.{◌∙◌, List, ℕ, sym, arith}
use Rattle.std.proofs.lemmas.List.Sums.{prefix_len_is}
use Rattle.tl_encoding.specs.Runs.{is_of}
use Rattle.tl_encoding.proofs.run.run_len.Goals as goal

pub returns-else-has-clause-run : goal.returns-else-has-clause-run
returns-else-has-clause-run c =
    let s : List ℕ = c.args.bytes.now in
    sym (prefix_len_is (is_of c.args.class) s c.loop-at.at 0 c.loop-at.invariant.bound c.loop-at.invariant.passed (λ _. sym c.has.ensures ∙ c.if-has.false))

pub returns-after-loop-at-clause-run : goal.returns-after-loop-at-clause-run
returns-after-loop-at-clause-run c =
    let s : List ℕ = c.args.bytes.now in
    sym (prefix_len_is (is_of c.args.class) s c.loop-at.at 0 c.loop-at.invariant.bound c.loop-at.invariant.passed (λ l. absurd (omega arith)))
