use Rattle.std.proofs.Common.{length, unwrap_or, ap, ◌∙◌}
use Rattle.std.specs.Prelude.{◌==◌}
use Rattle.tl_lexer.proofs.Lengths.{first_or_length}
use Rattle.tl_lexer.proofs.runs.len_until.Goals as goal

pub returns-clause-run : goal.returns-clause-run
returns-clause-run c =
    let s = c.args.s.now in
    c.unwrap_or.ensures ∙ ap (λ r. unwrap_or r (length s)) c.find.ensures ∙ first_or_length (λ b. b == c.args.byte) s
