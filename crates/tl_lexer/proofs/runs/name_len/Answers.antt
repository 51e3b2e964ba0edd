use Rattle.std.proofs.Common.{length, unwrap_or, not, ap, ◌∙◌}
use Rattle.std.proofs.Math.Bool.{not-not}
use Rattle.tl_spec.specs.Lex.ByteClass.{is_name}
use Rattle.tl_bytes.specs.Search.{is_not_name}
use Rattle.tl_lexer.proofs.Lengths.{first_or_length, prefix_len-same}
use Rattle.tl_lexer.proofs.runs.name_len.Goals as goal

pub returns-clause-run : goal.returns-clause-run
returns-clause-run c =
    let s = c.args.s.now in
    c.unwrap_or.ensures
    ∙ ap (λ r. unwrap_or r (length s)) c.search_non_name.ensures
    ∙ first_or_length is_not_name s
    ∙ prefix_len-same (λ b. not (is_not_name b)) is_name (λ b. not-not (is_name b)) s
