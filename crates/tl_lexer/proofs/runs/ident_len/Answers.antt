use Rattle.std.proofs.Common.{length, unwrap_or, not, ap, ◌∙◌}
use Rattle.std.proofs.Math.Bool.{not-not}
use Rattle.tl_spec.specs.Lex.ByteClass.{is_ident}
use Rattle.tl_bytes.specs.Search.{is_not_ident}
use Rattle.tl_lexer.proofs.Lengths.{first_or_length, prefix_len-same}
use Rattle.tl_lexer.proofs.runs.ident_len.Goals as goal

pub returns-clause-run : goal.returns-clause-run
returns-clause-run c =
    let s = c.args.s.now in
    c.unwrap_or.ensures
    ∙ ap (λ r. unwrap_or r (length s)) c.search_non_ident.ensures
    ∙ first_or_length is_not_ident s
    ∙ prefix_len-same (λ b. not (is_not_ident b)) is_ident (λ b. not-not (is_ident b)) s
