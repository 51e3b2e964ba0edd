use Rattle.std.proofs.Common.{ℕ, List, [], ◌∷◌, length, unwrap_or, not, ap, ◌∙◌}
use Rattle.tl_spec.specs.Lex.ByteClass.{ends_value}
use Rattle.tl_bytes.specs.Search.{is_one_of}
use Rattle.tl_lexer.proofs.Lengths.{first_or_length, prefix_len-same, ends_value_is}
use Rattle.tl_lexer.proofs.runs.bare_len.Goals as goal

pub returns-clause-run : goal.returns-clause-run
returns-clause-run c =
    let s = c.args.s.now in
    let ends : List ℕ = 0x20 ∷ 0x0A ∷ 0x2F ∷ 0x3E ∷ [] in
    c.unwrap_or.ensures
    ∙ ap (λ r. unwrap_or r (length s)) c.find4.ensures
    ∙ first_or_length (is_one_of ends) s
    ∙ prefix_len-same (λ b. not (is_one_of ends b)) (λ b. not (ends_value b)) (λ b. ap not (ends_value_is b)) s
