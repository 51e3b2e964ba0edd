use Rattle.std.proofs.Common.{◌≡◌, ◌==◌, false, length, ap, sym, ◌∙◌, encode_utf8, rules}
use Rattle.tl_css.specs.Bytes.{char_of}
use Rattle.tl_css.specs.Lexical.{past_escape}
use Rattle.tl_css.proofs.Runs.{escape_number}
use Rattle.tl_css.proofs.text.run.escape.Goals as goal

pub returns-then-not-is_empty : goal.returns-then-not-is_empty
returns-then-not-is_empty c =
    let some : (length c.split_at.result.0.now == 0) ≡ false = search rules in
    let is = escape_number c.args.s.now c.split_at.result.0.now c.hex_len.result c.hex_len.ensures c.split_at.ensures.front some in
    let char = c.char_of.ensures ∙ ap char_of c.hex_number.ensures in
    let rest = c.past_escape.ensures ∙ ap past_escape c.split_at.ensures.back in
    (λ i. (encode_utf8 (char i), rest i)) ∙ sym is
