use Rattle.std.proofs.Common.{◌∙◌, lit<}
use Rattle.tl_program.proofs.Numbers.{number_read, no_plus}
use Rattle.tl_program.proofs.script.parser.number.Goals as goal

pub returns : goal.returns
returns c =
    let signed = c.starts_with.ensures.byte (lit< tt) (lit< tt) (λ w o h. h) in
    c.ok.ensures.value ∙ number_read c.args.digits.now c.parse.result c.parse.ensures.value.0 (no_plus c.args.digits.now c.starts_with.result signed c.if-starts_with.false)
