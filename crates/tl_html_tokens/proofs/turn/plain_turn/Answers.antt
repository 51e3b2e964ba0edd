use Rattle.std.proofs.Common.{◌∙◌}
use Rattle.tl_html_tokens.proofs.Defaults.{in_no_reference}
use Rattle.tl_html_tokens.proofs.turn.plain_turn.Goals as goal

pub returns-in_default : goal.returns-in_default
returns-in_default c =
    let d = c.in_default in
    c.tag_turn.ensures
    ∙ in_no_reference c.args.stage c.args.byte d.not-Whole d.not-Reference d.not-NamedReference d.not-NumericReference d.not-HexadecimalStart d.not-DecimalStart
    d.not-Hexadecimal d.not-Decimal d.not-TagOpen d.not-EndTagOpen d.not-RawLessThan d.not-RawEndTagOpen
