use Rattle.std.proofs.Common.{◌∙◌}
use Rattle.tl_html_tokens.proofs.Defaults.{in_no_tag}
use Rattle.tl_html_tokens.proofs.turn.tag_turn.Goals as goal

pub returns-in_default : goal.returns-in_default
returns-in_default c =
    let d = c.in_default in
    c.late_turn.ensures ∙ in_no_tag c.args.stage c.args.byte d.not-BeforeKey d.not-Key d.not-AfterKey d.not-BeforeValue d.not-Value d.not-AfterValue d.not-SelfClosing
