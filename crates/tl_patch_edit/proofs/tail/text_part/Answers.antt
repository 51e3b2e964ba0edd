use Rattle.std.proofs.Common.{◌≡◌, ap, sym, ◌∙◌}
use Rattle.std.specs.List.{list_all}
use Rattle.tl_html_spec.specs.HtmlTokenizer.{is_white_space}
use Rattle.tl_html_tokens.specs.Characters.{characters_of}
use Rattle.tl_patch_edit.proofs.Tails.{other_text, white_text}
use Rattle.tl_patch_edit.proofs.tail.text_part.Goals as goal

pub returns-then-is_white : goal.returns-then-is_white
returns-then-is_white c =
    let text : c.as_bytes.result.now ≡ characters_of c.args.mode c.args.bytes.now = c.as_bytes.ensures ∙ c.in_ok-text.ensures in
    white_text (characters_of c.args.mode c.args.bytes.now) (ap (list_all is_white_space) (sym text) ∙ sym c.is_white_text-is_white.ensures ∙ c.if-is_white.true)

pub returns : goal.returns
returns c =
    let text : c.as_bytes.result.now ≡ characters_of c.args.mode c.args.bytes.now = c.as_bytes.ensures ∙ c.in_ok-text.ensures in
    other_text (characters_of c.args.mode c.args.bytes.now) (ap (list_all is_white_space) (sym text) ∙ sym c.is_white_text-is_white.ensures ∙ c.if-is_white.false)
