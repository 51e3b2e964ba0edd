use Rattle.std.proofs.Common.{◌∙◌, ap, sym}
use Rattle.std.proofs.lemmas.Str.{IsUtf8-past_char, chars_past_char}
use Rattle.tl_encoding.specs.Marks.{has_mark}
use Rattle.tl_encoding.proofs.Encoded.{no_chars}
use Rattle.tl_encoding.proofs.Unmarked.{found, passed}
use Rattle.tl_encoding.proofs.marks.has_mark.Goals as goal

pub returns-then-is_mark : goal.returns-then-is_mark
returns-then-is_mark c =
    let held = c.loop-character.invariant in
    let points = chars_past_char _ _ c.in-Some.character held.text c.in-Some.ensures.steps.0 in
    sym (held.all ∙ found _ _ _ points (sym c.is_mark.ensures ∙ c.if-is_mark.true))

pub loop-character-preserved : goal.loop-character-preserved
loop-character-preserved c =
    let held = c.loop-character.invariant in
    let parts = c.in-Some.ensures.steps.0 in
    record {
      text = IsUtf8-past_char _ _ c.in-Some.character held.text parts;
      all = held.all ∙ passed _ _ _ (chars_past_char _ _ c.in-Some.character held.text parts) (sym c.is_mark.ensures ∙ c.if-is_mark.false);
    }

pub returns : goal.returns
returns c = sym (c.loop-character.invariant.all ∙ ap has_mark (no_chars _ c.in-None.ensures.steps.0.0))
