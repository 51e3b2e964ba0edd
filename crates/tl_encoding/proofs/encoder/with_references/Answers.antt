use Rattle.std.proofs.Common.{◌∙◌, append_assoc, append-nil, sym}
use Rattle.std.proofs.lemmas.Str.{IsUtf8-past_char, chars_past_char}
use Rattle.tl_encoding.proofs.Encoded.{no_chars}
use Rattle.tl_encoding.proofs.encoder.with_references.Goals as goal

pub loop-character-preserved : goal.loop-character-preserved
loop-character-preserved c =
    let held = c.loop-character.invariant in
    let parts = c.in-Some.ensures.steps.0 in
    record {
      text = IsUtf8-past_char _ _ c.in-Some.character held.text parts;
      all = rw (c.in_ok-push_written.ensures, append_assoc) (rw (chars_past_char _ _ c.in-Some.character held.text parts) at held.all);
    }

pub returns : goal.returns
returns c = sym (append-nil _) ∙ rw (no_chars _ c.in-None.ensures.steps.0.0) at c.loop-character.invariant.all
