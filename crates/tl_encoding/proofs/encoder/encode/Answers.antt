use Rattle.std.proofs.Common.{◌∙◌, sym}
use Rattle.std.proofs.lemmas.Str.{IsUtf8-past_char, chars_past_char}
use Rattle.tl_encoding.proofs.Encoded.{ended, lacked, more, no_chars}
use Rattle.tl_encoding.proofs.encoder.encode.Goals as goal

pub loop-character-preserved : goal.loop-character-preserved
loop-character-preserved c =
    let held = c.loop-character.invariant in
    let parts = c.in-Some.ensures.steps.0 in
    record {
      text = IsUtf8-past_char _ _ c.in-Some.character held.text parts;
      all = more c.args.encoding _ _ _ _ _ _ held.all (chars_past_char _ _ c.in-Some.character held.text parts)
          (sym c.in_ok-is_there.ensures.has ∙ c.if-not-is_there.false) c.in_ok-is_there.ensures.bytes;
    }

pub returns-then-not-is_there-clause-lacks : goal.returns-then-not-is_there-clause-lacks
returns-then-not-is_there-clause-lacks c =
    let held = c.loop-character.invariant in
    let parts = c.in-Some.ensures.steps.0 in
    lacked c.args.encoding _ _ _ c.in-Some.character _ held.all (chars_past_char _ _ c.in-Some.character held.text parts)
    (sym c.in_ok-is_there.ensures.has ∙ c.if-not-is_there.true)

pub returns-clause-bytes : goal.returns-clause-bytes
returns-clause-bytes c = ended c.args.encoding _ _ _ c.loop-character.invariant.all (no_chars _ c.in-None.ensures.steps.0.0)
