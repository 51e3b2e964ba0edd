use Rattle.std.proofs.Common.{◌≡◌, IsUtf8, Some}
use Rattle.std.specs.Str.Iter.{chars_rest}
use Rattle.std.specs.Str.{chars}
use Rattle.tl_encoding.specs.Encoders.{appended, encoded}
use Rattle.tl_encoding.proofs.encoder.encode.Given as goal

-- what is written, and then the bytes of the characters that are left, are all
abbrev pub invariant-loop-character : goal.invariant-loop-character
invariant-loop-character l = record {
  text : IsUtf8 (chars_rest l.character-iterator);
  all : encoded l.encoding (chars l.text) ≡ appended (Some l.bytes.items) (encoded l.encoding (chars (chars_rest l.character-iterator)));
}
