use Rattle.std.proofs.Common.{◌≡◌, ◌++◌, IsUtf8, flat_map, string_bytes}
use Rattle.std.specs.Str.Iter.{chars_rest}
use Rattle.std.specs.Str.{chars}
use Rattle.tl_encoding.specs.Encoders.{written}
use Rattle.tl_encoding.proofs.encoder.with_references.Given as goal

-- what is written, and then the characters that are left, are all
abbrev pub invariant-loop-character : goal.invariant-loop-character
invariant-loop-character l = record {
  text : IsUtf8 (chars_rest l.character-iterator);
  all : string_bytes l.own ++ flat_map (written l.encoding) (chars (chars_rest l.character-iterator)) ≡ flat_map (written l.encoding) (chars l.text);
}
