use Rattle.std.proofs.Common.{◌≡◌, ◌++◌, IsUtf8}
use Rattle.std.specs.Str.Iter.{chars_rest}
use Rattle.std.specs.Str.{chars}
use Rattle.tl_encoding.specs.Marks.{unmarked}
use Rattle.tl_encoding.proofs.marks.unmarked.Given as goal

-- what is written, and then the bytes of the characters that are left, is all
abbrev pub invariant-loop-character : goal.invariant-loop-character
invariant-loop-character l = record {
  text : IsUtf8 (chars_rest l.character-iterator);
  all : l.bytes.items ++ unmarked (chars (chars_rest l.character-iterator)) ≡ unmarked (chars l.text);
}
