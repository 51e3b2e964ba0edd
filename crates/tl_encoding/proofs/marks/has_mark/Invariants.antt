use Rattle.std.proofs.Common.{◌≡◌, IsUtf8}
use Rattle.std.specs.Str.Iter.{chars_rest}
use Rattle.std.specs.Str.{chars}
use Rattle.tl_encoding.specs.Marks.{has_mark}
use Rattle.tl_encoding.proofs.marks.has_mark.Given as goal

-- none stands in what was looked at
abbrev pub invariant-loop-character : goal.invariant-loop-character
invariant-loop-character l = record {
  text : IsUtf8 (chars_rest l.character-iterator);
  all : has_mark (chars l.text) ≡ has_mark (chars (chars_rest l.character-iterator));
}
