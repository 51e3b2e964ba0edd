use Rattle.std.proofs.Common.{◌≡◌, ◌++◌, drop, string_bytes, true, IfSome}
use Rattle.std.specs.Char.Utf16.{is_high_surrogate}
use Rattle.tl_encoding.specs.Utf16.{start, utf_16}
use Rattle.tl_encoding.proofs.utf_16.utf_16_text.Given as goal

-- what is written, and then what the bytes that are left give, is all
abbrev pub invariant-loop-byte : goal.invariant-loop-byte
invariant-loop-byte l = record {
  all : string_bytes l.text ++ utf_16 l.order l.units (drop l.byte-index l.bytes) ≡ utf_16 l.order start l.bytes;
  leading : IfSome l.units.leading (λ leading. is_high_surrogate leading ≡ true);
}
