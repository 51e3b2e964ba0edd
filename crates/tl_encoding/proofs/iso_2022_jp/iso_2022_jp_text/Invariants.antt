use Rattle.std.proofs.Common.{◌≡◌, ◌++◌, drop, string_bytes}
use Rattle.tl_encoding.specs.Iso2022Jp.{iso_2022_jp, start}
use Rattle.tl_encoding.proofs.iso_2022_jp.iso_2022_jp_text.Given as goal

-- what is written, and then what the bytes that are left give, is all
abbrev pub invariant-loop-byte : goal.invariant-loop-byte
invariant-loop-byte l = string_bytes l.text ++ iso_2022_jp l.state (drop l.byte-index l.bytes) ≡ iso_2022_jp start l.bytes
