use Rattle.std.proofs.Common.{◌≡◌, take}
use Rattle.tl_html_parts.specs.Parts.{name_of}
use Rattle.tl_html_parts.proofs.name.lowered.Given as goal

abbrev pub invariant-loop-byte : goal.invariant-loop-byte
invariant-loop-byte l = l.name.items ≡ name_of (take l.byte-index l.raw)
