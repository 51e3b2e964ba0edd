use Rattle.std.proofs.Common.{◌≡◌, ◌++◌, drop}
use Rattle.std.specs.Prelude.{flat_map}
use Rattle.tl_patch_spec.specs.Markup.{text_byte_markup}
use Rattle.tl_patch.proofs.markup.write_text.Given as goal

abbrev pub invariant-loop-byte : goal.invariant-loop-byte
invariant-loop-byte l = l.initial.out.items ++ flat_map text_byte_markup l.text ≡ l.out.items ++ flat_map text_byte_markup (drop l.byte-index l.text)
