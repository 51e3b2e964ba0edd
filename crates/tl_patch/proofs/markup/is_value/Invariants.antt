use Rattle.std.proofs.Common.{◌≡◌, drop}
use Rattle.tl_patch_spec.specs.Markup.{is_without_nul}
use Rattle.tl_patch.proofs.markup.is_value.Given as goal

abbrev pub invariant-loop-byte : goal.invariant-loop-byte
invariant-loop-byte l = is_without_nul l.value ≡ is_without_nul (drop l.byte-index l.value)
