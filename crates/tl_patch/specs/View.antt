-- Splices of the code, as the definitions have them.
use Rattle.std.specs.Prelude.{ℕ}
use Rattle.tl_patch.specs.declared.splice.Splice.{Splice as CodeSplice}
use Rattle.tl_patch_spec.specs.Splices.{Splice}

abbrev pub splice_view : CodeSplice → Splice ℕ
splice_view s = record { from = s.from; until = s.until; put = s.put.now }
