-- Words for worked rows. No contract cites them.
use Prim.Native.String.{String}
use Rattle.std.specs.Prelude.{List, codes, ℕ}
use Rattle.tl_patch_edit.specs.Apart.{refused_apart, unstarted_in}
use Rattle.tl_patch_edit.specs.Stretches.{stretches, tail_begin}
use Rattle.tl_patch_edit.specs.declared.error.EditError.{EditError}
use Rattle.tl_patch_edit.specs.declared.reach.Stretch.{Stretch}
use Rattle.tl_patch_spec.specs.Patches.{Fill, Patch, Text}
use Rattle.tl_patch_spec.specs.Together.{at_each}

abbrev pub from_to : ℕ → ℕ → Stretch
from_to start end = record { start = start; end = end }

abbrev pub stretches_in : String → List Stretch
stretches_in page = stretches (codes page)

abbrev pub tail_in : String → ℕ
tail_in page = tail_begin (codes page)

abbrev pub unstarted_of : String → List ℕ → List ℕ
unstarted_of page places = unstarted_in (codes page) places

abbrev pub filled : Patch
filled = Fill (Text (codes "x"))

abbrev pub refused_of : String → Patch → List ℕ → List EditError
refused_of page patch places = refused_apart (codes page) (at_each patch places)
