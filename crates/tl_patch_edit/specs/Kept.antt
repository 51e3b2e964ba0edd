-- That no raw text is put where browsers may read it as markup.
use Rattle.std.specs.Prelude.{◌≡◌, ℕ, false, List, Some, map}
use Rattle.std.specs.List.{All}
use Rattle.std.specs.List.Sorted.{IsPermutation}
use Rattle.tl_patch_spec.specs.Patches.{Patch}
use Rattle.tl_patch_spec.specs.RawTexts.{is_misread}
use Rattle.tl_patch_spec.specs.Together.{Asked, ask_of, asked_each}
use Rattle.tl_patch_edit.specs.Errors.{pieces_in, placed_pieces}
use Rattle.tl_patch_edit.specs.Several.{BeginAt}

-- nothing that these patches ask for is put where a browser may read it as markup, or leaves raw
-- texts that it may
pub record KeepRawTexts (patches : List (ℕ × Patch)) (page : List ℕ) : Type 0 where
  pub numbered : List (ℕ × Patch)
  pub begin : BeginAt 0 (placed_pieces page) patches numbered
  pub each : List Asked
  pub asked : asked_each (pieces_in page) numbered ≡ Some each
  pub asks : List Asked
  pub same : IsPermutation each asks
  pub kept : All (λ ask. is_misread (pieces_in page) (map ask_of asks) ask ≡ false)
      (map ask_of asks)
