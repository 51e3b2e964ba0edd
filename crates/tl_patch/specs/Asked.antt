-- One patch of a page, as it is asked of the pieces of the page.
use Rattle.std.specs.Prelude.{◌≡◌, ℕ, List, Some, ⊤}
use Rattle.std.specs.List.{slice_get}
use Rattle.tl_html_spec.specs.HtmlTokenizer.{html_tokens, without_mark}
use Rattle.tl_html_spec.specs.Pieces.{Piece, bytes_of, pieces, placed, runs, tokens_in}
use Rattle.tl_html_tokens.specs.Tokens.{mark_len}
use Rattle.tl_patch.specs.PatchView.{PlacedChange}
use Rattle.tl_patch_spec.specs.Patches.{AreAsked, Patch, RenameElement, SetAttribute, UnsetAttribute}
use Rattle.tl_patch_spec.specs.Splices.{Splice, with_splices}
use Rattle.tl_patch_spec.specs.TagChanges.{Rename, Set, TagChange, Unset}

abbrev pub patch_of : TagChange → Patch
patch_of (Set key value) = SetAttribute key value
patch_of (Unset key) = UnsetAttribute key
patch_of (Rename name) = RenameElement name

-- a change of an attribute
abbrev pub IsOfAttribute : TagChange → Type 0
IsOfAttribute (Rename name) = ⊥
IsOfAttribute _ = ⊤

-- text is the page with splices of its pieces, those that the patch asks for of the piece that
-- begins at its place
pub record IsAsAsked (patch : PlacedChange) (page text : List ℕ) : Type 0 where
  pub number : ℕ
  pub piece : Piece
  pub begins : slice_get (placed (mark_len page) (runs (pieces page))) number
      ≡ Some (patch.place, piece)
  pub splices : List (Splice Piece)
  pub asked : AreAsked (runs (pieces page)) number (patch_of patch.change) splices
  pub bytes : without_mark text ≡ bytes_of (with_splices (runs (pieces page)) splices)
  pub tokens : html_tokens text ≡ tokens_in (with_splices (runs (pieces page)) splices)
