-- Patches of the code, as the definitions have them.
use Rattle.std.specs.Prelude.{ℕ, List, map}
use Rattle.tl_patch_edit.specs.declared.ask.Content.{Content as CodeContent}
use Rattle.tl_patch_edit.specs.declared.ask.Content.TheVariants as content
use Rattle.tl_patch_edit.specs.declared.ask.ElementPatch.{ElementPatch}
use Rattle.tl_patch_edit.specs.declared.ask.ElementPatch.TheVariants as patch
use Rattle.tl_patch_edit.specs.declared.ask.Extent.{Extent as CodeExtent}
use Rattle.tl_patch_edit.specs.declared.ask.Extent.TheVariants as extent
use Rattle.tl_patch_edit.specs.declared.ask.Gone.{Gone as CodeGone}
use Rattle.tl_patch_edit.specs.declared.ask.MeantPatch.{MeantPatch}
use Rattle.tl_patch_edit.specs.declared.ask.PlacedPatch.{PlacedPatch}
use Rattle.tl_patch_edit.specs.declared.ask.Turn.{Turn as CodeTurn}
use Rattle.tl_patch_spec.specs.Together.{Gone, Turn}
use Rattle.tl_patch_spec.specs.Patches.{Alone, Append, Content, Dropped, Extent, Fill, Implied, Markup, Patch, Prepend, PutAfter, PutBefore, Remove, RenameElement, ReplaceWith, Text, Unclosed, Unwrap, Whole}

abbrev pub content_view : CodeContent → Content
content_view (content.Text text) = Text text.now
content_view (content.Markup markup) = Markup markup.now

abbrev pub patch_view : ElementPatch → Patch
patch_view (patch.Rename name) = RenameElement name.now
patch_view patch.Remove = Remove
patch_view patch.Unwrap = Unwrap
patch_view (patch.ReplaceWith c) = ReplaceWith (content_view c)
patch_view (patch.Fill c) = Fill (content_view c)
patch_view (patch.Prepend c) = Prepend (content_view c)
patch_view (patch.Append c) = Append (content_view c)
patch_view (patch.PutBefore c) = PutBefore (content_view c)
patch_view (patch.PutAfter c) = PutAfter (content_view c)

abbrev pub extent_view : CodeExtent → Extent
extent_view extent.Dropped = Dropped
extent_view extent.Alone = Alone
extent_view (extent.Whole end) = Whole end
extent_view (extent.Implied end) = Implied end
extent_view (extent.Unclosed end) = Unclosed end

-- patches with the bytes at which the start tags of their elements begin
abbrev pub patches_view : List PlacedPatch → List (ℕ × Patch)
patches_view patches = map (λ (p : PlacedPatch). (p.place, patch_view p.patch)) patches

-- and with the numbers of these start tags
abbrev pub meant_view : List MeantPatch → List (ℕ × Patch)
meant_view patches = map (λ (p : MeantPatch). (p.start.number, patch_view p.patch)) patches

abbrev pub turn_view : CodeTurn → Turn
turn_view t = record { depth = t.depth; rank = t.rank; at = t.at }

abbrev pub gone_view : CodeGone → Gone
gone_view g = record { from = g.from; until = g.until }
