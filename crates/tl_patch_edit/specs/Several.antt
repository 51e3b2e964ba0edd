-- A page with several elements changed.
use Rattle.std.specs.Prelude.{◌≡◌, ◌==◌, ℕ, ◌≤◌, ◌<◌, Bool, true, false, List, [], ◌∷◌, length, map, Some, slice_index_or, ⊤}
use Rattle.std.specs.List.{All, slice_get}
use Rattle.std.specs.List.Sorted.{IsPermutation}
use Rattle.tl_html_spec.specs.HtmlTokenizer.{html_tokens, without_mark}
use Rattle.tl_html_spec.specs.Pieces.{Piece, bytes_of, pieces, placed, runs, tokens_in}
use Rattle.tl_html_tokens.specs.Tokens.{mark_len}
use Rattle.tl_html_tokens.specs.declared.token.Token.{Token}
use Rattle.tl_patch_spec.specs.Elements.{Element}
use Rattle.tl_patch_spec.specs.Patches.{Dropped, Patch, extent_in}
use Rattle.tl_patch_spec.specs.Splices.{Splice, with_splices}
use Rattle.tl_patch_spec.specs.Together.{AreAskedTogether, Asked, ask_of, asked_at, asked_each, comes_first}
use Rattle.tl_patch_edit.specs.Asks.{ask_view}
use Rattle.tl_patch_edit.specs.Found.{IsStartAt, IsStartOf}
use Rattle.tl_patch_edit.specs.Seams.{AreSeparated}
use Rattle.tl_patch_edit.specs.View.{extent_view, turn_view}
use Rattle.tl_patch_edit.specs.declared.ask.Extent.{Extent}
use Rattle.tl_patch_edit.specs.declared.ask.MeantPatch.{MeantPatch}
use Rattle.tl_patch_edit.specs.declared.ask.PlacedAsk.{PlacedAsk}
use Rattle.tl_patch_edit.specs.declared.ask.PlacedPatch.{PlacedPatch}

-- the piece of this number begins at a place
abbrev pub BeginsAt : List (ℕ × Piece) → ℕ → ℕ → Type 0
BeginsAt ps place number = (piece : Piece) × (slice_get ps number ≡ Some (place, piece))

-- patches with the places at which pieces begin, and with the numbers of these pieces, which are
-- in order from a number on
abbrev pub BeginAt : ℕ → List (ℕ × Piece) → List (ℕ × Patch) → List (ℕ × Patch) → Type 0
BeginAt from ps [] [] = ⊤
BeginAt from ps (p ∷ patches) (q ∷ numbered) =
    (from ≤ q.0) × BeginsAt ps p.0 q.0 × (q.1 ≡ p.1) × BeginAt q.0 ps patches numbered
BeginAt from ps _ _ = ⊥

-- text is the page with splices of its pieces, those that these patches ask for, each of the
-- element whose start tag begins at its place, with separators exactly where they have to stand;
-- no other byte changes, and the tokens of the text are those of the spliced pieces
pub record AreEdited (patches : List (ℕ × Patch)) (page text : List ℕ) : Type 0 where
  pub numbered : List (ℕ × Patch)
  pub begin : BeginAt 0 (placed (mark_len page) (runs (pieces page))) patches numbered
  pub splices : List (Splice Piece)
  pub asked : AreAskedTogether (runs (pieces page)) numbered splices
  pub separated : AreSeparated (runs (pieces page)) (map ask_of asked.asks) splices
  pub mark : mark_len text ≡ mark_len page
  pub bytes : without_mark text ≡ bytes_of (with_splices (runs (pieces page)) splices)
  pub tokens : html_tokens text ≡ tokens_in (with_splices (runs (pieces page)) splices)

-- the places of patches
abbrev pub places_of : List (ℕ × Patch) → List ℕ
places_of patches = map (λ (p : ℕ × Patch). p.0) patches

-- whether the first two of some places are the same
abbrev pub stands_twice : List ℕ → Bool
stands_twice (place ∷ next ∷ places) = place == next
stands_twice _ = false

-- the same of tokens

-- the start tags that patches are meant for, by their numbers, from a number on
abbrev pub AreMeantAt : ℕ → List Token → List PlacedPatch → List MeantPatch → Type 0
AreMeantAt from tokens [] [] = ⊤
AreMeantAt from tokens (p ∷ patches) (m ∷ meant) =
    (from ≤ m.start.number) × IsStartAt tokens p.place m.start.number m.start.token
    × (m.patch ≡ p.patch) × AreMeantAt m.start.number tokens patches meant
AreMeantAt from tokens _ _ = ⊥

abbrev pub IsMeantOfPage : List ℕ → MeantPatch → Type 0
IsMeantOfPage page m = IsStartOf page m.start.number m.start.token

abbrev pub AreDropped : List Extent → Type 0
AreDropped extents = All (λ (e : Extent). extent_view e ≡ Dropped) extents

-- how far the element of each start tag goes
abbrev pub AreExtents : List Element → List Extent → Type 0
AreExtents es extents = (n : ℕ) (d : Extent) → n < length extents →
    extent_view (slice_index_or extents n d) ≡ extent_in n es

abbrev pub asked_one : PlacedAsk → Asked
asked_one p = asked_at (turn_view p.turn) (ask_view p.ask)

abbrev pub asked_view : List PlacedAsk → List Asked
asked_view asks = map asked_one asks

-- of two asks the first begins no later; where both begin at one place it ends no later; and where
-- they are for one place it comes first
pub record Precedes (a b : PlacedAsk) : Type 0 where
  pub from : a.ask.from ≤ b.ask.from
  pub until : a.ask.from ≡ b.ask.from → a.ask.until ≤ b.ask.until
  pub turn : a.ask.from ≡ b.ask.from → a.ask.until ≡ b.ask.until →
      comes_first (turn_view a.turn) (turn_view b.turn) ≡ true

abbrev pub AreInTurn : List PlacedAsk → Type 0
AreInTurn [] = ⊤
AreInTurn (a ∷ []) = ⊤
AreInTurn (a ∷ b ∷ asks) = Precedes a b × AreInTurn (b ∷ asks)

-- these are what patches ask for, in turn
pub record AreSorted (ps : List Piece) (patches : List (ℕ × Patch)) (asks : List PlacedAsk) :
    Type 0 where
  pub each : List Asked
  pub asked : asked_each ps patches ≡ Some each
  pub same : IsPermutation each (asked_view asks)
  pub in_turn : AreInTurn asks
