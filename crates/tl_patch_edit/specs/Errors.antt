-- Why a page is not edited.
use Rattle.std.specs.Prelude.{◌≡◌, ◌≤◌, ◌<◌, ◌⊎◌, ℕ, true, false, List, [], ◌∷◌, ◌++◌, length, map, None, Some, ⊤}
use Rattle.std.specs.List.{All, Contains, slice_get}
use Rattle.std.specs.List.Sorted.{IsPermutation}
use Rattle.tl_html_spec.specs.HtmlTokenizer.{EndTag, HtmlToken, StartTag, State, data_state}
use Rattle.tl_html_spec.specs.Pieces.{Piece, pieces, placed, runs}
use Rattle.tl_html_tokens.specs.Characters.{characters_of}
use Rattle.tl_html_tokens.specs.Kinds.{IsStartTag}
use Rattle.tl_html_tokens.specs.Modes.{state_of}
use Rattle.tl_html_tokens.specs.Tokens.{mark_len}
use Rattle.tl_html_tokens.specs.declared.mode.Mode.{Mode}
use Rattle.tl_patch.specs.Places.{begins_end_tag}
use Rattle.tl_patch_spec.specs.Markup.{is_name}
use Rattle.tl_patch_spec.specs.Patches.{Changed, Content, Markup, NewContent, NewEndTag, Patch, Put, Text, asked_of, content_pieces, with_end}
use Rattle.tl_patch_spec.specs.RawTexts.{cause_of, is_misread}
use Rattle.tl_patch_spec.specs.Splices.{Splice, with_splices}
use Rattle.tl_patch_spec.specs.TagChanges.{Rename}
use Rattle.tl_patch_spec.specs.Together.{AreAskedTogether, Asked, ask_of, asked_each}
use Rattle.tl_patch_edit.specs.Asks.{text_form}
use Rattle.tl_patch_edit.specs.Found.{IsNeverSaid, has_mark}
use Rattle.tl_patch_edit.specs.Sayings.{AreWhole, sayings}
use Rattle.tl_patch_edit.specs.Seams.{AreSeparated}
use Rattle.tl_patch_edit.specs.Several.{BeginAt, places_of}
use Rattle.tl_patch_edit.specs.declared.error.EditError.{EditError}
use Rattle.tl_patch_edit.specs.declared.error.EditError.TheVariants as error

-- the pieces of a page, where characters side by side are one, and those with the bytes at which
-- they begin
abbrev pub pieces_in : List ℕ → List Piece
pieces_in page = runs (pieces page)

abbrev pub placed_pieces : List ℕ → List (ℕ × Piece)
placed_pieces page = placed (mark_len page) (pieces_in page)

-- no start tag of a page begins at this byte
abbrev pub NoneBeginsAt : List ℕ → ℕ → Type 0
NoneBeginsAt page place = (number : ℕ) (p : Piece) →
    slice_get (placed_pieces page) number ≡ Some (place, p) → IsStartTag p.tokens → ⊥

-- a place is one of these, and where those before it are no greater no start tag begins there
pub record LacksStartTag (page places : List ℕ) (place : ℕ) : Type 0 where
  pub front : List ℕ
  pub back : List ℕ
  pub is : places ≡ front ++ place ∷ back
  pub none : All (λ before. before ≤ place) front → NoneBeginsAt page place

-- a patch is asked for of the element whose start tag begins at this place, which is the piece of
-- this number
pub record IsPatchAt (page : List ℕ) (patches : List (ℕ × Patch)) (place : ℕ) : Type 0 where
  pub patch : Patch
  pub among : Contains patches (place, patch)
  pub number : ℕ
  pub piece : Piece
  pub begins : slice_get (placed_pieces page) number ≡ Some (place, piece)

-- such a patch can't be meant for its element, whose start tag stands there
pub record CannotBeMeant (page : List ℕ) (patches : List (ℕ × Patch)) (place : ℕ) : Type 0 where
  pub at : IsPatchAt page patches place
  pub start : IsStartTag at.piece.tokens
  pub none : asked_of (pieces_in page) at.number at.patch ≡ None

-- of what these patches ask for together this splice is asked for by one of the element at a place
pub record IsAskAt (page : List ℕ) (patches : List (ℕ × Patch)) (place : ℕ) (ask : Splice Put) :
    Type 0 where
  pub numbered : List (ℕ × Patch)
  pub begin : BeginAt 0 (placed_pieces page) patches numbered
  pub each : List Asked
  pub asked : asked_each (pieces_in page) numbered ≡ Some each
  pub one : Asked
  pub among : Contains each one
  pub is : one.ask ≡ ask
  pub patch : slice_get (places_of patches) one.turn.at ≡ Some place

-- which begins behind the end of the page
pub record StandsPastEnd (page : List ℕ) (patches : List (ℕ × Patch)) (place : ℕ) : Type 0 where
  pub ask : Splice Put
  pub at : IsAskAt page patches place ask
  pub past : length (pieces_in page) < ask.from

-- content can't stand where the tokenizer is in this state: markup in a raw text, markup that
-- begins with a byte order mark, a text that would be read otherwise
abbrev pub CannotStand : State → Content → Type 0
CannotStand state (Markup markup) =
    (content_pieces state (Markup markup) ≡ None) ⊎ (has_mark markup ≡ true)
CannotStand state (Text text) =
    (m : Mode) × (state ≡ state_of m) × (characters_of m (text_form m text) ≡ text → ⊥)

-- tokens and their bytes are a start tag, or an end tag whose name ends
abbrev pub AreTag : List HtmlToken → List ℕ → Type 0
AreTag (StartTag name attributes closes ∷ []) bytes = ⊤
AreTag (EndTag name ∷ []) bytes = begins_end_tag bytes ≡ true
AreTag _ bytes = ⊥

-- a tag stands there, in `data`
abbrev pub IsTag : Piece → Type 0
IsTag p = (p.rest ≡ data_state) × AreTag p.tokens p.bytes

-- so it can't, or a name is no name of a tag as it is, or no tag stands there that could have it
abbrev pub CannotBePut : Piece → Put → Type 0
CannotBePut p (NewContent content) = CannotStand p.rest content
CannotBePut p (NewEndTag name) = is_name name ≡ false
CannotBePut p (Changed (Rename name)) = (is_name name ≡ false) ⊎ (IsTag p → ⊥)
CannotBePut p (Changed change) = ⊥

-- which puts what can't be put there
pub record CannotBeWritten (page : List ℕ) (patches : List (ℕ × Patch)) (place : ℕ) : Type 0 where
  pub ask : Splice Put
  pub at : IsAskAt page patches place ask
  pub piece : Piece
  pub stands : slice_get (with_end (pieces_in page)) ask.from ≡ Some piece
  pub put : Put
  pub among : Contains ask.put put
  pub cannot : CannotBePut piece put

-- a splice ends before it begins, or behind an end
abbrev pub IsOutside : ℕ → Splice Put → Type 0
IsOutside end s = (s.until < s.from) ⊎ (end < s.until)

-- each of two splices begins before the other ends
pub record Overlap (s t : Splice Put) : Type 0 where
  pub first : t.from < s.until
  pub second : s.from < t.until

-- one of these splices isn't within so many pieces, or two side by side overlap
abbrev pub AreAcross : ℕ → List (Splice Put) → Type 0
AreAcross end [] = ⊥
AreAcross end (s ∷ []) = IsOutside end s
AreAcross end (s ∷ t ∷ splices) =
    IsOutside end s ⊎ (Overlap s t ⊎ AreAcross end (t ∷ splices))

-- a place is one of those of these patches, and of the splices that they ask for, in some order,
-- two overlap, or one isn't within the page
pub record StandAcross (page : List ℕ) (patches : List (ℕ × Patch)) (place : ℕ) : Type 0 where
  pub among : Contains (places_of patches) place
  pub numbered : List (ℕ × Patch)
  pub begin : BeginAt 0 (placed_pieces page) patches numbered
  pub each : List Asked
  pub asked : asked_each (pieces_in page) numbered ≡ Some each
  pub asks : List Asked
  pub same : IsPermutation each asks
  pub across : AreAcross (length (pieces_in page)) (map ask_of asks)

-- of the splices that these patches ask for, in some order, one that a patch asks for at this place
-- may be read as markup by a browser, behind the start tag at that place
pub record MayBeMisread (page : List ℕ) (patches : List (ℕ × Patch)) (place cause : ℕ) :
    Type 0 where
  pub numbered : List (ℕ × Patch)
  pub begin : BeginAt 0 (placed_pieces page) patches numbered
  pub each : List Asked
  pub asked : asked_each (pieces_in page) numbered ≡ Some each
  pub asks : List Asked
  pub same : IsPermutation each asks
  pub ask : Splice Put
  pub among : Contains (map ask_of asks) ask
  pub at : IsAskAt page patches place ask
  pub misread : is_misread (pieces_in page) (map ask_of asks) ask ≡ true
  pub piece : Piece
  pub begins : slice_get (placed_pieces page) (cause_of (pieces_in page) (map ask_of asks) ask)
      ≡ Some (cause, piece)

-- a place is the first of those of these patches, they ask for splices of the page's pieces, with
-- separators exactly where they have to stand, each tag that these leave is read so by itself, and
-- yet no text with the bytes of what comes of them
-- says what that says, token by token, and each tag in its bytes
pub record CannotBeRead (page : List ℕ) (patches : List (ℕ × Patch)) (place : ℕ) : Type 0 where
  pub more : List ℕ
  pub first : places_of patches ≡ place ∷ more
  pub numbered : List (ℕ × Patch)
  pub begin : BeginAt 0 (placed_pieces page) patches numbered
  pub splices : List (Splice Piece)
  pub asked : AreAskedTogether (pieces_in page) numbered splices
  pub separated : AreSeparated (pieces_in page) (map ask_of asked.asks) splices
  pub whole : AreWhole (sayings (with_splices (pieces_in page) splices))
  pub never : IsNeverSaid page (with_splices (pieces_in page) splices)

-- when each error comes, where these patches are asked for of the elements at their places
abbrev pub IsRefused : List ℕ → List (ℕ × Patch) → EditError → Type 0
IsRefused page patches (error.NoStartTag place) = LacksStartTag page (places_of patches) place
IsRefused page patches (error.NotMeant place) = CannotBeMeant page patches place
IsRefused page patches (error.Across place) = StandAcross page patches place
IsRefused page patches (error.EndOfPage place) = StandsPastEnd page patches place
IsRefused page patches (error.NotWritten place) = CannotBeWritten page patches place
IsRefused page patches (error.Misread place cause) = MayBeMisread page patches place cause
IsRefused page patches (error.ReadOtherwise place) = CannotBeRead page patches place
IsRefused page patches error.OutOfMemory = ⊤
