-- Why the code gives up, in its own terms.
use Rattle.std.specs.Prelude.{◌≡◌, ◌≤◌, ◌<◌, ◌⊎◌, ◌&&◌, ℕ, Bool, true, false, List, ◌∷◌, ◌++◌, length, None, Option, Some, ⊤}
use Rattle.std.specs.List.{Contains, slice_get}
use Rattle.tl_html_spec.specs.Pieces.{pieces, runs}
use Rattle.tl_html_tokens.specs.Characters.{characters_of}
use Rattle.tl_html_tokens.specs.declared.mode.Mode.{Mode}
use Rattle.tl_html_tokens.specs.declared.stage.TokenKind.{TokenKind}
use Rattle.tl_html_tokens.specs.declared.stage.TokenKind.TheVariants as kind
use Rattle.tl_html_tokens.specs.declared.token.Token.{Token}
use Rattle.tl_html_parts.specs.Parts.{name_of}
use Rattle.tl_patch.specs.Places.{begins_end_tag}
use Rattle.tl_patch_spec.specs.Markup.{is_name}
use Rattle.tl_patch_spec.specs.Patches.{Content, Markup, Put, Text, asked_of}
use Rattle.tl_patch_spec.specs.Splices.{Splice, are_ordered}
use Rattle.tl_patch.specs.StartTags.{is_start_tag}
use Rattle.tl_patch_edit.specs.Asks.{asks_view, text_form}
use Rattle.tl_patch_edit.specs.Found.{IsNeverRead, IsNeverSplicedOf, IsStartAt, has_mark}
use Rattle.tl_patch_edit.specs.Inner.Parts.{Part, is_data, with_end_part}
use Rattle.tl_patch_edit.specs.View.{content_view, patch_view}
use Rattle.tl_patch_edit.specs.declared.ask.Ask.{Ask}
use Rattle.tl_patch_edit.specs.declared.ask.MeantPatch.{MeantPatch}
use Rattle.tl_patch_edit.specs.declared.ask.PlacedAsk.{PlacedAsk}
use Rattle.tl_patch_edit.specs.declared.ask.Put.{Put as CodePut}
use Rattle.tl_patch_edit.specs.declared.ask.Put.TheVariants as put
use Rattle.tl_patch_edit.specs.declared.tag.ReadyAsk.{ReadyAsk}
use Rattle.tl_patch_edit.specs.declared.error.EditError.{EditError}
use Rattle.tl_patch_edit.specs.declared.error.EditError.TheVariants as error

-- from this number on no token is a start tag at a place
abbrev pub NoStartFrom : ℕ → List Token → ℕ → Type 0
NoStartFrom from tokens place = (n : ℕ) (t : Token) → from ≤ n → slice_get tokens n ≡ Some t →
    t.start ≡ place → t.kind ≡ kind.StartTag → ⊥

abbrev pub IsStartError : ℕ → List Token → ℕ → EditError → Type 0
IsStartError from tokens place (error.NoStartTag p) = (p ≡ place) × NoStartFrom from tokens place
IsStartError from tokens place _ = ⊥

-- the start tag of this number begins at one of these places, if there are some
abbrev pub ReachesFrom : List Token → List ℕ → ℕ → Type 0
ReachesFrom tokens places from = (from ≡ 0)
    ⊎ ((place : ℕ) × (t : Token) × Contains places place × IsStartAt tokens place from t)

-- one of these places at which no start tag begins from that of the place before on
pub record IsMissing (tokens : List Token) (places : List ℕ) (place : ℕ) : Type 0 where
  pub front : List ℕ
  pub back : List ℕ
  pub is : places ≡ front ++ place ∷ back
  pub from : ℕ
  pub reaches : ReachesFrom tokens front from
  pub none : NoStartFrom from tokens place

abbrev pub IsStartsError : List Token → List ℕ → EditError → Type 0
IsStartsError tokens places error.OutOfMemory = ⊤
IsStartsError tokens places (error.NoStartTag p) = IsMissing tokens places p
IsStartsError tokens places _ = ⊥

-- what is asked for of the element at a place is nothing
abbrev pub IsPlanError : ℕ → Option (List (Splice Put)) → EditError → Type 0
IsPlanError place asked error.OutOfMemory = ⊤
IsPlanError place asked (error.NotMeant p) = (p ≡ place) × (asked ≡ None)
IsPlanError place asked _ = ⊥

-- one of these patches can't be meant for its element
pub record IsUnmeant (page : List ℕ) (patches : List MeantPatch) (place : ℕ) : Type 0 where
  pub meant : MeantPatch
  pub among : Contains patches meant
  pub begins : meant.start.token.start ≡ place
  pub none : asked_of (runs (pieces page)) meant.start.number (patch_view meant.patch) ≡ None

abbrev pub IsAsksError : List ℕ → List MeantPatch → EditError → Type 0
IsAsksError page patches error.OutOfMemory = ⊤
IsAsksError page patches (error.NotMeant p) = IsUnmeant page patches p
IsAsksError page patches _ = ⊥

-- an ask of the patch that has its number
pub record IsPlanned (patches : List MeantPatch) (one : PlacedAsk) : Type 0 where
  pub meant : MeantPatch
  pub at : slice_get patches one.turn.at ≡ Some meant
  pub start : meant.start ≡ one.start

-- whether the name of a tag that is put can stand as it is
abbrev pub has_name : CodePut → Bool
has_name (put.LeftOut raw) = is_name (name_of raw.now)
has_name (put.EndTag name) = is_name name.now
has_name (put.Renamed name) = is_name name.now
has_name _ = true

-- whether what stands there begins as a tag of its kind
abbrev pub begins_as : TokenKind → List ℕ → Bool
begins_as kind.StartTag bytes = is_start_tag bytes
begins_as kind.EndTag bytes = begins_end_tag bytes
begins_as _ bytes = false

-- whether a tag stands there, in markup, where one gets another name
abbrev pub has_tag : Part → CodePut → Bool
has_tag place (put.Renamed name) = is_data place.mode && begins_as place.kind place.bytes
has_tag place _ = true

abbrev pub CannotStandIn : Mode → Content → Type 0
CannotStandIn m (Text text) = characters_of m (text_form m text) ≡ text → ⊥
CannotStandIn m (Markup markup) = (is_data m ≡ false) ⊎ (has_mark markup ≡ true)

abbrev pub CannotPutIn : Mode → CodePut → Type 0
CannotPutIn m (put.Content content) = CannotStandIn m (content_view content)
CannotPutIn m _ = ⊥

-- what is asked for can't be written at its part
pub record CannotPut (parts : List Part) (ask : Ask) : Type 0 where
  pub place : Part
  pub stands : slice_get (with_end_part parts) ask.from ≡ Some place
  pub cannot : (has_name ask.put ≡ false)
      ⊎ ((has_tag place ask.put ≡ false) ⊎ CannotPutIn place.mode ask.put)

-- an ask of the element at a place
pub record IsOneAt (asks : List PlacedAsk) (place : ℕ) (one : PlacedAsk) : Type 0 where
  pub among : Contains asks one
  pub begins : one.start.token.start ≡ place

-- an ask begins no later than at an end
abbrev pub IsWithin : ℕ → ReadyAsk → Type 0
IsWithin end ready = ready.placed.ask.from ≤ end

abbrev pub IsReadyError : List Part → PlacedAsk → EditError → Type 0
IsReadyError parts one error.OutOfMemory = ⊤
IsReadyError parts one (error.EndOfPage p) =
    (one.start.token.start ≡ p) × (length parts < one.ask.from)
IsReadyError parts one (error.NotWritten p) =
    (one.start.token.start ≡ p) × CannotPut parts one.ask
IsReadyError parts one _ = ⊥

abbrev pub IsReadError : List ℕ → List Part → ℕ → EditError → Type 0
IsReadError page parts place error.OutOfMemory = ⊤
IsReadError page parts place (error.ReadOtherwise p) = (p ≡ place) × IsNeverRead page parts
IsReadError page parts place _ = ⊥

abbrev pub IsSpliceError : List Part → List PlacedAsk → EditError → Type 0
IsSpliceError parts asks error.OutOfMemory = ⊤
IsSpliceError parts asks (error.EndOfPage p) =
    (one : PlacedAsk) × IsOneAt asks p one × (length parts < one.ask.from)
IsSpliceError parts asks (error.NotWritten p) =
    (one : PlacedAsk) × IsOneAt asks p one × CannotPut parts one.ask
IsSpliceError parts asks (error.Across p) =
    (one : PlacedAsk) × IsOneAt asks p one
    × (are_ordered 0 (length parts) (asks_view asks) ≡ false)
IsSpliceError parts asks _ = ⊥

-- so it is, or no text is read as the page with the splices
abbrev pub IsPageError : List ℕ → ℕ → List Part → List PlacedAsk → EditError → Type 0
IsPageError page place parts asks (error.ReadOtherwise p) =
    (p ≡ place) × IsNeverSplicedOf (asks_view asks) parts page
IsPageError page place parts asks e = IsSpliceError parts asks e
