-- Why a page is not patched.
use Rattle.std.specs.Prelude.{◌≡◌, ◌⊎◌, ◌&&◌, ℕ, Bool, true, false, not, nat_lt, List, [], ◌∷◌, ◌++◌, Some, ⊤}
use Rattle.std.specs.List.{list_any, slice_get}
use Rattle.tl_html_spec.specs.HtmlTokenizer.{data_state}
use Rattle.tl_html_spec.specs.Pieces.{Piece, pieces, placed, runs}
use Rattle.tl_html_tokens.specs.Kinds.{IsStartTag}
use Rattle.tl_html_tokens.specs.Tokens.{mark_len}
use Rattle.tl_html_tokens.specs.Whole.{bytes_at}
use Rattle.tl_html_tokens.specs.declared.token.Token.{Token}
use Rattle.tl_patch.specs.Inner.Steps.{is_start_token}
use Rattle.tl_patch.specs.PatchView.{PlacedChange}
use Rattle.tl_patch.specs.declared.error.PatchError.{PatchError}
use Rattle.tl_patch.specs.declared.error.PatchError.TheVariants.{NoStartTag, NotWritten, OutOfMemory}
use Rattle.tl_patch_spec.specs.Markup.{is_key, is_without_nul}
use Rattle.tl_patch_spec.specs.TagChanges.{Set, TagChange}
use Rattle.tl_patch.specs.StartTags.{is_start_tag}

-- a start tag of the page begins at this place
pub record IsStartAt (page : List ℕ) (place : ℕ) : Type 0 where
  pub number : ℕ
  pub piece : Piece
  pub begins : slice_get (placed (mark_len page) (runs (pieces page))) number ≡ Some (place, piece)
  pub rest : piece.rest ≡ data_state
  pub start : IsStartTag piece.tokens

-- one of the changes has a greater place
abbrev pub has_greater : ℕ → List PlacedChange → Bool
has_greater place changes = list_any (λ c. nat_lt place c.place) changes

-- one of the changes has this place, after those in front
pub record IsAmong (place : ℕ) (changes front : List PlacedChange) : Type 0 where
  pub change : PlacedChange
  pub back : List PlacedChange
  pub parts : changes ≡ front ++ change ∷ back
  pub is : change.place ≡ place

-- one of the changes has this place, where no start tag begins, or one before it has a greater
-- place
pub record IsUnplaced (place : ℕ) (changes : List PlacedChange) (page : List ℕ) : Type 0 where
  pub front : List PlacedChange
  pub among : IsAmong place changes front
  pub why : (IsStartAt page place → ⊥) ⊎ (has_greater place front ≡ true)

-- whether a change of a start tag is refused: a key gets a value wherever both can be written, and
-- goes wherever it stands
abbrev pub is_refused : TagChange → Bool
is_refused (Set key value) = not (is_key key && is_without_nul value)
is_refused _ = false

-- one of the changes is of the start tag at this place, and sets what can't be written
pub record IsPlaced (place : ℕ) (changes : List PlacedChange) (page : List ℕ) : Type 0 where
  pub front : List PlacedChange
  pub among : IsAmong place changes front
  pub start : IsStartAt page place
  pub why : is_refused among.change.change ≡ true

-- why a page is not patched, by the error
abbrev pub IsReason : List PlacedChange → List ℕ → PatchError → Type 0
IsReason changes page (NoStartTag place) = IsUnplaced place changes page
IsReason changes page (NotWritten place) = IsPlaced place changes page
IsReason changes page OutOfMemory = ⊤

-- one of the changes is refused
abbrev pub has_refused : List PlacedChange → Bool
has_refused changes = list_any (λ c. is_refused c.change) changes

-- why a token is not written with changes
abbrev pub IsTokenReason : List PlacedChange → List ℕ → Token → PatchError → Type 0
IsTokenReason here page token (NoStartTag place) =
    (place ≡ token.start) × (is_start_token token ≡ false)
IsTokenReason here page token (NotWritten place) =
    (place ≡ token.start) × (is_start_token token ≡ true)
    × (is_start_tag (bytes_at page token) ≡ true → has_refused here ≡ true)
IsTokenReason here page token OutOfMemory = ⊤

-- so, with patches of its place
abbrev pub IsReasonHere : List PlacedChange → List ℕ → Token → PatchError → Type 0
IsReasonHere [] page token OutOfMemory = ⊤
IsReasonHere [] page token _ = ⊥
IsReasonHere (c ∷ here) page token error = IsTokenReason (c ∷ here) page token error
