-- Start tags by their own bytes, and with a change.
use Rattle.std.specs.Prelude.{◌≡◌, ◌⊎◌, ℕ, ◌==◌, ◌&&◌, Bool, true, false, List, [], ◌∷◌, map, codes, ⊤}
use Rattle.std.specs.List.{All}
use Rattle.tl_html_spec.specs.HtmlTokenizer.{HtmlToken, StartTag}
use Rattle.tl_html_spec.specs.Pieces.{Piece, pieces_of}
use Rattle.tl_html_tokens.specs.Kinds.{IsStartTag}
use Rattle.tl_html_tokens.specs.Whole.{IsWhole}
use Rattle.tl_html_tokens.specs.declared.mode.Mode.{Mode}
use Rattle.tl_html_tokens.specs.declared.mode.Mode.TheVariants as mode
use Rattle.tl_html_tokens.specs.declared.stage.TokenKind.{TokenKind}
use Rattle.tl_html_tokens.specs.declared.stage.TokenKind.TheVariants as kind
use Rattle.tl_html_tokens.specs.declared.token.Token.{Token}
use Rattle.tl_patch_spec.specs.Markup.{attribute_markup, quoted_value}
use Rattle.tl_patch_spec.specs.Splices.{Splice, with_splices}
use Rattle.tl_patch_spec.specs.TagNames.{IsNamed}
use Rattle.tl_patch_spec.specs.TagChanges.{Rename, Set, TagChange, Unset, changed_token}
use Rattle.tl_patch.specs.Taken.{AreTaken}

-- whether tokens are one start tag
abbrev pub is_start : List HtmlToken → Bool
is_start (StartTag name attributes closes ∷ []) = true
is_start _ = false

-- whether a text is one piece, which is a start tag
abbrev pub are_one_start : List Piece → Bool
are_one_start (p ∷ []) = is_start p.tokens
are_one_start _ = false

-- whether bytes are a start tag by themselves
abbrev pub is_start_tag : List ℕ → Bool
is_start_tag bytes = are_one_start (pieces_of bytes)

pub record IsStartTagAlone (bytes : List ℕ) : Type 0 where
  pub tokens : List HtmlToken
  pub whole : IsWhole mode.Data bytes tokens
  pub start : IsStartTag tokens

abbrev pub is_start_kind : TokenKind → Bool
is_start_kind kind.StartTag = true
is_start_kind _ = false

abbrev pub is_data : Mode → Bool
is_data mode.Data = true
is_data _ = false

-- whether a token is a start tag and stands up to an end
abbrev pub is_whole_tag : Token → ℕ → Bool
is_whole_tag token len = is_start_kind token.kind
    && (is_data token.mode && ((token.start == 0) && (token.end == len)))

-- whether tokens are one such tag alone
abbrev pub is_one_tag : List Token → ℕ → Bool
is_one_tag (token ∷ []) len = is_whole_tag token len
is_one_tag _ len = false

-- a value in the place of another, or after a key that has none
abbrev pub IsValuePut : List ℕ → List ℕ → Type 0
IsValuePut value put = (put ≡ quoted_value value) ⊎ (put ≡ 61 ∷ quoted_value value)

-- in the place of an attribute that goes stands nothing, or what keeps its neighbours apart
abbrev pub IsCutPut : List ℕ → Type 0
IsCutPut put = (put ≡ []) ⊎ ((put ≡ codes " ") ⊎ (put ≡ codes "/"))

abbrev pub IsCut : Splice ℕ → Type 0
IsCut s = IsCutPut s.put

-- what is put into a tag
abbrev pub IsPut : TagChange → Splice ℕ → Type 0
IsPut (Set key value) s = IsValuePut value s.put ⊎ (s.put ≡ attribute_markup key value)
IsPut (Unset key) s = IsCut s
IsPut _ s = ⊤

-- new is the tag with a change: some places in it have something else, and each other byte is as it
-- was; and where the tag is a start tag by itself, so is new, with the token changed
pub record IsChanged (change : TagChange) (tag new : List ℕ) : Type 0 where
  pub splices : List (Splice ℕ)
  pub bytes : new ≡ with_splices tag splices
  pub put : All (IsPut change) splices
  pub taken : AreTaken change tag splices
  pub tokens : (tokens : List HtmlToken) → IsWhole mode.Data tag tokens → IsStartTag tokens →
      IsWhole mode.Data new (map (changed_token change) tokens)

-- new is the tag with this name and each other byte as it was; where the tag is a start tag by
-- itself, so is new, with the token renamed
pub record IsRenamed (name tag new : List ℕ) : Type 0 where
  pub named : IsNamed name tag new
  pub tokens : (tokens : List HtmlToken) → IsWhole mode.Data tag tokens → IsStartTag tokens →
      IsWhole mode.Data new (map (changed_token (Rename name)) tokens)
