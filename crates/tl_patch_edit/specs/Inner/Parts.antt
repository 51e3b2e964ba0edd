-- Parts of a page: pieces as the code has them.
use Rattle.std.specs.Prelude.{◌≡◌, ◌==◌, ◌≤◌, ◌<◌, ℕ, ◌+◌, Bool, true, false, ◌&&◌, List, [], ◌∷◌, ◌++◌, flat_map, length, map, take, ⊤}
use Rattle.tl_html_spec.specs.HtmlTokenizer.{Character, CommentToken, DoctypeToken, HtmlToken}
use Rattle.std.specs.Str.{bytes_eq}
use Rattle.tl_html_spec.specs.Pieces.{Piece, piece}
use Rattle.tl_html_tokens.specs.Characters.{characters_of}
use Rattle.tl_html_tokens.specs.Comments.{comment_of}
use Rattle.tl_html_tokens.specs.Kinds.{IsKind}
use Rattle.tl_html_tokens.specs.Modes.{state_of}
use Rattle.tl_html_tokens.specs.Whole.{IsWhole, bytes_at, is_tag_kind}
use Rattle.tl_html_tokens.specs.declared.mode.Mode.{Mode}
use Rattle.tl_html_tokens.specs.declared.stage.TokenKind.{TokenKind}
use Rattle.tl_html_tokens.specs.declared.stage.TokenKind.TheVariants as kind
use Rattle.tl_html_tokens.specs.declared.token.Token.{Token}
use Rattle.tl_html_tokens.specs.declared.mode.Mode.TheVariants as mode
use Rattle.tl_patch.specs.Inner.Steps.{mode_number}
use Rattle.tl_patch_spec.specs.Markup.{separator}
use Rattle.tl_patch_edit.specs.Sayings.{Other, Saying, Tag, character}
use Rattle.tl_patch_edit.specs.declared.part.Part.{Part as CodePart}

pub record Part : Type 0 where
  pub kind : TokenKind
  pub mode : Mode
  pub bytes : List ℕ

abbrev pub part_view : CodePart → Part
part_view p = record { kind = p.kind; mode = p.mode; bytes = p.bytes.now }

-- what stands there in a page
abbrev pub view_at : List ℕ → Token → Part
view_at page token = record { kind = token.kind; mode = token.mode; bytes = bytes_at page token }

abbrev pub parts_view : List CodePart → List Part
parts_view ps = map part_view ps

-- a token of this kind that is read in this mode says these tokens of the standard
abbrev pub Says : TokenKind → Mode → List ℕ → List HtmlToken → Type 0
Says kind.Text mode bytes ts = ts ≡ map Character (characters_of mode bytes)
Says kind.Comment mode bytes ts = ts ≡ CommentToken (comment_of bytes) ∷ []
Says kind.Doctype mode bytes ts = ts ≡ DoctypeToken ∷ []
Says kind.Nothing mode bytes ts = ts ≡ []
Says kind.StartTag mode bytes ts = IsWhole mode bytes ts
Says kind.EndTag mode bytes ts = IsWhole mode bytes ts

-- a part is a piece of a page
pub record IsPieceOf (part : Part) (p : Piece) : Type 0 where
  pub rest : p.rest ≡ state_of part.mode
  pub bytes : p.bytes ≡ part.bytes
  pub kind : IsKind part.kind p.tokens
  pub says : Says part.kind part.mode part.bytes p.tokens

-- one by one
abbrev pub ArePieces : List Part → List Piece → Type 0
ArePieces [] [] = ⊤
ArePieces (part ∷ parts) (p ∷ ps) = IsPieceOf part p × ArePieces parts ps
ArePieces _ _ = ⊥

-- the same, of a tag with its bytes
abbrev pub TellsTag : Mode → List ℕ → List Saying → Type 0
TellsTag mode bytes said =
    (tokens : List HtmlToken) × (said ≡ Tag (piece (state_of mode) bytes tokens) ∷ [])
    × IsWhole mode bytes tokens

abbrev pub Tells : TokenKind → Mode → List ℕ → List Saying → Type 0
Tells kind.Text mode bytes said = said ≡ map character (characters_of mode bytes)
Tells kind.Comment mode bytes said = said ≡ Other (CommentToken (comment_of bytes)) ∷ []
Tells kind.Doctype mode bytes said = said ≡ Other DoctypeToken ∷ []
Tells kind.Nothing mode bytes said = said ≡ []
Tells kind.StartTag mode bytes said = TellsTag mode bytes said
Tells kind.EndTag mode bytes said = TellsTag mode bytes said

-- parts side by side say this
abbrev pub Say : List Part → List Saying → Type 0
Say [] said = said ≡ []
Say (part ∷ parts) said =
    (first more : List Saying) × (said ≡ first ++ more)
    × Tells part.kind part.mode part.bytes first × Say parts more

abbrev pub part_bytes : List Part → List ℕ
part_bytes parts = flat_map (λ (p : Part). p.bytes) parts

-- they have these bytes, and say this
pub record Give (parts : List Part) (text : List ℕ) (said : List Saying) : Type 0 where
  pub bytes : text ≡ part_bytes parts
  pub say : Say parts said

-- whatever both say is the same
pub record SaySame (parts others : List Part) : Type 0 where
  pub same : (said other : List Saying) → Say parts said → Say others other → said ≡ other

-- nothing is what both say
pub record SayOtherwise (parts others : List Part) : Type 0 where
  pub never : (said : List Saying) → Say parts said → Say others said → ⊥

-- the first so many of the one say what the first so many of the other do
pub record IsStep (count other_count : ℕ) (parts others : List Part) : Type 0 where
  pub within : count ≤ length parts
  pub others_within : other_count ≤ length others
  pub moves : 0 < count + other_count
  pub same : SaySame (take count parts) (take other_count others)

abbrev pub is_data : Mode → Bool
is_data mode.Data = true
is_data _ = false

abbrev pub is_text_kind : TokenKind → Bool
is_text_kind kind.Text = true
is_text_kind _ = false

-- texts, and what says nothing
abbrev pub is_quiet_kind : TokenKind → Bool
is_quiet_kind kind.Text = true
is_quiet_kind kind.Nothing = true
is_quiet_kind _ = false

abbrev pub is_quiet_first : List Part → Bool
is_quiet_first [] = false
is_quiet_first (p ∷ ps) = is_quiet_kind p.kind

abbrev pub are_quiet : List Part → Bool
are_quiet [] = true
are_quiet (p ∷ ps) = is_quiet_kind p.kind && are_quiet ps

-- their characters
abbrev pub characters_at : TokenKind → Mode → List ℕ → List ℕ
characters_at kind.Text mode bytes = characters_of mode bytes
characters_at _ mode bytes = []

abbrev pub characters_in : List Part → List ℕ
characters_in parts = flat_map (λ (p : Part). characters_at p.kind p.mode p.bytes) parts

abbrev pub is_comment_kind : TokenKind → Bool
is_comment_kind kind.Comment = true
is_comment_kind _ = false

abbrev pub is_doctype_kind : TokenKind → Bool
is_doctype_kind kind.Doctype = true
is_doctype_kind _ = false

-- whether parts are read in one mode, and have the same bytes
abbrev pub is_same_tag : Part → Part → Bool
is_same_tag p q = (mode_number p.mode == mode_number q.mode) && bytes_eq p.bytes q.bytes

-- whether a part of this kind says what another one says, where none is a text or nothing
abbrev pub is_alike : TokenKind → Part → Part → Bool
is_alike kind.StartTag p q = is_tag_kind q.kind && is_same_tag p q
is_alike kind.EndTag p q = is_tag_kind q.kind && is_same_tag p q
is_alike kind.Comment p q =
    is_comment_kind q.kind && bytes_eq (comment_of p.bytes) (comment_of q.bytes)
is_alike kind.Doctype p q = is_doctype_kind q.kind
is_alike _ p q = false

-- the end of a page as a part, and the parts at which something is put
abbrev pub end_part : Part
end_part = record { kind = kind.Nothing; mode = mode.Data; bytes = [] }

abbrev pub with_end_part : List Part → List Part
with_end_part parts = parts ++ end_part ∷ []

-- the separator as a part
abbrev pub separator_part : Part
separator_part = record { kind = kind.Nothing; mode = mode.Data; bytes = separator }

abbrev pub separator_parts : Bool → List Part
separator_parts true = separator_part ∷ []
separator_parts false = []
