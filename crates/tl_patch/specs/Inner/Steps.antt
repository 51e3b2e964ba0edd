-- Tokens of a page, written with changes.
use Rattle.std.specs.Prelude.{◌≡◌, ◌⊎◌, ◌&&◌, ℕ, Bool, true, List, [], ◌∷◌, ◌++◌, map, take, ⊤}
use Rattle.std.specs.List.{All}
use Rattle.tl_html_tokens.specs.Whole.{bytes_at}
use Rattle.tl_html_tokens.specs.declared.mode.Mode.{Mode}
use Rattle.tl_html_tokens.specs.declared.mode.Mode.TheVariants as mode
use Rattle.tl_html_tokens.specs.declared.stage.TokenKind.{TokenKind}
use Rattle.tl_html_tokens.specs.declared.stage.TokenKind.TheVariants as kind
use Rattle.tl_html_tokens.specs.declared.token.Token.{Token}
use Rattle.tl_html_tokens.specs.Tokens.{mark_len}
use Rattle.tl_patch.specs.Asked.{IsOfAttribute}
use Rattle.tl_patch.specs.PatchView.{PlacedChange, change_of}
use Rattle.tl_patch_spec.specs.TagChanges.{TagChange}
use Rattle.tl_patch.specs.StartTags.{IsChanged, is_data, is_start_kind}

-- a tag with changes one after the other
abbrev pub AreTagChanges : List TagChange → List ℕ → List ℕ → Type 0
AreTagChanges [] tag new = new ≡ tag
AreTagChanges (change ∷ changes) tag new =
    (between : List ℕ) × IsChanged change tag between × AreTagChanges changes between new

abbrev pub kind_number : TokenKind → ℕ
kind_number kind.Text = 0
kind_number kind.StartTag = 1
kind_number kind.EndTag = 2
kind_number kind.Comment = 3
kind_number kind.Doctype = 4
kind_number kind.Nothing = 5

abbrev pub mode_number : Mode → ℕ
mode_number mode.Data = 0
mode_number mode.Title = 1
mode_number mode.Textarea = 2
mode_number mode.Style = 3
mode_number mode.Xmp = 4
mode_number mode.Iframe = 5
mode_number mode.Noembed = 6
mode_number mode.Noframes = 7
mode_number mode.Script = 8
mode_number mode.ScriptEscaped = 9
mode_number mode.ScriptEscapedDash = 10
mode_number mode.ScriptEscapedDashDash = 11
mode_number mode.Plaintext = 12
mode_number mode.Noscript = 13
mode_number mode.ContextText = 14

-- changes of attributes alone
abbrev pub AreOfAttributes : List TagChange → Type 0
AreOfAttributes [] = ⊤
AreOfAttributes (change ∷ changes) = IsOfAttribute change × AreOfAttributes changes

-- whether a token is a start tag
abbrev pub is_start_token : Token → Bool
is_start_token token = is_start_kind token.kind && is_data token.mode

-- what is written for a token: a start tag with these changes, or the token as it is
pub record IsMade (here : List PlacedChange) (page : List ℕ) (token : Token) (put : List ℕ) :
    Type 0 where
  pub start : (here ≡ []) ⊎ (is_start_token token ≡ true)
  pub attributes : AreOfAttributes (map change_of here)
  pub made : AreTagChanges (map change_of here) (bytes_at page token) put

-- it is written after other bytes
pub record IsWritten (here : List PlacedChange) (page : List ℕ) (token : Token)
    (old new : List ℕ) : Type 0 where
  pub put : List ℕ
  pub is : new ≡ old ++ put
  pub made : IsMade here page token put

-- tokens with changes, one after the other: each change is made of the token at its place
abbrev pub AreWritten : List ℕ → List Token → List PlacedChange → List ℕ → Type 0
AreWritten page [] changes bytes = (changes ≡ []) × (bytes ≡ [])
AreWritten page (token ∷ tokens) changes bytes =
    (here later : List PlacedChange) × (put rest : List ℕ) × (changes ≡ here ++ later)
    × All (λ (c : PlacedChange). c.place ≡ token.start) here × (bytes ≡ put ++ rest)
    × IsMade here page token put × AreWritten page tokens later rest

-- a byte order mark, where the page has one
abbrev pub mark_of : List ℕ → List ℕ
mark_of page = take (mark_len page) page

-- a page of which the tokens are written with changes, after its byte order mark
pub record IsPage (page : List ℕ) (tokens : List Token) (changes : List PlacedChange)
    (text : List ℕ) : Type 0 where
  pub bytes : List ℕ
  pub is : text ≡ mark_of page ++ bytes
  pub written : AreWritten page tokens changes bytes

-- the first of the changes, if there is one, has another place
abbrev pub BeginElsewhere : ℕ → List PlacedChange → Type 0
BeginElsewhere place [] = ⊤
BeginElsewhere place (c ∷ changes) = c.place ≡ place → ⊥
