-- Where start tags are sought.
use Rattle.std.specs.List.{slice_get}
use Rattle.std.specs.Prelude.{List, Some, ℕ, ◌<◌, ◌≡◌, ◌≤◌, ◌⊎◌}
use Rattle.tl_html_tokens.specs.declared.stage.TokenKind.TheVariants as kind
use Rattle.tl_html_tokens.specs.declared.token.Token.{Token}
use Rattle.tl_patch_edit.specs.Found.{IsStartOf}
use Rattle.tl_patch_edit.specs.declared.ask.Start.{Start}

-- a token is the start tag at a place, or begins behind it
abbrev pub IsReached : Token → ℕ → Type 0
IsReached token place =
    (place < token.start) ⊎ ((token.start ≡ place) × (token.kind ≡ kind.StartTag))

-- so is the token of a number, if there is one
abbrev pub IsReachedAt : List Token → ℕ → ℕ → Type 0
IsReachedAt tokens place number = (t : Token) → slice_get tokens number ≡ Some t → IsReached t place

-- the tokens from a number on up to another don't begin behind a place, and none is the start tag
-- there
abbrev pub ArePassed : List Token → ℕ → ℕ → ℕ → Type 0
ArePassed tokens place from until = (n : ℕ) (t : Token) → from ≤ n → n < until →
    slice_get tokens n ≡ Some t →
    (t.start ≤ place) × (t.start ≡ place → t.kind ≡ kind.StartTag → ⊥)

-- the token of a number isn't the start tag at a place
abbrev pub NoStartThere : List Token → ℕ → ℕ → Type 0
NoStartThere tokens place number = (t : Token) → slice_get tokens number ≡ Some t →
    t.start ≡ place → t.kind ≡ kind.StartTag → ⊥

-- a start tag of a page begins at a place
pub record IsStartOfPage (page : List ℕ) (place : ℕ) (start : Start) : Type 0 where
  pub stands : IsStartOf page start.number start.token
  pub begins : start.token.start ≡ place

abbrev pub start_number : Start → ℕ
start_number start = start.number
