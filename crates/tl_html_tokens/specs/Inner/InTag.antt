-- How far a tag of markup is read.
use Rattle.std.specs.Prelude.{◌≡◌, ◌≤◌, ◌<◌, ◌⊎◌, ◌+◌, ◌-◌, ℕ, Bool, true, false, List, length}
use Rattle.tl_html_tokens.specs.Inner.Scanned.{scanned}
use Rattle.tl_html_tokens.specs.Inner.Scans.{first_scan, next_scan}
use Rattle.tl_html_tokens.specs.Inner.Stages.{kind_at_end}
use Rattle.tl_html_tokens.specs.declared.front.Scan.{Scan}
use Rattle.tl_html_tokens.specs.declared.front.Scanned.TheVariants.{On}
use Rattle.tl_html_tokens.specs.declared.mode.Mode.TheVariants as mode
use Rattle.tl_html_tokens.specs.declared.stage.Stage.{Stage}
use Rattle.tl_html_tokens.specs.declared.stage.Stage.TheVariants as stage
use Rattle.tl_html_tokens.specs.declared.stage.Tag.{Tag}
use Rattle.tl_html_tokens.specs.declared.stage.TokenKind.TheVariants as kind

-- where nothing is withheld
abbrev pub at_rest : Stage → ℕ → Scan
at_rest c place = record { stage = c; after_return = false; word = place }

-- the piece that begins in markup at a place is read up to another one
pub record IsRead (page : List ℕ) (start place : ℕ) (scan : Scan) : Type 0 where
  pub read : scanned (place - (start + 1)) page (start + 1) (first_scan page start mode.Data)
      ≡ On scan
  pub order : start < place
  pub within : place ≤ length page

-- and what stands there is read as where a key of the tag may begin
pub record IsInTag (page : List ℕ) (start place : ℕ) (is_end : Bool) : Type 0 where
  pub tag : Tag
  pub ends : tag.is_end ≡ is_end
  pub plain : is_end ≡ true → tag.mode ≡ mode.Data
  pub scan : Scan
  pub read : IsRead page start place scan
  pub cut : kind_at_end scan.stage ≡ kind.Nothing
  pub next : (scan.stage ≡ stage.BeforeKey tag)
      ⊎ (place < length page →
      next_scan scan page place ≡ next_scan (at_rest (stage.BeforeKey tag) place) page place)

-- a key of the tag stands before this place, with white space after it or none
abbrev pub IsKeyed : Tag → Stage → Type 0
IsKeyed tag (stage.Key t) = t ≡ tag
IsKeyed tag (stage.AfterKey t) = t ≡ tag
IsKeyed tag _ = ⊥

pub record IsAfterKey (page : List ℕ) (start place : ℕ) (is_end : Bool) : Type 0 where
  pub tag : Tag
  pub ends : tag.is_end ≡ is_end
  pub plain : is_end ≡ true → tag.mode ≡ mode.Data
  pub scan : Scan
  pub read : IsRead page start place scan
  pub stage : IsKeyed tag scan.stage

-- a value is awaited there
pub record IsBeforeValue (page : List ℕ) (start place : ℕ) (is_end : Bool) : Type 0 where
  pub tag : Tag
  pub ends : tag.is_end ≡ is_end
  pub plain : is_end ≡ true → tag.mode ≡ mode.Data
  pub scan : Scan
  pub read : IsRead page start place scan
  pub stage : scan.stage ≡ stage.BeforeValue tag
