-- Pages that are read into their trees.
use Rattle.std.specs.Prelude.{◌≡◌, ◌⊎◌, ◌<◌, ℕ, true, List, Option, IsSomeAnd, ⊤}
use Rattle.tl_dom_spec.specs.HtmlTree.{is_in_proportion_by, standard}
use Rattle.tl_page.specs.Page.{IsPage}
use Rattle.tl_page.specs.declared.failure.Failure.{Failure}
use Rattle.tl_page.specs.declared.failure.Failure.TheVariants.{Refused, NotUnderstood, OutOfMemory, Fault}
use Rattle.tl_tree.specs.Pages.{IsOfPage}
use Rattle.tl_c.specs.declared.parsed_page.ParsedPage.{ParsedPage}

-- a page that can be read: a text that isn't too long, and whose tree is in proportion to it
abbrev pub IsReadable : List ℕ → Type 0
IsReadable page = IsPage page × (is_in_proportion_by standard page ≡ true)

-- why a page has no tree: what is not understood can't be read
abbrev pub IsUnread : List ℕ → Failure → Type 0
IsUnread page Refused = ⊥
IsUnread page NotUnderstood = IsReadable page → ⊥
IsUnread page OutOfMemory = ⊤
IsUnread page Fault = ⊥

-- A page is read into a document (what it held, and what it holds after the call): the status, and
-- the document.
pub record Reads (page : List ℕ) (old new : Option ParsedPage) (status : ℕ) : Type 0 where
  pub range : (status ≡ 0) ⊎ (status ≡ 2) ⊎ (status ≡ 3)
  -- 0: it holds the tree of the page
  pub is_readable : status ≡ 0 → IsReadable page
  pub is_read : status ≡ 0 → IsSomeAnd new (λ own. IsOfPage page own.tree)
  -- 2: the page can't be read
  pub is_not_understood : status ≡ 2 → IsReadable page → ⊥
  -- 2 and 3: it holds what it held; 3 is said where memory ran out
  pub untouched : 0 < status → new ≡ old
