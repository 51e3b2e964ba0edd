-- What is answered of a page: of the tree that the HTML standard builds of its bytes.
use Rattle.std.specs.Prelude.{List, None, Option, Some, false, length, true, ℕ, ⊤, ◌≡◌, ◌≤◌}
use Rattle.tl_answers.specs.Answers.{AsksForUrls, Fits, HasLargeTable, Matches, answer_of}
use Rattle.tl_answers.specs.Findings.{Finding}
use Rattle.tl_answers.specs.declared.error.AnswerError.{AnswerError}
use Rattle.tl_answers.specs.declared.error.AnswerError.TheVariants as errors
use Rattle.tl_answers.specs.declared.error.AnswerError.TheVariants.{LargeTable, LongUrl, Unread}
use Rattle.tl_answers.specs.declared.question.Question.{Question}
use Rattle.tl_dom_spec.specs.HtmlTree.{html_tree, is_in_proportion_by, standard}
use Rattle.tl_tree.specs.Asked.{node_at}
use Rattle.tl_tree.specs.Rows.{Node, Row, rows_of}
use Rattle.tl_tree.specs.Sources.{IsOutOfProportionAt, IsSourceOf, Reached, Reads, page_begin}
use Rattle.tl_tree.specs.declared.error.ReadError.{ReadError}
use Rattle.tl_tree.specs.declared.error.ReadError.TheVariants.{OutOfMemory, OutOfProportion, TooLarge}
use Rattle.tl_tree.specs.declared.source.Source.{Source}
use Rattle.tl_tree_select.specs.Page.{Page}

-- what a selector is asked of: the document of a page, from its root
abbrev pub searched : List ℕ → Page
searched page = record {
  rows = rows_of (html_tree page).trees;
  is_quirks = (html_tree page).is_quirks;
  scope = None;
}

-- where in the page each row comes from
pub record AreSources (page : List ℕ) (sources : ℕ → Option Source) : Type 0 where
  pub last : Reached
  pub read : Reads page (page_begin standard page) last
  pub whole : length page ≤ last.at
  pub each : (row : ℕ) (node : Node) →
      node_at (rows_of (html_tree page).trees) row ≡ Some node →
      IsSourceOf (page_begin standard page).at (length page) last.marks node (sources row)

-- the rows of the trees that are built of a page
abbrev pub page_rows : List ℕ → List Row
page_rows page = rows_of (html_tree page).trees

-- what is answered of a page where these are selected
pub record IsAnswered (question : Question) (m : Matches) (end page : List ℕ)
    (finding : Finding) : Type 0 where
  pub in_proportion : is_in_proportion_by standard page ≡ true
  pub sources : ℕ → Option Source
  pub are_sources : AreSources page sources
  pub answer : finding ≡ answer_of question m end (html_tree page).trees sources page
  pub fits : Fits (length page) (page_rows page) question m

-- why it isn't read
abbrev pub IsUnread : List ℕ → ReadError → Type 0
IsUnread page OutOfMemory = ⊤
IsUnread page TooLarge = ⊤
IsUnread page (OutOfProportion at) =
    (is_in_proportion_by standard page ≡ false)
    × IsOutOfProportionAt page (page_begin standard page) at

-- the tables that are asked for are out of proportion to the page, and the start tag of the first
-- one that is too much begins there
pub record HasLargeTableAt (question : Question) (page : List ℕ) (at : ℕ) : Type 0 where
  pub in_proportion : is_in_proportion_by standard page ≡ true
  pub sources : ℕ → Option Source
  pub are_sources : AreSources page sources
  pub large : HasLargeTable (length page) (searched page) sources question at

-- why nothing is answered of it
abbrev pub IsRefused : Question → List ℕ → AnswerError → Type 0
IsRefused question page (Unread error) = IsUnread page error
IsRefused question page (LargeTable at) = HasLargeTableAt question page at
IsRefused question page LongUrl = AsksForUrls question
IsRefused question page errors.OutOfMemory = ⊤
