-- What went of a text, told in lines: `FILE:LINE:COLUMN: <NAME KEY>: WHY`.
use Rattle.std.specs.Fmt.{decimal}
use Rattle.std.specs.Prelude.{List, None, Option, Some, [], codes, length, ℕ, ◌++◌, ◌∷◌, ◌≡◌, ◌≤◌}
use Rattle.tl_dom_spec.specs.HtmlTree.{context_of, html_fragment, standard}
use Rattle.tl_lines.specs.Lines.{column_at, line_at}
use Rattle.tl_tree.specs.Asked.{node_at}
use Rattle.tl_tree.specs.Rows.{Node, Row, rows_of}
use Rattle.tl_tree.specs.Sources.{IsSourceOf, Reached, Reads, fragment_begin}
use Rattle.tl_tree.specs.declared.source.Source.{Source}
use Rattle.tl_tree_safe.specs.Causes.{cause_words}
use Rattle.tl_tree_safe.specs.InDiv.{div}
use Rattle.tl_tree_safe.specs.Lists.{ListedWords}
use Rattle.tl_tree_safe.specs.RemovalForms.{removals_written}
use Rattle.tl_tree_safe.specs.Removed.{Gone, removed}
use Rattle.tl_tree_safe.specs.ShownNames.{shown}

-- `LINE:COLUMN:` of a byte
abbrev pub place_words : List ℕ → ℕ → List ℕ
place_words text at =
    decimal (line_at text at) ++ 58 ∷ (decimal (column_at text at) ++ 58 ∷ [])

-- ` KEY` of an attribute
abbrev pub key_words : Option (List ℕ) → List ℕ
key_words None = []
key_words (Some key) = 32 ∷ shown key

-- ` <NAME>: ` of an element, ` <NAME KEY>: ` of an attribute
abbrev pub tag_words : List ℕ → Option (List ℕ) → List ℕ
tag_words name key = codes " <" ++ (shown name ++ (key_words key ++ codes ">: "))

-- the line of what went, which stands at its start tag
abbrev pub line_of : List ℕ → List ℕ → Source → List ℕ → Gone → List ℕ
line_of file text source name gone =
    file ++ 58 ∷ (place_words text source.start
    ++ (tag_words name gone.key ++ (cause_words gone.cause ++ 10 ∷ [])))

abbrev pub removed_lines :
    List ℕ → List ℕ → (ℕ → Option Source) → List Row → List Gone → List ℕ
removed_lines file text = removals_written (line_of file text)

-- where in a text that is read as what a `div` holds each row comes from
pub record AreSources (text : List ℕ) (sources : ℕ → Option Source) : Type 0 where
  pub last : Reached
  pub read : Reads text (fragment_begin standard (context_of div)) last
  pub whole : length text ≤ last.at
  pub each : (row : ℕ) (node : Node) →
      node_at (rows_of (html_fragment div text)) row ≡ Some node →
      IsSourceOf 0 (length text) last.marks node (sources row)

-- lines that tell what goes of a text by lists
pub record TellRemoved (p : ListedWords) (file text told : List ℕ) : Type 0 where
  pub sources : ℕ → Option Source
  pub are_sources : AreSources text sources
  pub lines : told ≡ removed_lines file text sources (rows_of (html_fragment div text))
      (removed p (html_fragment div text))
