-- What is answered of the tree of a page.
use Rattle.std.specs.Option.{option_copied}
use Rattle.std.specs.Prelude.{IsSome, List, None, Option, Some, [], false, length, take, ℕ, ⊤, ◌≡◌}
use Rattle.tl_answers.specs.Document.{document_text}
use Rattle.tl_answers.specs.Findings.{Finding, listed, number_line, of_nodes, whole}
use Rattle.tl_answers.specs.LeftOut.{AreLeftOut, marks_in}
use Rattle.tl_answers.specs.LinkLines.{link_lines}
use Rattle.tl_answers.specs.Lines.{comment_lines, comments_inside, field_lines, line_ended, readable_lines}
use Rattle.tl_answers.specs.Objects.{array_line}
use Rattle.tl_answers.specs.Places.{placed_lines}
use Rattle.tl_answers.specs.SourceLines.{source_lines}
use Rattle.tl_answers.specs.Records.{record_lines}
use Rattle.tl_answers.specs.Tables.{Fit, IsLargeAt, asked_tables, tables_found}
use Rattle.tl_answers.specs.declared.error.AnswerError.{AnswerError}
use Rattle.tl_answers.specs.declared.error.AnswerError.TheVariants as errors
use Rattle.tl_answers.specs.declared.error.AnswerError.TheVariants.{LargeTable, LongUrl, Unread}
use Rattle.tl_answers.specs.declared.question.Question.{Question}
use Rattle.tl_answers.specs.declared.question.Question.TheVariants.{Comments, Links, Outline, PrettyPrint, Print, Readable, Select, Table, Text}
use Rattle.tl_answers.specs.declared.selection.Listing.{Listing}
use Rattle.tl_answers.specs.declared.selection.Listing.TheVariants.{Comments as InsideComments, Count, Fields, Lines, Objects, Placed, Readable as InsideReadable, Records, Sources}
use Rattle.tl_answers.specs.declared.selection.Query.{Query}
use Rattle.tl_css.specs.Selector.{Css}
use Rattle.tl_dom_spec.specs.HtmlForest.{HtmlForest}
use Rattle.tl_html_print.specs.Pretty.{pretty}
use Rattle.tl_html_print.specs.Serialized.{serialized}
use Rattle.tl_tree.specs.Rows.{Row, rows_of}
use Rattle.tl_tree.specs.declared.source.Source.{Source}
use Rattle.tl_tree_extract.specs.Json.{json_lines}
use Rattle.tl_tree_extract.specs.Marks.{comments_of}
use Rattle.tl_tree_extract.specs.NodeOutline.{node_outline}
use Rattle.tl_tree_extract.specs.Readable.{readable_rows}
use Rattle.tl_tree_select.specs.Meaning.{AreFound}
use Rattle.tl_tree_select.specs.Page.{Page}

-- the first of a list, at most so many; all where that isn't said
abbrev pub front : Option ℕ → List ℕ → List ℕ
front None numbers = numbers
front (Some most) numbers = take most numbers

-- the numbers of the nodes where selectors hold: the one by which nodes are looked for, and the one
-- by which they are left out of texts
pub record Matches : Type 0 where
  pub found : List ℕ
  pub left_out : List ℕ

abbrev pub AreNone : Matches → Type 0
AreNone m = (m.found ≡ []) × (m.left_out ≡ [])

-- what is written of the nodes of these numbers, each of which comes from somewhere in the page,
-- where what is listed ends with these bytes, and but for nodes that are left out
abbrev pub listing_of :
    Listing → List ℕ → HtmlForest → (ℕ → Option Source) → List ℕ → List ℕ → List ℕ → Finding
listing_of (Fields field) end trees sources page numbers out =
    listed (field_lines field end trees numbers)
listing_of (Placed field) end trees sources page numbers out =
    listed (placed_lines field end trees sources page numbers)
listing_of (InsideReadable but) end trees sources page numbers out =
    of_nodes numbers (readable_lines (marks_in (rows_of trees) out) (rows_of trees) numbers)
listing_of InsideComments end trees sources page numbers out =
    listed (comments_inside end (rows_of trees) numbers)
listing_of Sources end trees sources page numbers out =
    listed (source_lines end sources page numbers)
listing_of (Records own) end trees sources page numbers out =
    listed (record_lines own (rows_of trees) numbers)
listing_of Count end trees sources page numbers out = number_line end (length numbers)
listing_of (Objects form) end trees sources page numbers out =
    of_nodes numbers (array_line form end sources (rows_of trees) numbers)
listing_of (Lines form file) end trees sources page numbers out =
    listed (json_lines form (Some file.now) sources (rows_of trees) numbers)

-- the selector of what is left out of texts, if there is one
abbrev pub but_of : Listing → Option Css
but_of (Fields field) = None
but_of (Placed field) = None
but_of (InsideReadable but) = option_copied but
but_of InsideComments = None
but_of Sources = None
but_of (Records own) = None
but_of Count = None
but_of (Objects form) = None
but_of (Lines form file) = None

-- where the selectors of a query hold
pub record AreAsked (query : Query) (page : Page) (m : Matches) : Type 0 where
  pub found : AreFound page query.selector.now m.found
  pub left_out : AreLeftOut (but_of query.listing) page m.left_out

-- the numbers of the nodes of a page where the selectors of what is asked hold; where it has none,
-- no number
abbrev pub AreSelected : Question → Page → Matches → Type 0
AreSelected (Select query) page m = AreAsked query page m
AreSelected (Links query) page m = AreNone m
AreSelected Text page m = AreNone m
AreSelected (Readable but) page m = (m.found ≡ []) × AreLeftOut (option_copied but) page m.left_out
AreSelected Comments page m = AreNone m
AreSelected Print page m = AreNone m
AreSelected PrettyPrint page m = AreNone m
AreSelected (Table query) page m =
    AreLeftOut (option_copied query.within) page m.found × (m.left_out ≡ [])
AreSelected (Outline has_numbers) page m = AreNone m

-- what is answered of the trees of a page where these are selected
abbrev pub answer_of :
    Question → Matches → List ℕ → HtmlForest → (ℕ → Option Source) → List ℕ → Finding
answer_of (Select query) m end trees sources page =
    listing_of query.listing end trees sources page (front query.most m.found) m.left_out
answer_of (Links query) m end trees sources page = listed (link_lines query end (rows_of trees))
answer_of Text m end trees sources page = whole (document_text (rows_of trees))
answer_of (Readable but) m end trees sources page =
    whole (line_ended (readable_rows (marks_in (rows_of trees) m.left_out) (rows_of trees)))
answer_of Comments m end trees sources page =
    listed (comment_lines end (rows_of trees) (comments_of (rows_of trees)))
answer_of Print m end trees sources page = whole (serialized false None trees)
answer_of PrettyPrint m end trees sources page = whole (pretty false trees)
answer_of (Table query) m end trees sources page =
    tables_found query (rows_of trees) (asked_tables (rows_of trees) query m.found)
answer_of (Outline has_numbers) m end trees sources page =
    whole (node_outline has_numbers (rows_of trees))

-- the tables that are asked for, if there are any, are in proportion to a page of so many bytes,
-- where these nodes are selected
abbrev pub Fits : ℕ → List Row → Question → Matches → Type 0
Fits size rows (Select query) m = ⊤
Fits size rows (Links query) m = ⊤
Fits size rows Text m = ⊤
Fits size rows (Readable but) m = ⊤
Fits size rows Comments m = ⊤
Fits size rows Print m = ⊤
Fits size rows PrettyPrint m = ⊤
Fits size rows (Table query) m = Fit size query rows (asked_tables rows query m.found)
Fits size rows (Outline has_numbers) m = ⊤

-- tables are asked for that are not, and the start tag of the first one that is too much begins
-- there
abbrev pub HasLargeTable : ℕ → Page → (ℕ → Option Source) → Question → ℕ → Type 0
HasLargeTable size page sources (Select query) at = ⊥
HasLargeTable size page sources (Links query) at = ⊥
HasLargeTable size page sources Text at = ⊥
HasLargeTable size page sources (Readable but) at = ⊥
HasLargeTable size page sources Comments at = ⊥
HasLargeTable size page sources Print at = ⊥
HasLargeTable size page sources PrettyPrint at = ⊥
HasLargeTable size page sources (Table query) at =
    (m : Matches) → AreSelected (Table query) page m →
    IsLargeAt size query page.rows sources (asked_tables page.rows query m.found) at
HasLargeTable size page sources (Outline has_numbers) at = ⊥

-- it is asked where links lead
abbrev pub AsksForUrls : Question → Type 0
AsksForUrls (Select query) = ⊥
AsksForUrls (Links query) = IsSome query.base
AsksForUrls Text = ⊥
AsksForUrls (Readable but) = ⊥
AsksForUrls Comments = ⊥
AsksForUrls Print = ⊥
AsksForUrls PrettyPrint = ⊥
AsksForUrls (Table query) = ⊥
AsksForUrls (Outline has_numbers) = ⊥

-- why nothing is answered of the tree of a page of so many bytes
abbrev pub IsUnanswered :
    ℕ → Page → (ℕ → Option Source) → Question → AnswerError → Type 0
IsUnanswered size page sources question (Unread error) = ⊥
IsUnanswered size page sources question (LargeTable at) =
    HasLargeTable size page sources question at
IsUnanswered size page sources question LongUrl = AsksForUrls question
IsUnanswered size page sources question errors.OutOfMemory = ⊤
