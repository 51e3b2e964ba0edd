-- What is taken out of the document that is held, if one is: readable text, links, tables.
use Rattle.std.specs.Prelude.{◌∷◌, ◌++◌, ◌&&◌, ℕ, Bool, List, [], Option, None, Some, codes, false, flat_map, if◌then◌else◌, length, nat_lt, option_and_then, true}
use Rattle.std.specs.Str.{bytes_eq, is_utf8}
use Rattle.json.specs.Print.{print}
use Rattle.tl_dom_spec.specs.HtmlForest.{HtmlForest}
use Rattle.tl_html_print.specs.Pretty.{pretty}
use Rattle.tl_page.specs.Outcome.{Outcome, not_understood, refused, success}
use Rattle.tl_tree.specs.Asked.{name_of, namespace_of, node_at}
use Rattle.tl_tree.specs.Rows.{Row}
use Rattle.tl_tree.specs.declared.entries.Namespace.{Namespace}
use Rattle.tl_tree.specs.declared.entries.Namespace.TheVariants.{Html, Math, Svg}
use Rattle.tl_tree.specs.Sources.{source_at}
use Rattle.tl_tree.specs.TreeView.{rows_in}
use Rattle.tl_tree_extract.specs.Json.{nodes_tokens}
use Rattle.tl_tree_extract.specs.Links.{Link, links_of}
use Rattle.tl_tree_extract.specs.Readable.{readable_below}
use Rattle.tl_tree_extract.specs.Resolved.{resolved, url_of}
use Rattle.tl_tree_extract.specs.Sheet.{table_written}
use Rattle.tl_tree_extract.specs.declared.column.Columns.TheVariants.{Commas}
use Rattle.tl_tree_extract.specs.declared.sheet.Spans.TheVariants.{Filled}
use Rattle.url.specs.Parser.{parse_url}
use Rattle.url.specs.Parts.{serialize}
use Rattle.tl_c.specs.Nodes.{key_of, number_bytes}
use Rattle.tl_c.specs.Queries.{outcome_of_some, tree_held, tree_in}
use Rattle.tl_c.specs.declared.parsed_page.ParsedPage.{ParsedPage}

-- the readable text of what is below a node
abbrev pub readable_in : ℕ → Option ParsedPage → Outcome (List ℕ)
readable_in number held =
    outcome_of_some
    (λ tree. success (readable_below [] (rows_in tree) number))
    (tree_in number held)

-- an array of JSON that has the node with what is below it
abbrev pub json_in : ℕ → Option ParsedPage → Outcome (List ℕ)
json_in number held =
    outcome_of_some
    (λ tree. success (print (nodes_tokens (source_at tree) (rows_in tree) (number ∷ []))))
    (tree_in number held)

-- the page as markup with a tag on each line
abbrev pub pretty_in : HtmlForest → Option ParsedPage → Outcome (List ℕ)
pretty_in trees held = outcome_of_some (λ _. success (pretty false trees)) held

-- Links

-- the number of the element, how many bytes the key and the URL have, and both
abbrev pub link_bytes : Link → List ℕ
link_bytes link =
    number_bytes link.node ++ (number_bytes (length (key_of link.attribute))
    ++ (number_bytes (length link.part.bytes) ++ (key_of link.attribute ++ link.part.bytes)))

abbrev pub links_in : Option ParsedPage → Outcome (List ℕ)
links_in held =
    outcome_of_some
    (λ tree. success (flat_map link_bytes (links_of (rows_in tree))))
    (tree_held held)

-- where a link leads from a base, if both are URLs
abbrev pub target_of : List ℕ → List ℕ → Outcome (List ℕ)
target_of base link =
    outcome_of_some
    (λ own. outcome_of_some (λ url. success (serialize url)) (resolved own link))
    (url_of (parse_url None base))

abbrev pub joined_of : List ℕ → List ℕ → Outcome (List ℕ)
joined_of base link = if is_utf8 base then target_of base link else not_understood

-- Tables

abbrev pub is_html_space : Option Namespace → Bool
is_html_space None = false
is_html_space (Some Html) = true
is_html_space (Some Svg) = false
is_html_space (Some Math) = false

abbrev pub is_html_at : List Row → ℕ → Bool
is_html_at rows n = is_html_space (option_and_then namespace_of (node_at rows n))

abbrev pub is_table_name : Option (List ℕ) → Bool
is_table_name None = false
is_table_name (Some name) = bytes_eq name (codes "table")

-- a `table` of HTML
abbrev pub is_table_at : List Row → ℕ → Bool
is_table_at rows n =
    is_html_at rows n && is_table_name (option_and_then name_of (node_at rows n))

-- its lines as CSV, each slot with the words of the cell that covers it
abbrev pub table_csv : List Row → ℕ → List ℕ
table_csv rows n = table_written Commas Filled rows n

-- the lines where they are no longer than a limit; more are not understood
abbrev pub within : ℕ → List ℕ → Outcome (List ℕ)
within limit lines = if nat_lt limit (length lines) then not_understood else success lines

abbrev pub table_at : List Row → ℕ → ℕ → Outcome (List ℕ)
table_at rows n limit = if is_table_at rows n then within limit (table_csv rows n) else refused

abbrev pub table_in : ℕ → ℕ → Option ParsedPage → Outcome (List ℕ)
table_in number limit held =
    outcome_of_some (λ tree. table_at (rows_in tree) number limit) (tree_in number held)
