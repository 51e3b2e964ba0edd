-- The markup of elements, one behind the other.
use Rattle.std.specs.Prelude.{List, false, flat_map, ℕ}
use Rattle.tl_dom_spec.specs.HtmlForest.{HtmlForest}
use Rattle.tl_html_print.specs.Places.{outer_at}
use Rattle.uses.specs.Values.{line}

-- that of the element of a number among trees, with scripting off
abbrev pub element_line : HtmlForest → ℕ → List ℕ
element_line trees n = line (outer_at false trees n)

abbrev pub element_lines : HtmlForest → List ℕ → List ℕ
element_lines trees numbers = flat_map (element_line trees) numbers
