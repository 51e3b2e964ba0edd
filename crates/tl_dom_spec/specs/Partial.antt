-- Trees of the partial tree builder of `tl_tree_spec` as those of the whole one.
use Rattle.tl_spec.specs.Tree.Forest.{comment, none, tag, text}
use Rattle.tl_tree_spec.specs.HtmlForest as P
use Rattle.std.specs.Prelude.{Bool, None, false, not, true, ◌&&◌}
use Rattle.tl_html_spec.specs.Balanced.{is_raw}
use Rattle.tl_tree_spec.specs.Builder.{Reading}
use Rattle.tl_dom_spec.specs.Groups.{Group, a_caption, a_column_group, a_frameset, a_row, a_table, a_table_body, a_template, group, the_html}
use Rattle.tl_dom_spec.specs.HtmlTree.{Context}
use Rattle.tl_dom_spec.specs.Marks.{Marked, unmarked}
use Rattle.tl_dom_spec.specs.Tags.{Tag, html_tag, is_html}
use Rattle.tl_dom_spec.specs.HtmlForest as D

-- Context elements

-- whether the insertion mode is "in body" at first, or "in caption", where an element of a group is
-- the context element (13.2.4.1). No caption is open there, so "in caption" ignores the tags of
-- parts of tables, as "in body" does
abbrev pub begins_in_flow : Group → Bool
begins_in_flow the_html = false
begins_in_flow a_frameset = false
begins_in_flow a_template = false
begins_in_flow a_table = false
begins_in_flow a_column_group = false
begins_in_flow a_table_body = false
begins_in_flow a_row = false
begins_in_flow _ = true

-- where flow content is read as such: in an HTML element in whose content the insertion mode is "in
-- body" or "in caption" at first and, with scripting off, the tokenizer in the data state. It may
-- have attributes, and be or stand in a form
abbrev pub is_flow_context : Context → Bool
is_flow_context context =
    is_html context.tag
    && (begins_in_flow (group context.tag.name) && not (is_raw context.tag.name))

-- how the partial builder reads there
abbrev pub reading_in : Context → Bool → Reading
reading_in context counts_search = record {
  counts_search = counts_search;
  is_quirks = context.is_quirks;
}

-- Trees

-- all elements are those of HTML
abbrev pub whole : P.HtmlForest → D.HtmlForest
whole none = D.no_trees
whole (text bytes more) = D.text (unmarked bytes) (whole more)
whole (comment bytes more) = D.comment (unmarked bytes) (whole more)
whole (tag own children more) =
    D.element (html_tag own.name own.attributes) (whole children) (whole more)

-- without numbers of marks, which partial trees don't have
abbrev pub unnumbered : Tag → Tag
unnumbered t = record t { source = None }

abbrev pub without_number : {A : Type 0} → Marked A → Marked A
without_number own = unmarked own.said

abbrev pub without_numbers : D.HtmlForest → D.HtmlForest
without_numbers D.no_trees = D.no_trees
without_numbers (D.text own more) = D.text (without_number own) (without_numbers more)
without_numbers (D.comment own more) =
    D.comment (without_number own) (without_numbers more)
without_numbers (D.doctype own more) =
    D.doctype (without_number own) (without_numbers more)
without_numbers (D.element own below more) =
    D.element (unnumbered own) (without_numbers below) (without_numbers more)
