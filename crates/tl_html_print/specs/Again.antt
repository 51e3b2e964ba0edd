-- Which trees of a page are read again as they are printed: the cases in which they are not are
-- those of the standard (at the end of 13.3), and are named here one by one.
--
-- What no page has, whatever stands in its bytes, is no case: names, keys and comments of pages are
-- always read again (laws `pages_are_read_again`, `fragments_are_read_again`).
use Rattle.std.specs.List.{list_all, list_any}
use Rattle.std.specs.Prelude.{Bool, List, [], false, if◌then◌else◌, not, true, ℕ, ◌&&◌, ◌++◌, ◌==◌, ◌||◌, ◌∷◌}
use Rattle.std.specs.Str.{bytes_eq}
use Rattle.tl_dom_spec.specs.HtmlForest.{HtmlForest, comment, doctype, element, no_trees, text}
use Rattle.tl_dom_spec.specs.HtmlTree.{Context, html_fragment_by, standard}
use Rattle.tl_dom_spec.specs.Tags.{Attribute, Tag, is_html}
use Rattle.tl_html_print.specs.ReadAgain.{attribute_read, is_kept, lowered}
use Rattle.tl_html_print.specs.Serialized.{end_tag, parent_below, serialized_text}
use Rattle.tl_html_spec.specs.Balanced.{is_raw}
use Rattle.tl_html_spec.specs.HtmlTokenizer.{Character, EndTag, HtmlAttribute, HtmlToken, after_start, data_state}
use Rattle.tl_html_spec.specs.Reader.{Reader, after, at, emitted}

-- A carriage return, which a reference gives: it is read as a line feed (13.2.3.5)

abbrev pub has_no_return : List ℕ → Bool
has_no_return bytes = list_all is_kept bytes

abbrev pub values_have_none : Tag → Bool
values_have_none tag = list_all (λ (a : Attribute). has_no_return a.value) tag.attributes

-- A key of an element of `svg` or `math` that is printed as another one of it is

abbrev pub are_apart : List HtmlAttribute → List Attribute → Bool
are_apart before [] = true
are_apart before (a ∷ attributes) =
    not (list_any (λ (b : HtmlAttribute). bytes_eq b.0 (attribute_read a).0) before)
    && are_apart (before ++ attribute_read a ∷ []) attributes

abbrev pub has_own_keys : Tag → Bool
has_own_keys tag = is_html tag || are_apart [] tag.attributes

-- A text without markup that its end tag doesn't end: one that holds that end tag (13.2.5.11, .14,
-- .17), a script that leaves `<!--<script` open (13.2.5.27 to .31), any in `plaintext` (13.2.5.5),
-- and one with a NUL or a carriage return. And in `svg` and `math`, where `style` and its like hold
-- markup, one that is escaped: by its name the tokenizer reads no reference there

-- whether tokens are these characters, and then the end tag of this name
abbrev pub are_text_and_end : List ℕ → List ℕ → List HtmlToken → Bool
are_text_and_end name (b ∷ bytes) (Character c ∷ tokens) =
    b == c && are_text_and_end name bytes tokens
are_text_and_end name [] (EndTag other ∷ []) = bytes_eq other name
are_text_and_end name _ _ = false

abbrev pub is_in_data : Reader → Bool
is_in_data r = elim r.state as (λ _. Bool) [ data_state ↦ not r.after_return | _ ↦ false ]

abbrev pub ends_itself : Tag → List ℕ → Bool
ends_itself tag bytes =
    let start = at (after_start (lowered tag.name)) in
    let printed = serialized_text false (parent_below tag) bytes ++ end_tag tag in
    are_text_and_end (lowered tag.name) bytes (emitted start printed)
    && is_in_data (after start printed)

-- An element in which the tokenizer reads no markup, by its name, and that holds some: in `svg` and
-- `math` (`title`), or after a script has put it there

abbrev pub holds_one_text : Tag → HtmlForest → Bool
holds_one_text tag no_trees = ends_itself tag []
holds_one_text tag (text own no_trees) = ends_itself tag own.said
holds_one_text tag _ = false

-- All of these

abbrev pub is_read_again : HtmlForest → Bool
is_read_again no_trees = true
is_read_again (text own more) = has_no_return own.said && is_read_again more
is_read_again (comment bytes more) = is_read_again more
is_read_again (doctype own more) = is_read_again more
is_read_again (element tag below more) =
    (values_have_none tag && has_own_keys tag)
    && ((if is_raw (lowered tag.name) then holds_one_text tag below else is_read_again below)
    && is_read_again more)

-- Built again

-- the trees of a text in a context element, whether `search` is a special element or not
abbrev pub built_in : Context → Bool → List ℕ → HtmlForest
built_in context counts_search bytes =
    html_fragment_by (record standard { counts_search = counts_search }) context bytes
