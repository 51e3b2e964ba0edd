-- Which trees the tree builder gives back.
use Rattle.std.specs.Prelude.{ℕ, Bool, true, false, not, ◌||◌, ◌&&◌, ◌==◌, List, [], ◌∷◌, codes, if◌then◌else◌}
use Rattle.std.specs.Char.{is_ascii_whitespace}
use Rattle.std.specs.List.{list_all}
use Rattle.std.specs.Str.{bytes_eq}
use Rattle.tl_spec.specs.Lex.ByteClass.{is_void}
use Rattle.tl_spec.specs.Tree.Forest.{comment, none, tag, text}
use Rattle.tl_html_spec.specs.Balanced.{is_button_scope, is_item_bound, is_one_of, is_scope}
use Rattle.tl_tree_spec.specs.HtmlForest.{HtmlForest}
use Rattle.tl_tree_spec.specs.Groups.{Group, a_block, a_break, a_button, a_caption, a_cell, a_column, a_column_group, a_description, a_detail, a_format, a_heading, a_mark, a_nobr, a_paragraph, a_preformatted, a_row, a_ruby_base, a_ruby_text, a_rule, a_table, a_table_body, a_void, an_anchor, an_item, any_other, group, is_column_group, is_description, is_heading, is_implied, is_item, is_paragraph, is_row, is_table, is_table_body}
use Rattle.tl_tree_spec.specs.Builder.{is_flow, mode_of, within}
use Rattle.tl_tree_spec.specs.HtmlTreeBuilder.{is_rtc}

-- a `p` is open that a block would close
abbrev pub in_p : List (List ℕ) → Bool
in_p names = within is_paragraph is_button_scope names

-- the search of a `li`, `dd` or `dt` for an earlier one ends here whether `search` is a special
-- element or not
abbrev pub surely_ends : List ℕ → Bool
surely_ends n = is_item_bound n && not (is_one_of (codes "search") n)

-- the innermost open element passes the test
abbrev pub directly_in : (List ℕ → Bool) → List (List ℕ) → Bool
directly_in test [] = false
directly_in test (n ∷ names) = test n

abbrev pub in_ruby : List (List ℕ) → Bool
in_ruby names = within (is_one_of (codes "ruby")) is_scope names

-- an element that marks the list of active formatting elements
abbrev pub is_mark_group : Group → Bool
is_mark_group a_mark = true
is_mark_group a_caption = true
is_mark_group a_cell = true
is_mark_group _ = false

abbrev pub is_mark : List ℕ → Bool
is_mark n = is_mark_group (group n)

-- where the rules are those of "in body", an element of a group may stand where these elements are
-- open, the innermost first
abbrev pub stands_in_flow : Group → List (List ℕ) → List ℕ → Bool
stands_in_flow a_paragraph names n = not (in_p names)
stands_in_flow a_block names n = not (in_p names)
stands_in_flow a_heading names n = not (in_p names) && not (directly_in is_heading names)
stands_in_flow a_preformatted names n = not (in_p names)
stands_in_flow an_item names n = not (within is_item surely_ends names) && not (in_p names)
stands_in_flow a_description names n =
    not (within is_description surely_ends names) && not (in_p names)
stands_in_flow a_button names n = not (within (bytes_eq n) is_scope names)
stands_in_flow an_anchor names n = not (within (bytes_eq n) is_mark names)
stands_in_flow a_format names n = true
stands_in_flow a_nobr names n = not (within (bytes_eq n) is_scope names)
stands_in_flow a_break names n = true
stands_in_flow a_void names n = true
stands_in_flow a_detail names n = true
stands_in_flow a_rule names n = not (in_p names)
stands_in_flow a_ruby_base names n = not (in_ruby names) || not (directly_in is_implied names)
stands_in_flow a_ruby_text names n =
    not (in_ruby names) || not (directly_in (λ m. is_implied m && not (is_rtc m)) names)
stands_in_flow any_other names n = true
stands_in_flow a_table names n = not (in_p names)
stands_in_flow _ names n = false

-- parts of tables stand in one another alone
abbrev pub stands : Group → List (List ℕ) → List ℕ → Bool
stands a_caption names n = directly_in is_table names
stands a_column_group names n = directly_in is_table names
stands a_column names n = directly_in is_column_group names
stands a_table_body names n = directly_in is_table names
stands a_row names n = directly_in is_table_body names
stands a_cell names n = directly_in is_row names
stands g names n = is_flow (mode_of names) && stands_in_flow g names n

-- the groups that have no end tag
abbrev pub is_alone : Group → Bool
is_alone a_break = true
is_alone a_void = true
is_alone a_detail = true
is_alone a_rule = true
is_alone a_column = true
is_alone _ = false

abbrev pub may_stand : List (List ℕ) → List ℕ → Bool
may_stand names n = stands (group n) names n

abbrev pub is_preformatted : Group → Bool
is_preformatted a_preformatted = true
is_preformatted _ = false

-- the first character is a line feed
abbrev pub begins_line : HtmlForest → Bool
begins_line (text [] more) = begins_line more
begins_line (text (c ∷ bytes) more) = c == 10
begins_line _ = false

abbrev pub is_none : HtmlForest → Bool
is_none none = true
is_none _ = false

-- a character that may stand: between the parts of a table white space alone
abbrev pub may_be_read : Bool → ℕ → Bool
may_be_read true c = not (c == 0)
may_be_read false c = is_ascii_whitespace c

-- trees that stay as they are where these elements are open, the innermost first
abbrev pub stay : List (List ℕ) → HtmlForest → Bool
stay names none = true
stay names (text bytes more) =
    list_all (may_be_read (is_flow (mode_of names))) bytes && stay names more
stay names (comment bytes more) = false
stay names (tag own children more) =
    may_stand names own.name
    && (if is_void own.name then is_alone (group own.name) && is_none children
    else not (is_alone (group own.name))
    && not (is_preformatted (group own.name) && begins_line children)
    && stay (own.name ∷ names) children)
    && stay names more
