-- Trees that are made to stay as they are once a browser reads them again.
--
-- In a tree of the standard nearly all stands where it may. What is left to do:
--
-- * A tag that may not stand where it is, is unwrapped. So one element may stand in another of
--   which the start tag would end it, when what was between them went: `p` in `p`, of which an
--   `object` was unwrapped, `a` in `a`, `li` in `li` without their `ul`, a heading right in a
--   heading, a `td` without its row. And the standard itself puts an `a` into an `a` where many
--   elements are open between them (the adoption agency looks eight times).
-- * A tag is unwrapped in which more elements would be open than `most_open`: browsers put none
--   deeper than 512.
-- * Between the parts of a table white space alone stays: other texts would be moved before the
--   table. Such come there where a cell or a caption was unwrapped.
-- * What stands first in `pre` doesn't begin with a line feed, which would be dropped.
--
-- No element is ended before its end, and no part of a table is added: the standard has done so.
use Rattle.std.specs.Prelude.{Bool, List, [], codes, filter, if◌then◌else◌, length, nat_le, not, ℕ, ◌&&◌, ◌==◌, ◌∷◌}
use Rattle.tl_dom_spec.specs.HtmlForest.{HtmlForest, comment, doctype, element, no_trees, text}
use Rattle.tl_dom_spec.specs.Marks.{Marked}
use Rattle.tl_safe_fit.specs.Levels.{most_open}
use Rattle.tl_spec.specs.Lex.ByteClass.{is_void}
use Rattle.tl_tree_safe.specs.Kept.{joined}
use Rattle.tl_tree_spec.specs.Builder.{is_flow, mode_of}
use Rattle.tl_tree_spec.specs.Groups.{group}
use Rattle.tl_tree_spec.specs.HtmlForest.{is_empty}
use Rattle.tl_tree_spec.specs.Stays.{is_alone, is_preformatted, may_be_read, may_stand}

-- names of open elements, the innermost first
abbrev pub Names : Type 0
Names = List (List ℕ)

-- The print stands in an element for which tree construction has no rule that counts here
abbrev pub at_top : Names
at_top = codes "html" ∷ []

-- whether a tag is read inside elements of these names: it may stand there, has an end tag exactly
-- where the standard reads one, and is not too deep
abbrev pub is_read : Names → List ℕ → Bool
is_read names n =
    may_stand names n && (if is_void n then is_alone (group n) else not (is_alone (group n)))
    && nat_le (length names) most_open

-- Texts

-- what stays of a text
abbrev pub text_there : Names → Marked (List ℕ) → Marked (List ℕ)
text_there names own =
    record own { said = filter (may_be_read (is_flow (mode_of names))) own.said }

abbrev pub past_lines : List ℕ → List ℕ
past_lines [] = []
past_lines (c ∷ cs) = if c == 10 then past_lines cs else c ∷ cs

abbrev pub without_lines : Marked (List ℕ) → Marked (List ℕ)
without_lines own = record own { said = past_lines own.said }

-- trees of which the first characters are no line feeds
abbrev pub unlined : HtmlForest → HtmlForest
unlined (text own more) =
    text (without_lines own) (if is_empty (past_lines own.said) then unlined more else more)
unlined trees = trees

-- Trees

-- what is in an element of a name
abbrev pub inside : List ℕ → HtmlForest → HtmlForest
inside n below =
    if is_void n then no_trees
    else if is_preformatted (group n) then unlined below
    else below

-- what stands in the place of an element that may not stand there
abbrev pub in_place : List ℕ → HtmlForest → HtmlForest
in_place n below = if is_void n then no_trees else below

abbrev pub fitted : Names → HtmlForest → HtmlForest
fitted names no_trees = no_trees
fitted names (text own more) = text (text_there names own) (fitted names more)
fitted names (comment own more) = fitted names more
fitted names (doctype own more) = fitted names more
fitted names (element tag below more) =
    if is_read names tag.name
    then element tag (inside tag.name (fitted (tag.name ∷ names) below)) (fitted names more)
    else joined (in_place tag.name (fitted names below)) (fitted names more)
