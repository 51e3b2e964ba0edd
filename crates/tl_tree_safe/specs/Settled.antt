-- Trees that stay as they are.
use Rattle.std.specs.List.{list_all}
use Rattle.std.specs.Prelude.{Bool, List, [], false, if◌then◌else◌, not, true, ℕ, ◌&&◌, ◌==◌, ◌∷◌}
use Rattle.tl_dom_spec.specs.HtmlForest.{HtmlForest, comment, doctype, element, no_trees, text}
use Rattle.tl_spec.specs.Lex.ByteClass.{is_void}
use Rattle.tl_tree_safe.specs.Fitted.{Names, is_read}
use Rattle.tl_tree_spec.specs.Builder.{is_flow, mode_of}
use Rattle.tl_tree_spec.specs.Groups.{group}
use Rattle.tl_tree_spec.specs.Stays.{is_preformatted, may_be_read}

-- the first character is a line feed
abbrev pub begins_line : HtmlForest → Bool
begins_line (text own more) =
    elim own.said as (λ _. Bool) [ [] ↦ begins_line more | c ∷ cs ↦ c == 10 ]
begins_line _ = false

abbrev pub is_none : HtmlForest → Bool
is_none no_trees = true
is_none _ = false

-- what is in an element of a name: nothing, or trees that stay
abbrev pub is_settled_inside : List ℕ → HtmlForest → Bool → Bool
is_settled_inside n below stays =
    if is_void n then is_none below
    else not (is_preformatted (group n) && begins_line below) && stays

-- each tag may stand where it is, and is not too deep; so do the texts
abbrev pub settled : Names → HtmlForest → Bool
settled names no_trees = true
settled names (text own more) =
    list_all (may_be_read (is_flow (mode_of names))) own.said && settled names more
settled names (comment own more) = false
settled names (doctype own more) = false
settled names (element tag below more) =
    is_read names tag.name
    && (is_settled_inside tag.name below (settled (tag.name ∷ names) below)
    && settled names more)
