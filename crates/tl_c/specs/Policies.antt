-- The policies that have a number in the header.
use Rattle.std.specs.Prelude.{◌==◌, ℕ, List, Option, None, Some, if◌then◌else◌}
use Rattle.tl_page.specs.Outcome.{Outcome, not_understood}
use Rattle.tl_c.specs.SafePages.{kept_page}
use Rattle.tl_tree_safe.specs.Lists.{ListedWords}
use Rattle.tl_tree_safe.specs.OwnLists.{blog_lists, comment_lists, document_lists}

-- the lists of the policy of a number, if it has one
abbrev pub lists_of_number : ℕ → Option ListedWords
lists_of_number number =
    if number == 0 then Some blog_lists
    else if number == 1 then Some comment_lists
    else if number == 2 then Some document_lists
    else None

-- what a policy of these lists keeps of a page; where there are none that is not understood
abbrev pub kept_by : Option ListedWords → List ℕ → Outcome (List ℕ)
kept_by None page = not_understood
kept_by (Some lists) page = kept_page lists page
