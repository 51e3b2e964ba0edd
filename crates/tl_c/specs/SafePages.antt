-- Pages made safe: each is read as what a `div` holds.
use Rattle.std.specs.Prelude.{Bool, List, if◌then◌else◌, true, ℕ, ◌&&◌, ◌++◌, ◌≡◌}
use Rattle.tl_dom_spec.specs.HtmlTree.{Context}
use Rattle.tl_dom_spec.specs.Partial.{is_flow_context, without_numbers}
use Rattle.tl_html_print.specs.Again.{built_in}
use Rattle.tl_html_print.specs.ReadAgain.{tokens_of_trees}
use Rattle.tl_html_spec.specs.HtmlTokenizer.{data_state, without_mark}
use Rattle.tl_html_spec.specs.Reader.{at, tokens_of}
use Rattle.tl_page.specs.Outcome.{Outcome, not_understood, success}
use Rattle.tl_page.specs.Page.{is_page}
use Rattle.tl_page.specs.declared.failure.Failure.{Failure}
use Rattle.tl_page.specs.declared.failure.Failure.TheVariants.{NotUnderstood, OutOfMemory}
use Rattle.tl_tree.specs.declared.error.ReadError.{ReadError}
use Rattle.tl_tree.specs.declared.error.ReadError.TheVariants as unread
use Rattle.tl_tree_safe.specs.InDiv.{is_in_proportion_in_div, kept_in_div, safe_print}
use Rattle.tl_tree_safe.specs.Joined.{texts_joined}
use Rattle.tl_tree_safe.specs.Listed.{are_listed}
use Rattle.tl_tree_safe.specs.Lists.{ListedWords}

-- what a policy of these lists keeps of a page. What is no text, or too long, or has a tree that is
-- out of proportion to it, is not understood
abbrev pub kept_page : ListedWords → List ℕ → Outcome (List ℕ)
kept_page lists page =
    if is_page page && is_in_proportion_in_div (without_mark page)
    then success (safe_print lists (without_mark page))
    else not_understood

-- what a browser makes of bytes that are what lists keep of a text
pub record IsSafe (lists : ListedWords) (text bytes : List ℕ) : Type 0 where
  -- also where other markup follows, the standard's tokenizer reads its tags and texts alone
  pub read : (rest : List ℕ) → tokens_of (at data_state) (bytes ++ rest)
      ≡ tokens_of_trees (kept_in_div lists text) ++ tokens_of (at data_state) rest
  -- the standard's tree construction builds exactly its trees in each context element of flow
  -- content, as `div`, `body`, `li` and `td`, in quirks mode and not
  pub built : (context : Context) (counts_search : Bool) → is_flow_context context ≡ true
      → without_numbers (built_in context counts_search bytes)
      ≡ without_numbers (texts_joined (kept_in_div lists text))
  -- each tag that is read has a listed name, and listed attributes
  pub listed : are_listed lists (tokens_of (at data_state) bytes) ≡ true

-- why a text is not read: of a tree that is too large there is no memory
abbrev pub failure_of : ReadError → Failure
failure_of unread.OutOfMemory = OutOfMemory
failure_of unread.TooLarge = OutOfMemory
failure_of (unread.OutOfProportion at) = NotUnderstood
