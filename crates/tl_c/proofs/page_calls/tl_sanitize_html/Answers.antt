use Rattle.std.proofs.Common.{subst, ◌≡◌}
use Rattle.std.specs.Prelude.{IfOk}
use Rattle.tl_html_spec.specs.HtmlTokenizer.{without_mark}
use Rattle.tl_page.specs.Outcome.{Gives}
use Rattle.tl_tree_safe.specs.Lists.{ListedWords}
use Rattle.tl_tree_safe.specs.OwnLists.{blog_lists}
use Rattle.tl_c.specs.SafePages.{IsSafe, kept_page}
use Rattle.tl_c.proofs.Room.{of_given}
use Rattle.tl_c.proofs.page_calls.tl_sanitize_html.Goals as goal

pub returns-clause-put : goal.returns-clause-put
returns-clause-put c = c.copy_result.ensures.put _
    (subst (λ (lists : ListedWords). Gives (λ safe. safe.items) (kept_page lists c.args.page.now) c.safe_page.result) c.blog.ensures c.safe_page.ensures.gives)

pub returns-clause-safe : goal.returns-clause-safe
returns-clause-safe c = λ is_done.
    of_given (λ safe. safe.items) c.safe_page.result (IsSafe blog_lists (without_mark c.args.page.now)) _ (c.copy_result.ensures.items is_done)
    (subst (λ (lists : ListedWords). IfOk c.safe_page.result (λ safe. IsSafe lists (without_mark c.args.page.now) safe.items)) c.blog.ensures c.safe_page.ensures.safe)
