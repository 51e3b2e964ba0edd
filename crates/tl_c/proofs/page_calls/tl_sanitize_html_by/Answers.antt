use Rattle.std.proofs.Common.{◌≡◌}
use Rattle.tl_html_spec.specs.HtmlTokenizer.{without_mark}
use Rattle.tl_c.specs.SafePages.{IsSafe}
use Rattle.tl_c.proofs.Room.{of_given}
use Rattle.tl_c.proofs.page_calls.tl_sanitize_html_by.Goals as goal

pub returns-clause-put : goal.returns-clause-put
returns-clause-put c = c.copy_result.ensures.put _ c.safe_page_by.ensures.gives

pub returns-clause-safe : goal.returns-clause-safe
returns-clause-safe c = λ p is is_done.
    of_given (λ safe. safe.items) c.safe_page_by.result (IsSafe p (without_mark c.args.page.now)) _ (c.copy_result.ensures.items is_done) (c.safe_page_by.ensures.safe p is)
