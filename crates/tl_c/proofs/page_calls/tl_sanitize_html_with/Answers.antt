use Rattle.std.proofs.Common.{◌≡◌}
use Rattle.tl_html_spec.specs.HtmlTokenizer.{without_mark}
use Rattle.tl_c.specs.SafePages.{IsSafe}
use Rattle.tl_c.proofs.Room.{of_given}
use Rattle.tl_c.proofs.page_calls.tl_sanitize_html_with.Goals as goal

pub returns-clause-put : goal.returns-clause-put
returns-clause-put c = c.copy_result.ensures.put _ c.safe_page_with.ensures.gives

pub returns-clause-safe : goal.returns-clause-safe
returns-clause-safe c = λ p is is_done.
    of_given (λ safe. safe.items) c.safe_page_with.result (IsSafe p (without_mark c.args.page.now)) _ (c.copy_result.ensures.items is_done) (c.safe_page_with.ensures.safe p is)

pub returns-clause-told : goal.returns-clause-told
returns-clause-told c = λ one. c.safe_page_with.ensures.told (c.copy_result.ensures.refused.0 one)

pub returns-clause-lawful : goal.returns-clause-lawful
returns-clause-lawful c = λ other. c.safe_page_with.ensures.lawful (λ is. other (c.copy_result.ensures.refused.1 is))
