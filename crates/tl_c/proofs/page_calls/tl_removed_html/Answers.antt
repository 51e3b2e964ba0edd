use Rattle.std.proofs.Common.{List, ℕ}
use Rattle.tl_html_spec.specs.HtmlTokenizer.{without_mark}
use Rattle.tl_c.proofs.WrittenRemovals.{put_some}
use Rattle.tl_c.specs.LentLists.{kept_with, lent_lists}
use Rattle.tl_c.specs.Removals.{AreRemovalsBy}
use Rattle.tl_c.proofs.page_calls.tl_removed_html.Goals as goal

pub returns-clause-put : goal.returns-clause-put
returns-clause-put c =
    put_some (λ bytes. bytes.items) (AreRemovalsBy (lent_lists c.args.lists.now) (without_mark c.args.page.now)) (kept_with c.args.lists.now c.args.page.now)
    c.removals_with.result _ _ _ _ c.removals_with.ensures.gives c.copy_result.ensures.put c.copy_result.ensures.memory

pub returns-clause-told : goal.returns-clause-told
returns-clause-told c = λ one. c.removals_with.ensures.told (c.copy_result.ensures.refused.0 one)

pub returns-clause-lawful : goal.returns-clause-lawful
returns-clause-lawful c = λ other. c.removals_with.ensures.lawful (λ is. other (c.copy_result.ensures.refused.1 is))
