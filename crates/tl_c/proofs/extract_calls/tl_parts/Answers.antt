use Rattle.std.proofs.Common.{subst}
use Rattle.tl_page.specs.Outcome.{Gives}
use Rattle.tl_c.specs.Whole.{parts_in}
use Rattle.tl_c.proofs.extract_calls.tl_parts.Goals as goal

pub returns-clause-put : goal.returns-clause-put
returns-clause-put c =
    c.copy_result.ensures.put _
    (subst (λ held. Gives (λ items. items.items) (parts_in held) c.all_parts-written.result) c.replace-held.ensures.replaced c.all_parts-written.ensures.gives)
