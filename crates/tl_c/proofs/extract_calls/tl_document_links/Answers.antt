use Rattle.std.proofs.Common.{subst}
use Rattle.tl_page.specs.Outcome.{Gives}
use Rattle.tl_c.specs.Extracts.{links_in}
use Rattle.tl_c.proofs.extract_calls.tl_document_links.Goals as goal

pub returns-clause-put : goal.returns-clause-put
returns-clause-put c =
    c.copy_result.ensures.put _
    (subst (λ held. Gives (λ items. items.items) (links_in held) c.links_held-written.result) c.replace-held.ensures.replaced c.links_held-written.ensures.gives)
