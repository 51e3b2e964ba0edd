use Rattle.std.proofs.Common.{subst, sym}
use Rattle.std.specs.Prelude.{None, false}
use Rattle.tl_html_print.specs.Serialized.{serialized}
use Rattle.tl_page.specs.Outcome.{Gives, success}
use Rattle.tl_c.specs.Queries.{AreTrees, outcome_of_some}
use Rattle.tl_c.proofs.document_calls.tl_document_html.Goals as goal

pub returns-clause-put : goal.returns-clause-put
returns-clause-put c = λ trees are.
    c.copy_result.ensures.put _
    (subst (λ held. Gives (λ bytes. bytes.items) (outcome_of_some (λ _. success (serialized false None trees)) held) c.document_markup-written.result) c.replace-held.ensures.replaced
    (c.document_markup-written.ensures.gives trees (subst (λ held. AreTrees held trees) (sym c.replace-held.ensures.replaced) are)))
