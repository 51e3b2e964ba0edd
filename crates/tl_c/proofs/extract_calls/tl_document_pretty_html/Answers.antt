use Rattle.std.proofs.Common.{subst, sym}
use Rattle.tl_page.specs.Outcome.{Gives}
use Rattle.tl_c.specs.Extracts.{pretty_in}
use Rattle.tl_c.specs.Queries.{AreTrees}
use Rattle.tl_c.proofs.extract_calls.tl_document_pretty_html.Goals as goal

pub returns-clause-put : goal.returns-clause-put
returns-clause-put c = λ trees are.
    c.copy_result.ensures.put _
    (subst (λ held. Gives (λ bytes. bytes.items) (pretty_in trees held) c.pretty_markup-written.result) c.replace-held.ensures.replaced
    (c.pretty_markup-written.ensures.gives trees (subst (λ held. AreTrees held trees) (sym c.replace-held.ensures.replaced) are)))
