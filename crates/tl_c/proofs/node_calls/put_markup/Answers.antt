use Rattle.std.proofs.Common.{subst, sym}
use Rattle.tl_page.specs.Outcome.{Gives}
use Rattle.tl_c.specs.Queries.{AreTrees}
use Rattle.tl_c.specs.Nodes.{markup_in}
use Rattle.tl_c.proofs.node_calls.put_markup.Goals as goal

pub returns-clause-put : goal.returns-clause-put
returns-clause-put c = λ trees are.
    c.copy_result.ensures.put _
    (subst (λ held. Gives (λ bytes. bytes.items) (markup_in c.args.markup trees c.args.node held) c.markup_of-written.result) c.replace-held.ensures.replaced
    (c.markup_of-written.ensures.gives trees (subst (λ held. AreTrees held trees) (sym c.replace-held.ensures.replaced) are)))
