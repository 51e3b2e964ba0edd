use Rattle.std.proofs.Common.{subst}
use Rattle.tl_page.specs.Outcome.{Gives}
use Rattle.tl_c.specs.Nodes.{pairs_in}
use Rattle.tl_c.proofs.node_calls.tl_node_attributes.Goals as goal

pub returns-clause-put : goal.returns-clause-put
returns-clause-put c =
    c.copy_result.ensures.put _
    (subst (λ held. Gives (λ bytes. bytes.items) (pairs_in c.args.node held) c.pairs-written.result) c.replace-held.ensures.replaced c.pairs-written.ensures.gives)
