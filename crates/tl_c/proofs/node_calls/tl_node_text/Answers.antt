use Rattle.std.proofs.Common.{subst}
use Rattle.tl_page.specs.Outcome.{Gives}
use Rattle.tl_c.specs.Nodes.{text_in}
use Rattle.tl_c.proofs.node_calls.tl_node_text.Goals as goal

pub returns-clause-put : goal.returns-clause-put
returns-clause-put c =
    c.copy_result.ensures.put _
    (subst (λ held. Gives (λ bytes. bytes.items) (text_in c.args.node held) c.text_of_node-written.result) c.replace-held.ensures.replaced c.text_of_node-written.ensures.gives)
