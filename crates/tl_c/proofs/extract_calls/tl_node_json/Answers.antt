use Rattle.std.proofs.Common.{subst}
use Rattle.tl_page.specs.Outcome.{Gives}
use Rattle.tl_c.specs.Extracts.{json_in}
use Rattle.tl_c.proofs.extract_calls.tl_node_json.Goals as goal

pub returns-clause-put : goal.returns-clause-put
returns-clause-put c =
    c.copy_result.ensures.put _
    (subst (λ held. Gives (λ items. items.items) (json_in c.args.node held) c.json_of_node-written.result) c.replace-held.ensures.replaced c.json_of_node-written.ensures.gives)
