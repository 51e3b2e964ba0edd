use Rattle.std.proofs.Common.{subst}
use Rattle.tl_page.specs.Outcome.{Gives}
use Rattle.tl_c.specs.Extracts.{table_in}
use Rattle.tl_c.proofs.extract_calls.tl_table_csv.Goals as goal

pub returns-clause-put : goal.returns-clause-put
returns-clause-put c =
    c.copy_result.ensures.put _
    (subst (λ held. Gives (λ items. items.items) (table_in c.args.node c.args.limit held) c.table_of_node-written.result) c.replace-held.ensures.replaced c.table_of_node-written.ensures)
