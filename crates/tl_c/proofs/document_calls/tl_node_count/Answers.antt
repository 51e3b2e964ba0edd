use Rattle.std.proofs.Common.{◌∙◌, ap}
use Rattle.std.specs.Prelude.{length}
use Rattle.tl_c.specs.Queries.{rows_held}
use Rattle.tl_c.proofs.document_calls.tl_node_count.Goals as goal

pub returns-clause-count : goal.returns-clause-count
returns-clause-count c =
    c.count-count.ensures ∙ ap (λ held. length (rows_held held)) c.replace-held.ensures.replaced
