use Rattle.std.proofs.Common.{◌∙◌, ap}
use Rattle.tl_c.specs.Queries.{number_or_none, rows_held}
use Rattle.tl_c.specs.Nodes.{position_at}
use Rattle.tl_c.proofs.node_calls.stands_at.Goals as goal

pub returns-clause-number : goal.returns-clause-number
returns-clause-number c =
    c.number-number.ensures ∙ ap (λ held. number_or_none (position_at c.args.position (rows_held held) c.args.node)) c.replace-held.ensures.replaced
