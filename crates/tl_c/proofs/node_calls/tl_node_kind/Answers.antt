use Rattle.std.proofs.Common.{◌∙◌, ap}
use Rattle.tl_c.specs.Nodes.{kind_in, number_of_kind}
use Rattle.tl_c.proofs.node_calls.tl_node_kind.Goals as goal

pub returns-clause-kind : goal.returns-clause-kind
returns-clause-kind c =
    c.kind-kind.ensures ∙ ap (λ held. number_of_kind (kind_in c.args.node held)) c.replace-held.ensures.replaced
