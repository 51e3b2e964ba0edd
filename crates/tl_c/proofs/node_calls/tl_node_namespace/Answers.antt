use Rattle.std.proofs.Common.{◌∙◌, ap}
use Rattle.tl_c.specs.Nodes.{namespace_in, number_of_namespace}
use Rattle.tl_c.proofs.node_calls.tl_node_namespace.Goals as goal

pub returns-clause-namespace : goal.returns-clause-namespace
returns-clause-namespace c =
    c.namespace-namespace.ensures ∙ ap (λ held. number_of_namespace (namespace_in c.args.node held)) c.replace-held.ensures.replaced
