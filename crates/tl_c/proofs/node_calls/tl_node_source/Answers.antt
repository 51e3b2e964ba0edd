use Rattle.std.proofs.Common.{◌∙◌, ap, subst}
use Rattle.tl_c.specs.Queries.{source_in}
use Rattle.tl_c.specs.Nodes.{PutsSource}
use Rattle.tl_c.proofs.node_calls.tl_node_source.Goals as goal

pub returns-clause-put : goal.returns-clause-put
returns-clause-put c =
    subst (λ source. PutsSource source c.put_source.new.start c.put_source.new.end c.put_source.result)
    (c.source-source.ensures ∙ ap (source_in c.args.node) c.replace-held.ensures.replaced)
    c.put_source.ensures
