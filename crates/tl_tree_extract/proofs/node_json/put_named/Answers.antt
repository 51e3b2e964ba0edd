use Rattle.std.proofs.lemmas.Result.{on_ok_weaker}
use Rattle.tl_tree_extract.proofs.Sinks.{three}
use Rattle.tl_tree_extract.proofs.node_json.put_named.Goals as goal

pub returns-clause-adds : goal.returns-clause-adds
returns-clause-adds g c =
    on_ok_weaker c.put_namespace.result
    (λ e. three _ _ _ _ _ _ _ c.in_ok-put_attributes.ensures.adds c.in_ok-put_name.ensures.adds e)
    c.put_namespace.ensures.adds
