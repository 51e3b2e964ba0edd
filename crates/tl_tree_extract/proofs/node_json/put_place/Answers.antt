use Rattle.std.proofs.lemmas.Result.{on_ok_weaker}
use Rattle.tl_tree_extract.proofs.Sinks.{two}
use Rattle.tl_tree_extract.proofs.node_json.put_place.Goals as goal

pub returns-clause-adds : goal.returns-clause-adds
returns-clause-adds g c =
    on_ok_weaker c.put_source.result
    (λ e. two _ _ _ _ _ c.in_ok-put_number.ensures.adds e)
    c.put_source.ensures.adds
