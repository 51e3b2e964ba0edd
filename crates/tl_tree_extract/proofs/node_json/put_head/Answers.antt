use Rattle.std.proofs.lemmas.Result.{on_ok_weaker}
use Rattle.tl_tree_extract.proofs.Sinks.{four}
use Rattle.tl_tree_extract.proofs.node_json.put_head.Goals as goal

pub returns-clause-adds : goal.returns-clause-adds
returns-clause-adds g c =
    on_ok_weaker c.put_place.result
    (λ e. four _ _ _ _ _ _ _ _ _ c.in_ok-mark.ensures.adds c.in_ok-put_file.ensures.adds c.in_ok-put_named.ensures.adds e)
    c.put_place.ensures.adds
