use Rattle.std.proofs.lemmas.Result.{on_ok_weaker}
use Rattle.tl_tree_extract.proofs.Sinks.{three}
use Rattle.tl_tree_extract.proofs.flat_json.put_object.Goals as goal

pub returns-clause-adds : goal.returns-clause-adds
returns-clause-adds g c =
    on_ok_weaker c.mark.result
    (λ e. three _ _ _ _ _ _ _ c.in_ok-put_head.ensures.adds c.in_ok-put_flat.ensures.adds e)
    c.mark.ensures.adds
