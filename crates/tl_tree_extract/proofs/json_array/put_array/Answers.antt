use Rattle.std.proofs.lemmas.Result.{on_ok_weaker}
use Rattle.tl_tree_extract.proofs.Sinks.{three}
use Rattle.tl_tree_extract.proofs.json_array.put_array.Goals as goal

pub returns-clause-adds : goal.returns-clause-adds
returns-clause-adds g c =
    on_ok_weaker c.mark-2.result
    (λ e. three _ _ _ _ _ _ _ c.in_ok-mark.ensures.adds c.in_ok-put_each.ensures.adds e)
    c.mark-2.ensures.adds
