use Rattle.std.proofs.lemmas.Result.{on_ok_weaker}
use Rattle.tl_tree_extract.proofs.Sinks.{two}
use Rattle.tl_tree_extract.proofs.json_member.put_text.Goals as goal

pub returns-clause-adds : goal.returns-clause-adds
returns-clause-adds g c =
    on_ok_weaker c.string.result
    (λ e. two _ _ _ _ _ c.in_ok-known.ensures.adds e)
    c.string.ensures.adds
