use Rattle.std.proofs.Common.{◌∙◌}
use Rattle.std.proofs.lemmas.Result.{IfOk-weaker}
use Rattle.tl_inline.proofs.Lists.{same_from_clones}
use Rattle.tl_inline.proofs.inline.vec.InlineVec.to_vec.Goals as goal

pub returns : goal.returns
returns g c =
    let xs = c.as_slice.result.now in
    let same = rw (← c.as_slice.ensures) at c.requires in
    IfOk-weaker c.to_vec.result _ _
    (λ v h. same_from_clones g.T.Clone.is_clone xs v.items same h ∙ c.as_slice.ensures) c.to_vec.ensures.ok
