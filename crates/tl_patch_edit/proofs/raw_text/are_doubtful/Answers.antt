use Rattle.std.proofs.Common.{subst}
use Rattle.std.specs.List.{All}
use Rattle.std.proofs.lemmas.List.{take_all}
use Rattle.std.proofs.lemmas.List.Elements.{All-more}
use Rattle.tl_patch_edit.specs.Inner.Limits.{IsDoubtless}
use Rattle.tl_patch_edit.proofs.raw_text.are_doubtful.Goals as goal

pub loop-at-preserved : goal.loop-at-preserved
loop-at-preserved c =
    All-more IsDoubtless c.args.asks.now c.loop-at.at _ c.loop-at-test.true c.loop-at.invariant
    (record { text = c.is_doubtful-is_doubtful.ensures.text c.if-is_doubtful.false; name = c.is_doubtful-is_doubtful.ensures.name c.if-is_doubtful.false })

pub returns : goal.returns
returns c = λ _. subst (All IsDoubtless) (take_all c.loop-at.at c.args.asks.now c.loop-at-test.false) c.loop-at.invariant
