use Rattle.std.proofs.Common.{arith, subst}
use Rattle.std.specs.List.{All}
use Rattle.std.proofs.lemmas.List.{take_all}
use Rattle.std.proofs.lemmas.List.Elements.{All-more}
use Rattle.tl_patch_select.specs.Inner.Sources.{IsWholeOf}
use Rattle.tl_patch_select.proofs.in_order.are_whole.Goals as goal

pub loop-at-preserved : goal.loop-at-preserved
loop-at-preserved c = λ tail.
    All-more (IsWholeOf c.args.elements.now c.args.tree.now tail) c.args.numbers.now c.loop-at.at _ c.loop-at-test.true (c.loop-at.invariant tail) (c.is_whole-is_it.ensures c.if-not-is_it.false tail)

pub returns : goal.returns
returns c = λ _ tail.
    subst (All (IsWholeOf c.args.elements.now c.args.tree.now tail)) (take_all c.loop-at.at c.args.numbers.now c.loop-at-test.false) (c.loop-at.invariant tail)
