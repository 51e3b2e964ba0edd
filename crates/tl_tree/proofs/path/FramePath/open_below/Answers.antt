use Rattle.std.proofs.Common.{◌-◌, ◌≡◌, ◌∙◌, ap, arith, suc}
use Rattle.tl_tree.proofs.StackWalk.{stacked-closed, stacked-none, stacked-open}
use Rattle.tl_tree.specs.Inner.Found.{stack_to}
use Rattle.tl_tree.proofs.path.FramePath.open_below.Goals as goal

pub returns-then-index-clause-some : goal.returns-then-index-clause-some
returns-then-index-clause-some c =
    let p = c.args.self.now in
    let n = c.loop-index.index - 1 in
    let next : c.loop-index.index ≡ suc n = omega arith in
    c.loop-index.invariant.same ∙ ap (stack_to p) next
    ∙ stacked-open p n c.index.result.now c.index.ensures (omega arith) c.if-index.true

pub loop-index-preserved : goal.loop-index-preserved
loop-index-preserved c =
    let p = c.args.self.now in
    let n = c.loop-index.index - 1 in
    let next : c.loop-index.index ≡ suc n = omega arith in
    record {
      bound = omega arith;
      same =
          c.loop-index.invariant.same ∙ ap (stack_to p) next
          ∙ stacked-closed p n c.index.result.now c.index.ensures (omega arith) c.if-index.false;
    }

pub returns-clause-none : goal.returns-clause-none
returns-clause-none c none =
    let p = c.args.self.now in
    let done : c.loop-index.index ≡ 0 = omega arith in
    c.loop-index.invariant.same ∙ ap (stack_to p) done ∙ stacked-none p
