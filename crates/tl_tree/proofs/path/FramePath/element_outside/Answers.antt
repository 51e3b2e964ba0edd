use Rattle.std.proofs.Common.{Some, ap, arith, sym, ◌-◌, ◌+◌, ◌≡◌, ◌∙◌}
use Rattle.tl_dom_spec.specs.Path as dom
use Rattle.tl_tree.proofs.Furthest.{frame-there, innermost-closed, innermost-none, innermost-open}
use Rattle.tl_tree.specs.Inner.Adopted.{innermost_number}
use Rattle.tl_tree.proofs.path.FramePath.element_outside.Goals as goal

pub returns-then-frame : goal.returns-then-frame
returns-then-frame c =
    let p = c.args.self.now in
    let n = c.loop-left.left - 1 in
    let f = c.index-frame.result.now in
    let bound = c.loop-left.invariant.bound in
    let some = c.loop-left-test.true in
    let next : c.loop-left.left ≡ n + 1 = omega arith in
    let there = frame-there p n f c.index-frame.ensures (omega arith) in
    sym (c.loop-left.invariant.rest
    ∙ (ap (innermost_number p) next
    ∙ (innermost-open p n (omega arith) (ap (λ (own : dom.Frame). own.is_open) there ∙ c.if-frame.true)
    ∙ ap (λ (own : dom.Frame). Some own.number) there)))

pub loop-left-preserved : goal.loop-left-preserved
loop-left-preserved c =
    let p = c.args.self.now in
    let n = c.loop-left.left - 1 in
    let f = c.index-frame.result.now in
    let bound = c.loop-left.invariant.bound in
    let some = c.loop-left-test.true in
    let next : c.loop-left.left ≡ n + 1 = omega arith in
    let there = frame-there p n f c.index-frame.ensures (omega arith) in
    record {
      bound = omega arith;
      rest =
          c.loop-left.invariant.rest
          ∙ (ap (innermost_number p) next
          ∙ innermost-closed p n (omega arith) (ap (λ (own : dom.Frame). own.is_open) there ∙ c.if-frame.false));
    }

pub returns : goal.returns
returns c =
    let p = c.args.self.now in
    let end = c.loop-left-test.false in
    let none : c.loop-left.left ≡ 0 = omega arith in
    sym (c.loop-left.invariant.rest ∙ (ap (innermost_number p) none ∙ innermost-none p))
