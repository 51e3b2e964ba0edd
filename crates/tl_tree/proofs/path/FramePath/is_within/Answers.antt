use Rattle.std.proofs.Common.{ap, arith, length, sym, ◌+◌, ◌-◌, ◌≡◌, ◌∙◌}
use Rattle.tl_tree.proofs.Begun.{sought-begun, sought-nowhere}
use Rattle.tl_tree.proofs.Skipped.{none-further}
use Rattle.tl_tree.proofs.Sought.{sought-all, sought-none}
use Rattle.tl_tree.specs.Inner.Frames.{sought, test_of}
use Rattle.tl_tree.proofs.path.FramePath.is_within.Goals as goal

pub returns-in-Some : goal.returns-in-Some
returns-in-Some c =
    let p = c.args.self.now in
    let some = p.some in
    let own = p.frames.ok.0 in
    let end : c.len.result - 1 + 1 ≡ length p.frames.items = omega arith in
    sym (sought-all (test_of c.args.test) (test_of c.args.bounds) p (c.len.result - 1 + 1) end ∙ c.in-Some.ensures.some)

pub returns-then-first-eq0 : goal.returns-then-first-eq0
returns-then-first-eq0 c =
    let none : c.limit-first.result ≡ 0 = omega arith in
    sym (sought-nowhere (test_of c.args.test) (test_of c.args.bounds) c.args.self.now c.limit-first.result none c.limit-first.ensures.skips)

pub loop-index-init : goal.loop-index-init
loop-index-init c =
    let p = c.args.self.now in
    let test = test_of c.args.test in
    let bounds = test_of c.args.bounds in
    let n = c.max-index.result in
    let greater = c.max-index.ensures in
    let first = c.limit-first.ensures.within in
    let second = c.limit.ensures.within in
    record {
      bound = omega arith;
      rest =
          sought-begun test bounds p n (omega arith)
          (none-further test p c.limit-first.result n (omega arith) c.limit-first.ensures.skips)
          (none-further bounds p c.limit.result n (omega arith) c.limit.ensures.skips);
    }

pub returns : goal.returns
returns c =
    let p = c.args.self.now in
    let test = test_of c.args.test in
    let bounds = test_of c.args.bounds in
    let done : c.loop-index.index ≡ 0 = omega arith in
    sym (c.loop-index.invariant.rest ∙ (ap (sought test bounds p) done ∙ sought-none test bounds p))
