use Rattle.std.proofs.Common.{◌-◌, ap, arith, sym, ◌||◌, ◌∙◌}
use Rattle.tl_tree.proofs.Popped.{settled-no, settled-only, settled-yes}
use Rattle.tl_tree.specs.Inner.Frames.{frame_of, test_or_other}
use Rattle.tl_tree.proofs.path.FramePath.is_settled.Goals as goal

pub returns-then-last-eq0-clause-no : goal.returns-then-last-eq0-clause-no
returns-then-last-eq0-clause-no c = λ _.
    let p = c.args.self.now in
    let own = p.frames.ok.0 in
    let some = p.some in
    settled-only (test_or_other c.args.is_other c.args.test) p (omega arith)

pub returns-then-not-frame-clause-yes : goal.returns-then-not-frame-clause-yes
returns-then-not-frame-clause-yes c = λ _.
    let p = c.args.self.now in
    let own = p.frames.ok.0 in
    let test = test_or_other c.args.is_other c.args.test in
    let f = c.index-frame.result.now in
    settled-yes test p (c.len-last.result - 1) f (omega arith) (omega arith) c.index-frame.ensures
    (ap (λ b. b || test (frame_of p.store f)) c.if-not-frame.true)

pub returns-clause-yes : goal.returns-clause-yes
returns-clause-yes c = λ passes.
    let p = c.args.self.now in
    let own = p.frames.ok.0 in
    let test = test_or_other c.args.is_other c.args.test in
    let f = c.index-frame.result.now in
    settled-yes test p (c.len-last.result - 1) f (omega arith) (omega arith) c.index-frame.ensures
    (ap (λ b. b || test (frame_of p.store f)) c.if-not-frame.false ∙ (sym c.passes_or_not.ensures ∙ passes))

pub returns-clause-no : goal.returns-clause-no
returns-clause-no c = λ fails.
    let p = c.args.self.now in
    let own = p.frames.ok.0 in
    let test = test_or_other c.args.is_other c.args.test in
    let f = c.index-frame.result.now in
    settled-no test p (c.len-last.result - 1) f (omega arith) c.index-frame.ensures
    (ap (λ b. b || test (frame_of p.store f)) c.if-not-frame.false ∙ (sym c.passes_or_not.ensures ∙ fails))
