use Rattle.std.proofs.Common.{sym, ◌∙◌}
use Rattle.tl_tree.proofs.Sought.{is-opened, is-shut, sought-bound, sought-closed, sought-found, sought-on}
use Rattle.tl_tree.specs.Inner.Frames.{test_of}
use Rattle.tl_tree.proofs.path.FramePath.answer_at.Goals as goal

pub returns-then-not-frame-clause-none : goal.returns-then-not-frame-clause-none
returns-then-not-frame-clause-none c = λ _.
    sought-closed (test_of c.args.test) (test_of c.args.bounds) c.args.self.now c.args.index c.index-frame.result.now c.index-frame.ensures c.requires (is-shut c.index-frame.result.now.is_open c.if-not-frame.true)

pub returns-then-passes-clause-some : goal.returns-then-passes-clause-some
returns-then-passes-clause-some c =
    sought-found (test_of c.args.test) (test_of c.args.bounds) c.args.self.now c.args.index c.index-frame.result.now c.index-frame.ensures c.requires (is-opened c.index-frame.result.now.is_open c.if-not-frame.false) (sym c.passes.ensures ∙ c.if-passes.true)

pub returns-then-passes-2-clause-some : goal.returns-then-passes-2-clause-some
returns-then-passes-2-clause-some c =
    sought-bound (test_of c.args.test) (test_of c.args.bounds) c.args.self.now c.args.index c.index-frame.result.now c.index-frame.ensures c.requires (is-opened c.index-frame.result.now.is_open c.if-not-frame.false) (sym c.passes.ensures ∙ c.if-passes.false) (sym c.passes-2.ensures ∙ c.if-passes-2.true)

pub returns-clause-none : goal.returns-clause-none
returns-clause-none c = λ _.
    sought-on (test_of c.args.test) (test_of c.args.bounds) c.args.self.now c.args.index c.index-frame.result.now c.index-frame.ensures c.requires (is-opened c.index-frame.result.now.is_open c.if-not-frame.false) (sym c.passes.ensures ∙ c.if-passes.false) (sym c.passes-2.ensures ∙ c.if-passes-2.false)
