use Rattle.std.proofs.Common.{arith}
use Rattle.tl_tree.proofs.Skipped.{none-end, none-nothing}
use Rattle.tl_tree.specs.Inner.Frames.{test_of}
use Rattle.tl_tree.proofs.path.FramePath.limit.Goals as goal

pub returns-in-Nothing-clause-skips : goal.returns-in-Nothing-clause-skips
returns-in-Nothing-clause-skips c = rw c.in-Nothing.is (none-nothing c.args.self.now 0)

pub returns-in-ImpliedBut-clause-skips : goal.returns-in-ImpliedBut-clause-skips
returns-in-ImpliedBut-clause-skips c =
    let own = c.args.self.now.frames.ok.0 in
    none-end (test_of c.args.test) c.args.self.now c.len.result (omega arith)

pub returns-in-HtmlPlace-clause-skips : goal.returns-in-HtmlPlace-clause-skips
returns-in-HtmlPlace-clause-skips c =
    let own = c.args.self.now.frames.ok.0 in
    none-end (test_of c.args.test) c.args.self.now c.len-in-HtmlPlace.result (omega arith)
