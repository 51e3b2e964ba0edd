use Rattle.std.proofs.Common.{arith}
use Rattle.tl_tree.proofs.Skipped.{number-none, number-within, numbered-behind}
use Rattle.tl_tree.proofs.path.FramePath.number_limit.Goals as goal

pub overflow_add-result : goal.overflow_add-result
overflow_add-result c =
    let p = c.args.self.now in
    let within = number-within c.args.number c.in-Some.place p c.in-Some.ensures.some in
    let own = p.frames.ok.0 in
    let small = p.frames.small in
    omega arith

pub returns-in-Some-clause-within : goal.returns-in-Some-clause-within
returns-in-Some-clause-within c =
    number-within c.args.number c.in-Some.place c.args.self.now c.in-Some.ensures.some

pub returns-in-Some-clause-skips : goal.returns-in-Some-clause-skips
returns-in-Some-clause-skips c =
    numbered-behind c.args.number c.in-Some.place c.args.self.now c.in-Some.ensures.some

pub returns-in-None-clause-skips : goal.returns-in-None-clause-skips
returns-in-None-clause-skips c =
    number-none c.args.number c.args.self.now (c.find.ensures.none c.in-None.is)
