use Rattle.std.proofs.Common.{refl}
use Rattle.tl_tree.proofs.Numbered.{absent-number, found-within, number-changed}
use Rattle.tl_tree.specs.Inner.Frames.{closed}
use Rattle.tl_tree.proofs.path.FramePath.leave.Goals as goal

pub close-requires : goal.close-requires
close-requires c =
    found-within c.args.self.now.frames.items c.in-Some.index c.args.number c.in-Some.ensures.some

pub returns-in-Some-clause-path : goal.returns-in-Some-clause-path
returns-in-Some-clause-path c =
    number-changed c.args.self.now c.close.new.self c.args.number c.in-Some.index closed c.close.ensures.gaps c.in-Some.ensures.some c.close.ensures.frames

pub returns-in-None-clause-path : goal.returns-in-None-clause-path
returns-in-None-clause-path c =
    absent-number c.args.self.now c.args.number closed (c.in-None.ensures.none refl)
