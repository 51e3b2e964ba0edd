use Rattle.std.proofs.Common.{arith}
use Rattle.std.proofs.lemmas.Bool.{ltb-false, ltb-true}
use Rattle.tl_tree.proofs.Placed.{here-later}
use Rattle.tl_tree.proofs.path.FramePath.may_be_placed.Goals as goal

pub returns-clause-yes : goal.returns-clause-yes
returns-clause-yes c = λ h.
    let own = c.args.self.now.frames.ok.0 in
    let less = ltb-true c.args.index c.min.result h in
    let is = c.min.ensures in
    omega arith

pub returns-clause-no : goal.returns-clause-no
returns-clause-no c = λ h.
    let p = c.args.self.now in
    let own = p.frames.ok.0 in
    let most = ltb-false c.args.index c.min.result h in
    let is = c.min.ensures in
    here-later p.frames.items p.placed c.args.index (omega arith) p.near
