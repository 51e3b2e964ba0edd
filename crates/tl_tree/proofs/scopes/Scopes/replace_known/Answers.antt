use Rattle.std.proofs.Common.{arith, length, suc, ◌≤◌}
use Rattle.tl_tree.proofs.StoodIn.{replaced-short}
use Rattle.tl_tree.specs.Inner.Entered.{entered}
use Rattle.tl_tree.proofs.scopes.Scopes.replace_known.Goals as goal

pub returns-else-place-len : goal.returns-else-place-len
returns-else-place-len c =
    let known = entered c.args.self.now in
    let len = c.len.ensures in
    let short : length known ≤ suc c.args.place = omega arith in
    replaced-short c.args.place c.args.number known (entered c.cut.new.self) short c.cut.ensures
