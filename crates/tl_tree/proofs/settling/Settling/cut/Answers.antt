use Rattle.std.proofs.Common.{length}
use Rattle.std.proofs.lemmas.Bool.{leb-true}
use Rattle.tl_tree.proofs.Cuts.{cut, taken-long}
use Rattle.tl_tree.proofs.settling.Settling.cut.Goals as goal

pub returns : goal.returns
returns c =
    let old = c.args.self.now in
    let count = c.needed-needed.result in
    let e = c.needed-needed.ensures in
    let within = leb-true count (length old.store.cells.items) e.within in
    cut old c.keep_cells.new.self c.args.row count c.requires.sound c.keep_cells.ensures.alike c.keep_cells.ensures.begins
    (taken-long count old.store.cells.items c.keep_cells.new.self.cells.items within c.keep_cells.ensures.cells) e.row e.all
