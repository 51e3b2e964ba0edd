use Rattle.std.proofs.Common.{◌∙◌}
use Rattle.tl_tree.proofs.Actives.{listed-if}
use Rattle.tl_tree.proofs.active.ActiveList.is_listed.Goals as goal

pub returns : goal.returns
returns c = λ s.
    c.is_some.ensures
    ∙ listed-if s c.args.number c.args.self.now.entries.items c.find.result c.find.ensures.some c.find.ensures.none
