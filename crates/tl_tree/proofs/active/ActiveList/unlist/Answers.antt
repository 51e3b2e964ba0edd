use Rattle.std.proofs.Common.{ap, ◌∙◌}
use Rattle.tl_tree.proofs.ActiveNumbers.{none-before}
use Rattle.tl_tree.proofs.Actives.{none-of, unlist-none, unlist-one}
use Rattle.tl_tree.specs.Inner.Active.{seen}
use Rattle.tl_tree.proofs.active.ActiveList.unlist.Goals as goal

pub returns-in_default-clause-active : goal.returns-in_default-clause-active
returns-in_default-clause-active c =
    λ s. unlist-none s c.args.number c.args.self.now.entries.items (c.find.ensures.none (none-of c.find.result c.in_default.not-Some))

pub returns-clause-active : goal.returns-clause-active
returns-clause-active c =
    let a = c.args.self.now in
    let xs = a.entries.items in
    let place = c.in-Some.place in
    let at = c.in-Some.ensures.some in
    λ s.
    ap (seen s) c.remove.ensures.entries
    ∙ unlist-one s c.args.number place xs at (none-before c.args.number place xs a.distinct at)
