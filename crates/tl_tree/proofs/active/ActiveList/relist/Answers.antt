use Rattle.tl_tree.proofs.Tallies.{tagged-at}
use Rattle.std.proofs.Common.{ap, ◌∙◌}
use Rattle.tl_tree.proofs.ActiveNumbers.{none-before, tag-within}
use Rattle.tl_tree.proofs.Actives.{entry-at, none-of, relist-none, relist-one}
use Rattle.tl_tree.specs.Inner.Active.{seen}
use Rattle.tl_tree.specs.declared.active_entry.Entry.TheVariants.{Formatting}
use Rattle.tl_tree.proofs.active.ActiveList.relist.Goals as goal

pub returns-in_default-clause-active : goal.returns-in_default-clause-active
returns-in_default-clause-active c =
    λ s. relist-none s c.args.number c.args.new c.args.self.now.entries.items (c.find.ensures.none (none-of c.find.result c.in_default.not-Some))

pub set-requires-clause-tag : goal.set-requires-clause-tag
set-requires-clause-tag c =
    let a = c.args.self.now in
    tag-within a.greatest_number a.greatest_tag c.in-Formatting.number c.in-Formatting.tag a.entries.items c.in-Some.place c.index-entry.result.now c.in-Some.ensures.some.within c.index-entry.ensures c.in-Formatting.is a.within

pub returns-clause-active : goal.returns-clause-active
returns-clause-active c =
    let a = c.args.self.now in
    let xs = a.entries.items in
    let place = c.in-Some.place in
    let at = c.in-Some.ensures.some in
    λ s.
    ap (seen s) c.set.ensures.entries
    ∙ relist-one s c.args.number c.args.new place c.in-Formatting.number c.in-Formatting.tag xs at (none-before c.args.number place xs a.distinct at)
    (entry-at xs place c.index-entry.result.now (Formatting c.in-Formatting.number c.in-Formatting.tag) at.within c.index-entry.ensures c.in-Formatting.is)

pub set-requires-clause-same : goal.set-requires-clause-same
set-requires-clause-same c =
    tagged-at c.args.self.now.entries.items c.in-Some.place c.in-Formatting.number c.in-Formatting.tag c.index-entry.result.now c.in-Some.ensures.some.within c.index-entry.ensures c.in-Formatting.is
