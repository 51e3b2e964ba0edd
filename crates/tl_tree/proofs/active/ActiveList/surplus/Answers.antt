use Rattle.tl_tree.proofs.Tallies.{room-few}
use Rattle.tl_tree.proofs.Actives.{room-had, room-made}
use Rattle.tl_tree.specs.Inner.Store.{tag_at}
use Rattle.tl_tree.proofs.active.ActiveList.surplus.Goals as goal

pub returns-then-alike-gt2-clause-some : goal.returns-then-alike-gt2-clause-some
returns-then-alike-gt2-clause-some c =
    let s = c.args.store.now in
    room-made s (tag_at s c.args.own) c.args.self.now.entries.items c.alike-alike.result c.alike-alike.ensures c.if-alike-gt2.true

pub returns-clause-none : goal.returns-clause-none
returns-clause-none c = λ _.
    let s = c.args.store.now in
    room-had s (tag_at s c.args.own) c.args.self.now.entries.items c.alike-alike.result c.alike-alike.ensures c.if-alike-gt2.false

pub returns-then-is_rare-clause-none : goal.returns-then-is_rare-clause-none
returns-then-is_rare-clause-none c = λ _.
    let s = c.args.store.now in
    room-few s (tag_at s c.args.own) c.args.self.now.entries.items (c.is_rare.ensures c.if-is_rare.true)
