use Rattle.tl_tree.proofs.Tallies.{tallied-set}
use Rattle.tl_tree.specs.declared.look.Key.TheVariants.{Look, Name}
use Rattle.std.proofs.Common.{arith}
use Rattle.tl_tree.proofs.ActiveNumbers.{set-distinct, set-within}
use Rattle.tl_tree.proofs.active.ActiveList.set.Goals as goal

pub invariant_of-self : goal.invariant_of-self
invariant_of-self c =
    let a = c.args.self.now in
    let xs = a.entries.items in
    let place = c.requires.place in
    let new = c.requires.new in
    let tag = c.requires.tag in
    record {
      within = set-within a.greatest_number a.greatest_tag c.args.new c.args.new c.args.tag c.args.place xs place (omega arith) (omega arith) tag a.within;
      distinct = set-distinct a.greatest_number a.greatest_tag c.args.new c.args.tag c.args.place xs place new a.within a.distinct;
    }

pub returns-clause-tallied : goal.returns-clause-tallied
returns-clause-tallied c = λ s old.
    let a = c.args.self.now in
    let xs = a.entries.items in
    record {
      looks = tallied-set s Look a.looks.counts.items xs c.args.place c.args.new c.args.tag c.requires.place c.requires.same old.looks;
      names = tallied-set s Name a.names.counts.items xs c.args.place c.args.new c.args.tag c.requires.place c.requires.same old.names;
    }
