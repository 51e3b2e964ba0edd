use Rattle.std.proofs.Common.{arith, ap}
use Rattle.std.proofs.lemmas.Bool.{ltb-true}
use Rattle.tl_tree.proofs.Tallies.{alike-few}
use Rattle.tl_tree.specs.Inner.Store.{tag_at}
use Rattle.tl_tree.specs.Inner.Tallied.{counted, has_key}
use Rattle.tl_tree.specs.declared.look.Key.TheVariants.{Look}
use Rattle.tl_tree.proofs.active.ActiveList.is_rare.Goals as goal

pub returns : goal.returns
returns c = λ yes.
    let s = c.args.store.now in
    let xs = c.args.self.now.entries.items in
    let few = c.most.ensures s Look xs c.requires.tallied.looks in
    let same = ap (λ n. counted (has_key s Look n) xs) c.key_of.ensures in
    let least = ltb-true c.most.result 3 yes in
    let all = alike-few s (tag_at s c.args.own) xs in
    omega arith
