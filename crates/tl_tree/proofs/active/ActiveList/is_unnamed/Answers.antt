use Rattle.std.proofs.Common.{arith, ap}
use Rattle.std.proofs.lemmas.Bool.{eqb-true}
use Rattle.tl_tree.proofs.Tallies.{none-named}
use Rattle.tl_tree.specs.Inner.Tallied.{counted, has_key}
use Rattle.tl_tree.specs.declared.look.Key.TheVariants.{Name}
use Rattle.tl_tree.proofs.active.ActiveList.is_unnamed.Goals as goal

pub returns : goal.returns
returns c = λ s yes t.
    let xs = c.args.self.now.entries.items in
    let few = c.most.ensures s Name xs t.names in
    let same = ap (λ n. counted (has_key s Name n) xs) c.read_on.ensures in
    let none = eqb-true c.most.result 0 yes in
    none-named s c.args.name.now xs (omega arith)
