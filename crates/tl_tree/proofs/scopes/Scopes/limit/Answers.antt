use Rattle.std.proofs.Common.{IsTrue, subst, sym, ℕ}
use Rattle.tl_tree.proofs.Skips.{skips-min}
use Rattle.tl_tree.specs.Inner.Entered.{entered}
use Rattle.tl_tree.specs.Inner.Roles.{is_not_of}
use Rattle.tl_tree.specs.Inner.Scoped.{elements, skips}
use Rattle.tl_tree.proofs.scopes.Scopes.limit.Goals as goal

pub returns-clause-skips : goal.returns-clause-skips
unfolding entered
returns-clause-skips c =
    let s = c.args.self.now in
    let kind = c.args.kind in
    let xs = elements s.entries.items in
    skips-min (is_not_of kind) c.of.result c.len.result c.min.result xs c.min.ensures c.len.ensures
    (subst (λ (n : ℕ). IsTrue (skips (is_not_of kind) n xs)) (sym c.of.ensures) (s.limited kind))
