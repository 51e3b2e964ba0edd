use Rattle.std.proofs.Common.{IsTrue, arith, subst, sym, ℕ}
use Rattle.tl_tree.proofs.Skips.{read-none, read-number, skips-min}
use Rattle.tl_tree.specs.Inner.Entered.{entered}
use Rattle.tl_tree.specs.Inner.Roles.{is_elsewhere}
use Rattle.tl_tree.specs.Inner.Scoped.{elements, skips}
use Rattle.tl_tree.proofs.scopes.Scopes.limit_of.Goals as goal

pub returns-then-name-len-clause-skips : goal.returns-then-name-len-clause-skips
unfolding entered
returns-then-name-len-clause-skips c =
    let s = c.args.self.now in
    let many = s.names.ok.0 in
    subst (λ (n : ℕ). IsTrue (skips (is_elsewhere c.args.name) n (elements s.entries.items))) (read-none s.names.items c.args.name (omega arith)) (s.sought c.args.name)

pub returns-clause-skips : goal.returns-clause-skips
unfolding entered
returns-clause-skips c =
    let s = c.args.self.now in
    let b = c.args.name in
    let xs = elements s.entries.items in
    let many = s.names.ok.0 in
    skips-min (is_elsewhere b) c.index.result.now c.len-2.result c.min.result xs c.min.ensures c.len-2.ensures
    (subst (λ (n : ℕ). IsTrue (skips (is_elsewhere b) n xs)) (sym (read-number s.names.items b c.index.result.now (omega arith) c.index.ensures)) (s.sought b))
