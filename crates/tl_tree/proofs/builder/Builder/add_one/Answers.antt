use Rattle.std.proofs.Common.{ap, arith, refl, suc, ◌+◌, ◌≡◌, ℕ}
use Rattle.tl_tree.specs.Inner.Builders.{builder_of, token_of}
use Rattle.tl_tree.proofs.builder.Builder.add_one.Goals as goal

pub returns-clause-ok : goal.returns-clause-ok
unfolding builder_of
returns-clause-ok c =
    let b = c.args.self.now in
    let one : b.added + 1 ≡ suc b.added = omega arith in
    ap (λ (n : ℕ). record (builder_of b) { added = n }) one

pub returns-clause-token : goal.returns-clause-token
unfolding token_of
returns-clause-token c = refl
