use Rattle.std.proofs.Common.{ap, arith, refl, suc, ◌+◌, ◌≡◌, ℕ}
use Rattle.tl_tree.specs.Inner.Builders.{builder_of, token_of}
use Rattle.tl_tree.proofs.builder.Builder.add_more.Goals as goal

pub returns-clause-ok : goal.returns-clause-ok
unfolding builder_of
returns-clause-ok c =
    let b = c.args.self.now in
    let count : b.added + (c.args.count + 1) ≡ b.added + suc c.args.count = omega arith in
    ap (λ (n : ℕ). record (builder_of b) { added = n }) count

pub returns-clause-token : goal.returns-clause-token
unfolding token_of
returns-clause-token c = refl
