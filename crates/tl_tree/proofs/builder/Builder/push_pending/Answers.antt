use Rattle.std.proofs.Common.{List, ap, refl, ℕ}
use Rattle.tl_tree.specs.Inner.Builders.{builder_of, token_of}
use Rattle.tl_tree.proofs.builder.Builder.push_pending.Goals as goal

pub returns-in_err-push-clause-token : goal.returns-in_err-push-clause-token
unfolding token_of
returns-in_err-push-clause-token c = refl

pub returns-clause-ok : goal.returns-clause-ok
unfolding builder_of
returns-clause-ok c =
    ap (λ (bytes : List ℕ). record (builder_of c.args.self.now) { pending = bytes }) c.in_ok-push.ensures.items

pub returns-clause-token : goal.returns-clause-token
unfolding token_of
returns-clause-token c = refl
