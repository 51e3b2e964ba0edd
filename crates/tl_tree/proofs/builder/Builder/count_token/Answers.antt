use Rattle.std.proofs.Common.{Bool, ap, arith, cond, false, nat_lt, refl, suc, true, ℕ, ◌*◌, ◌+◌, ◌-◌, ◌∙◌, ◌≡◌}
use Rattle.tl_dom_spec.specs.Builder as dom
use Rattle.tl_dom_spec.specs.Dispatcher as dispatcher
use Rattle.tl_tree.specs.Inner.Builders.{builder_of, token_of}
use Rattle.tl_tree.proofs.builder.Builder.count_token.Goals as goal

by-test : (d : dom.Builder) (n beyond : ℕ) (more : Bool) → ◌≡◌ {A = dom.Builder} (record d { tokens = n; excess = cond more beyond d.excess }) (cond more (record d { tokens = n; excess = beyond }) (record d { tokens = n }))
by-test d n beyond true = refl
by-test d n beyond false = refl

counted : (d : dom.Builder) (n excess : ℕ) → n ≡ suc d.tokens → excess ≡ cond (nat_lt d.excess (d.added - 4 * n)) (d.added - 4 * n) d.excess → record d { tokens = n; excess = excess } ≡ dispatcher.count_token d
counted d n excess one most =
    let with_excess : ℕ → dom.Builder = λ own. record d { tokens = n; excess = own } in
    let after : ℕ → dom.Builder = λ tokens. cond (nat_lt d.excess (d.added - 4 * tokens)) (record d { tokens = tokens; excess = d.added - 4 * tokens }) (record d { tokens = tokens }) in
    ap with_excess most
    ∙ (by-test d n (d.added - 4 * n) (nat_lt d.excess (d.added - 4 * n)) ∙ ap after one)

pub returns-clause-ok : goal.returns-clause-ok
unfolding builder_of
returns-clause-ok c =
    let b = c.args.self.now in
    counted (builder_of b) (b.tokens + 1) c.excess_after-self.result (omega arith) c.excess_after-self.ensures

pub returns-clause-token : goal.returns-clause-token
unfolding token_of
returns-clause-token c = refl
