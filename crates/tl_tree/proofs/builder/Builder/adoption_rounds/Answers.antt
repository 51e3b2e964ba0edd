use Rattle.std.proofs.Common.{ap, arith, sym, suc, ◌-◌, ◌≡◌, ◌∙◌, ℕ}
use Rattle.tl_tree.proofs.Rounds.{round-again, round-done, rounds-none}
use Rattle.tl_tree.specs.Inner.Builders.{builder_of, outcome_of}
use Rattle.tl_tree.specs.Inner.Rounds.{rounds}
use Rattle.tl_tree.specs.declared.outcome.Outcome.{Outcome}
use Rattle.tl_tree.proofs.builder.Builder.adoption_rounds.Goals as goal

pub returns-in-Done-clause-ok : goal.returns-in-Done-clause-ok
returns-in-Done-clause-ok c =
    let name = c.args.name.now in
    let b = builder_of c.loop-left.self in
    let d = builder_of c.adoption_round.new.self in
    let some = c.loop-left-test.true in
    let next : suc (c.loop-left.left - 1) ≡ c.loop-left.left = omega arith in
    round-done (c.loop-left.left - 1) name b d (ap (λ (o : Outcome). outcome_of o d) (sym c.in-Done.is) ∙ c.in_ok-adoption_round.ensures.ok)
    ∙ (ap (λ (n : ℕ). rounds n name b) next ∙ c.loop-left.invariant.ok)

pub loop-left-preserved : goal.loop-left-preserved
loop-left-preserved c =
    let name = c.args.name.now in
    let b = builder_of c.loop-left.self in
    let d = builder_of c.adoption_round.new.self in
    let some = c.loop-left-test.true in
    let next : suc (c.loop-left.left - 1) ≡ c.loop-left.left = omega arith in
    record {
      ok =
          round-again (c.loop-left.left - 1) name b d (ap (λ (o : Outcome). outcome_of o d) (sym c.in-Again.is) ∙ c.in_ok-adoption_round.ensures.ok)
          ∙ (ap (λ (n : ℕ). rounds n name b) next ∙ c.loop-left.invariant.ok);
      token = c.adoption_round.ensures.token ∙ c.loop-left.invariant.token;
    }

pub returns-clause-ok : goal.returns-clause-ok
returns-clause-ok c =
    let name = c.args.name.now in
    let b = builder_of c.loop-left.self in
    let end = c.loop-left-test.false in
    let none : 0 ≡ c.loop-left.left = omega arith in
    rounds-none name b ∙ (ap (λ (n : ℕ). rounds n name b) none ∙ c.loop-left.invariant.ok)
