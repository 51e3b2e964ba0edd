use Rattle.std.proofs.Common.{ap, arith, sym, suc, ◌-◌, ◌≡◌, ◌∙◌, ℕ}
use Rattle.tl_dom_spec.specs.Builder.{Again, repeated}
use Rattle.tl_dom_spec.specs.Dispatcher.{dispatch}
use Rattle.tl_tree.specs.Inner.Builders.{Said, builder_of, outcome_of, token_of, token_view}
use Rattle.tl_tree.specs.declared.outcome.Outcome.{Outcome}
use Rattle.tl_tree.proofs.builder.Builder.process.Goals as goal

pub loop-left-preserved : goal.loop-left-preserved
loop-left-preserved c =
    let b = builder_of c.loop-left.self in
    let d = builder_of c.dispatch.new.self in
    let token = token_view c.args.token (token_of c.args.self.now) in
    let left = c.loop-left.left - 1 in
    let some = c.loop-left-test.true in
    let next : c.loop-left.left ≡ suc left = omega arith in
    let step : Again d ≡ dispatch token b =
    ap (λ (o : Outcome). outcome_of o d) (sym c.in-Again.is)
    ∙ (c.in_ok-dispatch.ensures.ok
    ∙ ap (λ (said : Said). dispatch (token_view c.args.token said) b) c.loop-left.invariant.said) in
    record {
      same =
          c.loop-left.invariant.same
          ∙ (ap (λ (n : ℕ). repeated n (dispatch token) (Again b)) next
          ∙ ap (repeated left (dispatch token)) (sym step));
      said = c.dispatch.ensures.token ∙ c.loop-left.invariant.said;
    }
