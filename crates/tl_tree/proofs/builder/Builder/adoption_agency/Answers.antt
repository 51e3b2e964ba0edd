use Rattle.std.proofs.Common.{Err, Ok, OnOk, Result, false, sym, true, ◌∙◌}
use Rattle.std.proofs.lemmas.Result.{on_ok_weaker}
use Rattle.tl_tree.proofs.Rounds.{agency-by}
use Rattle.tl_tree.specs.Inner.Builders.{builder_of}
use Rattle.tl_tree.proofs.builder.Builder.adoption_agency.Goals as goal

whatever : {T E : Type 0} (r : Result T E) (P : Type 0) → P → OnOk r P
whatever (Ok x) P p = p
whatever (Err e) P p = tt

pub returns-then-is_current_alone-clause-ok : goal.returns-then-is_current_alone-clause-ok
returns-then-is_current_alone-clause-ok c =
    on_ok_weaker c.pop_current_node.result
    (λ e. e ∙ sym (agency-by c.args.name.now (builder_of c.args.self.now) true (sym c.is_current_alone.ensures ∙ c.if-is_current_alone.true)))
    c.pop_current_node.ensures.ok

pub returns-clause-ok : goal.returns-clause-ok
returns-clause-ok c =
    whatever c.enter_frames.result _
    (c.enter_frames.ensures.ok
    ∙ (c.in_ok-adoption_rounds.ensures.ok
    ∙ sym (agency-by c.args.name.now (builder_of c.args.self.now) false (sym c.is_current_alone.ensures ∙ c.if-is_current_alone.false))))
