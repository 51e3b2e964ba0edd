use Rattle.std.proofs.Common.{ap, false, refl, sym, true, ◌∙◌}
use Rattle.std.proofs.lemmas.Result.{IfOk-weaker}
use Rattle.tl_dom_spec.specs.Builder as dom
use Rattle.tl_tree.specs.Inner.Active.{listed_of}
use Rattle.tl_tree.specs.Inner.Builders.{builder_of}
use Rattle.tl_tree.proofs.Rounds.{formatting-by}
use Rattle.tl_tree.proofs.builder.Builder.with_formatting.Goals as goal

pub returns-then-not-is_open_number-clause-ok : goal.returns-then-not-is_open_number-clause-ok
unfolding builder_of
returns-then-not-is_open_number-clause-ok c = λ name.
    let b = c.args.self.now in
    ap dom.Done c.unlist.ensures.ok
    ∙ sym (formatting-by name (builder_of b) (listed_of b.path.store c.args.own) false _ (sym c.is_open_number.ensures ∙ c.if-not-is_open_number.true) refl)

pub returns-then-not-is_within-clause-ok : goal.returns-then-not-is_within-clause-ok
unfolding builder_of
returns-then-not-is_within-clause-ok c = λ name.
    let b = c.args.self.now in
    sym (formatting-by name (builder_of b) (listed_of b.path.store c.args.own) true false (sym c.is_open_number.ensures ∙ c.if-not-is_open_number.false) (sym c.is_within.ensures ∙ c.if-not-is_within.true))

pub returns-clause-ok : goal.returns-clause-ok
unfolding builder_of
returns-clause-ok c =
    let b = c.args.self.now in
    IfOk-weaker c.with_block.result _ _
    (λ _ e name.
    e ∙ sym (formatting-by name (builder_of b) (listed_of b.path.store c.args.own) true true (sym c.is_open_number.ensures ∙ c.if-not-is_open_number.false) (sym c.is_within.ensures ∙ c.if-not-is_within.false)))
    c.with_block.ensures.ok
