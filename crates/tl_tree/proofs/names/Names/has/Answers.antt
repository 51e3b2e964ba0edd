use Rattle.std.proofs.Common.{ap, arith, get_or, nat_eq, sym, ◌||◌, ◌∙◌}
use Rattle.std.proofs.lemmas.List.{take_all}
use Rattle.std.proofs.lemmas.List.Folds.{list_any_at, list_any_more}
use Rattle.std.specs.List.{list_any}
use Rattle.tl_names.specs.declared.element_name.ElementName.{ElementName}
use Rattle.tl_tree.proofs.NumberedNames.{list-told}
use Rattle.tl_tree.proofs.names.Names.has.Goals as goal

pub returns-then-eq : goal.returns-then-eq
returns-then-eq c n e =
    let items = c.members-own-items.result.now in
    sym (list_any_at (λ (own : ElementName). nat_eq c.args.name.number own.number) items c.loop-own.own-index _ c.loop-own-test.true (sym c.eq.ensures ∙ c.if-eq.true))
    ∙ list-told c.args.self items c.args.name n c.members-own-items.ensures e

pub loop-own-preserved : goal.loop-own-preserved
loop-own-preserved c =
    let items = c.members-own-items.result.now in
    let i = c.loop-own.own-index in
    let first : ElementName = record { number = 0 } in
    list_any_more (λ (own : ElementName). nat_eq c.args.name.number own.number) items i first c.loop-own-test.true
    ∙ (ap (λ b. b || nat_eq c.args.name.number (get_or items i first).number) c.loop-own.invariant ∙ (sym c.eq.ensures ∙ c.if-eq.false))

pub returns : goal.returns
returns c n e =
    let items = c.members-own-items.result.now in
    let test = λ (own : ElementName). nat_eq c.args.name.number own.number in
    sym (ap (list_any test) (sym (take_all c.loop-own.own-index items (omega arith))) ∙ c.loop-own.invariant)
    ∙ list-told c.args.self items c.args.name n c.members-own-items.ensures e
