use Rattle.std.proofs.Common.{◌≡◌, ◌∷◌, ◌∙◌, false, true, refl, rules, sym}
use Rattle.std.proofs.lemmas.Bool.{false≢true}
use Rattle.std.proofs.lemmas.Grind.{common_steps}
use Rattle.tl_dom_spec.specs.Tags.{Attribute}
use Rattle.tl_tree.specs.Asked.{attribute_said}
use Rattle.tl_tree_select.specs.Meaning.{PassesBy}
use Rattle.tl_tree_select.proofs.Attributes.{any_first, any_next}
use Rattle.tl_tree_select.proofs.attribute.has_some_value.Goals as goal

pub returns-then-passes : goal.returns-then-passes
returns-then-passes c =
    let P : Attribute → Type 0 = λ a. (a.key ≡ c.args.key.now) × PassesBy c.args.folds c.args.op c.args.value.now a.value in
    let own = attribute_said c.in-Some.attribute in
    let all : c.loop-attribute.attribute-iterator ≡ own ∷ c.next.new.self = search (rules, common_steps) in
    let passes : c.in_ok-passes.passes ≡ true = search rules in
    let here : P own = c.in_ok-passes.ensures.0 passes in
    (λ _. c.loop-attribute.invariant.1 (any_first P own c.next.new.self c.loop-attribute.attribute-iterator all here), λ _. refl)

pub loop-attribute-preserved : goal.loop-attribute-preserved
loop-attribute-preserved c =
    let P : Attribute → Type 0 = λ a. (a.key ≡ c.args.key.now) × PassesBy c.args.folds c.args.op c.args.value.now a.value in
    let own = attribute_said c.in-Some.attribute in
    let all : c.loop-attribute.attribute-iterator ≡ own ∷ c.next.new.self = search (rules, common_steps) in
    let fails : c.in_ok-passes.passes ≡ false = search rules in
    let next = any_next P own c.next.new.self c.loop-attribute.attribute-iterator all (λ h. false≢true (sym fails ∙ c.in_ok-passes.ensures.1 h)) in
    (λ h. next.0 (c.loop-attribute.invariant.0 h), λ h. c.loop-attribute.invariant.1 (next.1 h))
