use Rattle.std.proofs.Common.{◌≡◌, ◌∷◌, ◌∙◌, refl, rules, sym}
use Rattle.std.proofs.lemmas.Bool.{false≢true}
use Rattle.std.proofs.lemmas.Grind.{common_steps}
use Rattle.std.proofs.lemmas.Slice.Eq.{bytes_eq-Decides}
use Rattle.std.specs.Prelude.{⊤}
use Rattle.tl_dom_spec.specs.Tags.{Attribute}
use Rattle.tl_tree.specs.Asked.{attribute_said}
use Rattle.tl_tree_select.proofs.Attributes.{any_first, any_next}
use Rattle.tl_tree_select.proofs.attribute.has_key_somewhere.Goals as goal

pub returns-then-eq : goal.returns-then-eq
returns-then-eq c =
    let P : Attribute → Type 0 = λ a. (a.key ≡ c.args.key.now) × ⊤ in
    let own = attribute_said c.in-Some.attribute in
    let all : c.loop-attribute.attribute-iterator ≡ own ∷ c.next.new.self = search (rules, common_steps) in
    let same = (bytes_eq-Decides own.key c.args.key.now).0 (sym c.eq.ensures ∙ c.if-eq.true) in
    (λ _. c.loop-attribute.invariant.1 (any_first P own c.next.new.self c.loop-attribute.attribute-iterator all (same, tt)), λ _. refl)

pub loop-attribute-preserved : goal.loop-attribute-preserved
loop-attribute-preserved c =
    let P : Attribute → Type 0 = λ a. (a.key ≡ c.args.key.now) × ⊤ in
    let own = attribute_said c.in-Some.attribute in
    let all : c.loop-attribute.attribute-iterator ≡ own ∷ c.next.new.self = search (rules, common_steps) in
    let other = sym c.eq.ensures ∙ c.if-eq.false in
    let next = any_next P own c.next.new.self c.loop-attribute.attribute-iterator all (λ h. false≢true (sym other ∙ (bytes_eq-Decides own.key c.args.key.now).1 h.0)) in
    (λ h. next.0 (c.loop-attribute.invariant.0 h), λ h. c.loop-attribute.invariant.1 (next.1 h))
