use Rattle.std.proofs.Common.{false, rules, sym, true, ◌∙◌, ◌∷◌, ◌≡◌}
use Rattle.std.proofs.lemmas.Grind.{common_steps}
use Rattle.tl_tree.specs.Asked.{attribute_said}
use Rattle.tl_tree_safe.proofs.WrittenAttributes.{target_step}
use Rattle.tl_tree_safe.specs.Policies.{listed_words}
use Rattle.tl_tree_safe.proofs.start_tag.has_target.Goals as goal

pub loop-attribute-preserved : goal.loop-attribute-preserved
loop-attribute-preserved c =
    let a = attribute_said c.in-Some.attribute in
    let all : c.loop-attribute.attribute-iterator ≡ a ∷ c.next.new.self = search (rules, common_steps) in
    target_step (listed_words c.args.lists.now) _ false c.loop-attribute.attribute-iterator a c.next.new.self
    c.loop-attribute.invariant all (sym c.in_ok-is_target.ensures ∙ c.if-branch.false)

pub returns-then-branch : goal.returns-then-branch
returns-then-branch c =
    let a = attribute_said c.in-Some.attribute in
    let all : c.loop-attribute.attribute-iterator ≡ a ∷ c.next.new.self = search (rules, common_steps) in
    sym (target_step (listed_words c.args.lists.now) _ true c.loop-attribute.attribute-iterator a c.next.new.self
    c.loop-attribute.invariant all (sym c.in_ok-is_target.ensures ∙ c.if-branch.true))
