use Rattle.std.proofs.Common.{rules, ◌∷◌, ◌≡◌}
use Rattle.std.proofs.lemmas.Grind.{common_steps}
use Rattle.tl_tree.specs.Asked.{attribute_said}
use Rattle.tl_tree_safe.proofs.WrittenAttributes.{beside_step}
use Rattle.tl_tree_safe.specs.Policies.{listed_words}
use Rattle.tl_tree_safe.proofs.start_tag.write_others.Goals as goal

pub loop-attribute-preserved : goal.loop-attribute-preserved
loop-attribute-preserved c =
    let a = attribute_said c.in-Some.attribute in
    let all : c.loop-attribute.attribute-iterator ≡ a ∷ c.next.new.self = search (rules, common_steps) in
    beside_step (listed_words c.args.lists.now) _ c.loop-attribute.out.items c.write_beside.new.out.items c.loop-attribute.attribute-iterator a c.next.new.self
    c.loop-attribute.invariant all c.in_ok-write_beside.ensures
