use Rattle.std.proofs.Common.{map, rules, ◌∷◌, ◌≡◌}
use Rattle.std.proofs.lemmas.Grind.{common_steps}
use Rattle.tl_tree.specs.Asked.{attribute_said}
use Rattle.tl_tree_safe.proofs.TellingSteps.{attribute_told}
use Rattle.tl_tree_safe.specs.Policies.{listed_words}
use Rattle.tl_tree_safe.specs.Removed.{gone_of}
use Rattle.tl_tree_safe.proofs.telling.tell_attributes.Goals as goal

pub loop-attribute-preserved : goal.loop-attribute-preserved
loop-attribute-preserved c =
    let a = attribute_said c.in-Some.attribute in
    let all : c.loop-attribute.attribute-iterator ≡ a ∷ c.next.new.self = search (rules, common_steps) in
    attribute_told (listed_words c.args.lists.now) c.args.number _ (map gone_of c.loop-attribute.told.items) (map gone_of c.tell_attribute.new.told.items) c.loop-attribute.attribute-iterator a c.next.new.self
    c.loop-attribute.invariant all c.in_ok-tell_attribute.ensures
