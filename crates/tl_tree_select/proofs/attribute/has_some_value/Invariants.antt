use Rattle.std.proofs.Common.{◌≡◌, ◌↔◌}
use Rattle.std.specs.List.{Any}
use Rattle.tl_css.specs.declared.selector.Space.TheVariants.{Every}
use Rattle.tl_dom_spec.specs.Tags.{Attribute}
use Rattle.tl_tree_select.specs.Meaning.{HasAttribute, PassesBy}
use Rattle.tl_tree_select.specs.Page.{seen}
use Rattle.tl_tree_select.proofs.attribute.has_some_value.Given as goal

abbrev pub invariant-loop-attribute : goal.invariant-loop-attribute
invariant-loop-attribute l =
    HasAttribute (seen l.page) (PassesBy l.folds l.op l.value) Every l.key l.number
    ↔ Any (λ (a : Attribute). (a.key ≡ l.key) × PassesBy l.folds l.op l.value a.value) l.attribute-iterator
