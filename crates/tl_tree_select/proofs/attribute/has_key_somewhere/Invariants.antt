use Rattle.std.proofs.Common.{◌≡◌, ◌↔◌}
use Rattle.std.specs.List.{Any}
use Rattle.std.specs.Prelude.{⊤}
use Rattle.tl_css.specs.declared.selector.Space.TheVariants.{Every}
use Rattle.tl_dom_spec.specs.Tags.{Attribute}
use Rattle.tl_tree_select.specs.Meaning.{HasAttribute}
use Rattle.tl_tree_select.specs.Page.{seen}
use Rattle.tl_tree_select.proofs.attribute.has_key_somewhere.Given as goal

abbrev pub invariant-loop-attribute : goal.invariant-loop-attribute
invariant-loop-attribute l =
    HasAttribute (seen l.page) (λ own. ⊤) Every l.key l.number ↔ Any (λ (a : Attribute). (a.key ≡ l.key) × ⊤) l.attribute-iterator
