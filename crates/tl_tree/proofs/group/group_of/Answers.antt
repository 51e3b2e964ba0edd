use Rattle.std.proofs.Common.{◌≡◌, ◌∙◌, ◌++◌, ℕ, [], ap, arith, refl, get_or}
use Rattle.std.specs.Prelude.{map, replicate}
use Rattle.tl_tree.specs.declared.group.Group.TheVariants.{TheHtml}
use Rattle.tl_tree.specs.declared.group.TheConstants.{GROUPS}
use Rattle.tl_names.specs.declared.element_name.ElementName.{ElementName}
use Rattle.tl_names.specs.ElementNames.{element_names, number_of}
use Rattle.tl_tree.specs.Inner.GroupNames.{group_view}
use Rattle.tl_dom_spec.specs.Groups.{group}
use Rattle.tl_names.proofs.ElementNames.{by_row}
use Rattle.tl_tree.proofs.GroupTable.{outside}
use Rattle.tl_tree.proofs.group.group_of.Goals as goal

-- by computing
each_row : map group_view GROUPS ≡ map group (element_names ++ replicate 97 [])
unfolding element_names
each_row = refl

pub returns : goal.returns
returns c n e =
    ap (λ (k : ℕ). group_view (get_or GROUPS k TheHtml)) (c.number.ensures ∙ ap (λ (name : ElementName). number_of name) e)
    ∙ by_row group_view group GROUPS TheHtml 97 (omega arith) each_row outside n
