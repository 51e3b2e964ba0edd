use Rattle.std.proofs.Common.{Bool, true, ℕ, ◌≡◌}
use Rattle.tl_dom_spec.specs.Tags.{Tag, is_html, is_item_bound, is_scope, is_special}
use Rattle.tl_tree.specs.Inner.Roles.{is_decisive, role_of}
use Rattle.tl_tree.specs.Inner.Store.{bytes_of, tag_of}
use Rattle.tl_tree.specs.declared.role.Role.{Role}
use Rattle.tl_tree.proofs.role.role_of.Goals as goal

same-role : (t : Tag) (number : ℕ) (scope item_bound special decisive html : Bool) → scope ≡ is_scope t → item_bound ≡ is_item_bound true t → special ≡ is_special true t → decisive ≡ is_decisive t → html ≡ is_html t → ◌≡◌ {A = Role} (record { is_scope = scope; is_item_bound = item_bound; is_special = special; is_decisive = decisive; is_html = html; name = number }) (role_of t number)
same-role t number scope item_bound special decisive html a b c d e = cc

pub returns : goal.returns
unfolding tag_of
returns c s known =
    let name = bytes_of s c.args.tag.name in
    same-role (tag_of s c.args.tag) c.args.tag.number c.is_scope.result c.is_item_bound.result c.is_special.result c.is_decisive.result c.is_html.result
    (c.is_scope.ensures name known) (c.is_item_bound.ensures name known) (c.is_special.ensures name known)
    (c.is_decisive.ensures name known) c.is_html.ensures
