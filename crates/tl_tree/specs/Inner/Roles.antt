-- What an element is to searches of the stack of open elements.
use Rattle.std.specs.Prelude.{Bool, codes, not, true, ℕ, ◌&&◌, ◌==◌, ◌||◌}
use Rattle.tl_dom_spec.specs.Tags.{Tag, is_any, is_html, is_item_bound, is_scope, is_special}
use Rattle.tl_tree.specs.declared.role.Entered.{Entered}
use Rattle.tl_tree.specs.declared.role.Kind.{Kind}
use Rattle.tl_tree.specs.declared.role.Kind.TheVariants.{Decisive, Html, ItemBound, Scope, Special}
use Rattle.tl_tree.specs.declared.role.Role.{Role}

-- what may decide the insertion mode (13.2.4.1)
abbrev pub is_decisive : Tag → Bool
is_decisive t =
    is_any
    (codes "td th tr tbody thead tfoot caption colgroup table template head body frameset html")
    t

-- where this is the number of its name. `search` is counted as a special element: where it isn't
-- one, a search looks at it too
abbrev pub role_of : Tag → ℕ → Role
role_of t number = record {
  is_scope = is_scope t;
  is_item_bound = is_item_bound true t;
  is_special = is_special true t;
  is_decisive = is_decisive t;
  is_html = is_html t;
  name = number;
}

abbrev pub is_of : Kind → Role → Bool
is_of Scope role = role.is_scope
is_of ItemBound role = role.is_item_bound
is_of Special role = role.is_special
is_of Decisive role = role.is_decisive
is_of Html role = role.is_html

-- what a search for elements of a kind goes past, and for elements of a name
abbrev pub is_not_of : Kind → Entered → Bool
is_not_of kind entered = not (is_of kind entered.role)

-- of no kind that another isn't of
abbrev pub is_within : Role → Role → Bool
is_within role other =
    (not role.is_scope || other.is_scope)
    && (not role.is_item_bound || other.is_item_bound)
    && (not role.is_special || other.is_special)
    && (not role.is_decisive || other.is_decisive)
    && (not role.is_html || other.is_html)

abbrev pub is_elsewhere : ℕ → Entered → Bool
is_elsewhere name entered = not (entered.role.name == name)

abbrev pub is_numbered : ℕ → Entered → Bool
is_numbered number entered = entered.number == number
