-- What limits say of the elements that were entered, and what each entry keeps of those before it.
use Rattle.std.specs.List.{list_all}
use Rattle.std.specs.Prelude.{Bool, List, [], cond, drop, map, nat_lt, true, ℕ, ◌&&◌, ◌++◌, ◌∷◌}
use Rattle.tl_tree.specs.Inner.Roles.{is_elsewhere, is_not_of}
use Rattle.tl_tree.specs.declared.role.Entered.{Entered}
use Rattle.tl_tree.specs.declared.role.Kind.{Kind}
use Rattle.tl_tree.specs.declared.role.Kind.TheVariants.{Decisive, Html, ItemBound, Scope, Special}
use Rattle.tl_tree.specs.declared.role.Role.{Role}
use Rattle.tl_tree.specs.declared.scopes.Entry.{Entry}
use Rattle.tl_tree.specs.declared.scopes.Limits.{Limits}

-- the elements of entries, and their numbers
abbrev pub elements : List Entry → List Entered
elements entries = map (λ (entry : Entry). entry.own) entries

abbrev pub numbers : List Entry → List ℕ
numbers entries = map (λ (entry : Entry). entry.own.number) entries

abbrev pub limit_at : Kind → Limits → ℕ
limit_at Scope limits = limits.scope
limit_at ItemBound limits = limits.item_bound
limit_at Special limits = limits.special
limit_at Decisive limits = limits.decisive
limit_at Html limits = limits.html

-- behind an element that ends there
abbrev pub raised : Limits → Role → ℕ → Limits
raised limits role end = record {
  scope = cond role.is_scope end limits.scope;
  item_bound = cond role.is_item_bound end limits.item_bound;
  special = cond role.is_special end limits.special;
  decisive = cond role.is_decisive end limits.decisive;
  html = cond role.is_html end limits.html;
}

-- from a place on each element passes a test
abbrev pub skips : (Entered → Bool) → ℕ → List Entered → Bool
skips test limit entered = list_all test (drop limit entered)

-- the limit that each entry keeps is one of the elements before it
abbrev pub are_kept : (Entry → Entered → Bool) → (Entry → ℕ) → List Entered → List Entry → Bool
are_kept test limit outer [] = true
are_kept test limit outer (entry ∷ entries) =
    skips (test entry) (limit entry) outer
    && are_kept test limit (outer ++ entry.own ∷ []) entries

-- what it keeps of a kind
abbrev pub is_limit_kept : Kind → List Entry → Bool
is_limit_kept kind entries =
    are_kept
    (λ (entry : Entry). is_not_of kind)
    (λ (entry : Entry). limit_at kind entry.limits)
    []
    entries

-- what it keeps of its own name
abbrev pub is_name_kept : List Entry → Bool
is_name_kept entries =
    are_kept
    (λ (entry : Entry). is_elsewhere entry.own.role.name)
    (λ (entry : Entry). entry.name)
    []
    entries

-- its name is one of those of which there are so many limits
abbrev pub has_name : ℕ → Entry → Bool
has_name count entry = nat_lt entry.own.role.name count
