-- Tests of elements, in words of `tl_dom_spec`.
use Rattle.std.specs.Prelude.{Bool, List, None, [], ℕ, ◌||◌}
use Rattle.tl_dom_spec.specs.Tags as dom
use Rattle.tl_tree.specs.Inner.NameLists.{list_of}
use Rattle.tl_tree.specs.Inner.Store.{space_of}
use Rattle.tl_tree.specs.declared.entries.Namespace.{Namespace}
use Rattle.tl_tree.specs.declared.test.TagTest.{TagTest}
use Rattle.tl_tree.specs.declared.test.TagTest.TheVariants.{Any, Heading, ImpliedThoroughly, Named, Nothing, Scope, ScopeOr, ItemBound, Special}

-- what tests see of a tag
abbrev pub named : Namespace → List ℕ → dom.Tag
named space name = record { space = space_of space; name = name; attributes = []; source = None }

abbrev pub tag_test_of : TagTest → dom.Tag → Bool
tag_test_of Nothing = dom.no_tag
tag_test_of (Any names) = dom.is_any (list_of names)
tag_test_of (Named name) = dom.is_named name.now
tag_test_of Scope = dom.is_scope
tag_test_of (ScopeOr names) = λ (t : dom.Tag). dom.is_scope t || dom.is_any (list_of names) t
tag_test_of Heading = dom.is_heading
tag_test_of ImpliedThoroughly = dom.is_implied_thoroughly
tag_test_of (Special counts_search) = dom.is_special counts_search
tag_test_of (ItemBound counts_search) = dom.is_item_bound counts_search
