-- Links between the rows of a page.
use Rattle.std.specs.Prelude.{◌≡◌, ◌↔◌, ◌<◌, ℕ, ◌+◌, ◌&&◌, Bool, true, false, not, if◌then◌else◌, List, length, Option, None, Some, IfSome, option_and_then, option_map, ⊤}
use Rattle.std.specs.List.{All, list_any}
use Rattle.std.specs.Option.{option_map_or}
use Rattle.tl_css.specs.declared.selector.Link.{Link}
use Rattle.tl_css.specs.declared.selector.Link.TheVariants.{Parent, Sibling, Twin}
use Rattle.tl_css.specs.declared.selector.Step.{Step}
use Rattle.tl_css.specs.declared.selector.Step.TheVariants.{Ask, Keep, Turn, Meet, Unite, Shift, Count}
use Rattle.tl_css.specs.declared.selector.Way.{Way}
use Rattle.tl_css.specs.declared.selector.Way.TheVariants.{From, To}
use Rattle.tl_dom_spec.specs.Tags as dom
use Rattle.tl_tree.specs.Asked.{node_at, parent_at}
use Rattle.tl_tree_select.specs.declared.kin.Kin.{Kin}
use Rattle.tl_tree_select.specs.Inner.Links.{AreGrouped, link_at, no_link}
use Rattle.tl_tree_select.specs.Meaning.{AreSiblings, IsBefore, IsLink, expanded_name, is_element}
use Rattle.tl_tree_select.specs.Page.{Page}

-- whether there is an element of a number
abbrev pub is_element_at : Page → ℕ → Bool
is_element_at page n = option_map_or is_element (node_at page.rows n) false

-- where the link of a row to its parent leads
abbrev pub parent_link : Page → ℕ → ℕ
parent_link page n =
    option_map_or (λ p. if is_element_at page p then p else no_link) (parent_at page.rows n) no_link

-- the number that tells siblings: the same for all elements that stand in one row, and for all that
-- stand in none
abbrev pub sibling_group : Page → ℕ → ℕ
sibling_group page n =
    if is_element_at page n then option_map_or (λ p. p + 1) (parent_at page.rows n) 0 else no_link

-- the links of a kind between the rows
pub record AreLinksOf (page : Page) (link : Link) (links : List ℕ) : Type 0 where
  pub len : length links ≡ length page.rows
  pub each : (m n : ℕ) → (link_at links n ≡ Some m) ↔ IsLink page link m n
  pub none : (k n : ℕ) → link_at links n ≡ None → IsBefore page link k n → ⊥

-- groups of elements: two of them have one group exactly where they are siblings
pub record AreSiblingGroups (page : Page) (groups : List ℕ) : Type 0 where
  pub len : length groups ≡ length page.rows
  pub few : (n : ℕ) → IfSome (link_at groups n) (λ g. g < length groups)
  pub grouped : (m n : ℕ) → AreGrouped (link_at groups) m n ↔ AreSiblings page m n

-- namespaces in an order
abbrev pub space_number : dom.Namespace → ℕ
space_number dom.html_space = 0
space_number dom.math_space = 1
space_number dom.svg_space = 2

abbrev pub numbered_name : dom.Namespace × List ℕ → ℕ × List ℕ
numbered_name name = (space_number name.0, name.1)

-- the namespace, as a number, and the name of an element
abbrev pub name_at : Page → ℕ → Option (ℕ × List ℕ)
name_at page n = option_map numbered_name (option_and_then expanded_name (node_at page.rows n))

-- what twins have in common: the group of siblings, and the name with its namespace
abbrev pub twin_group : Page → List ℕ → ℕ → Option (ℕ × (ℕ × List ℕ))
twin_group page groups n =
    option_and_then (λ g. option_map (λ name. (g, name)) (name_at page n)) (link_at groups n)

abbrev pub links_of : Kin → Link → List ℕ
links_of kin Parent = kin.parents.items
links_of kin Sibling = kin.siblings.items
links_of kin Twin = kin.twins.items

-- links of parents that lead on from a row are read from the rows, and not kept
abbrev pub is_read : Way → Link → Bool
is_read From Parent = true
is_read From Sibling = false
is_read From Twin = false
is_read To link = false

-- the links that a step follows are there
abbrev pub HasLinks : Page → Kin → Step → Type 0
HasLinks page kin (Shift way link reach) =
    is_read way link ≡ false → AreLinksOf page link (links_of kin link)
HasLinks page kin (Count way link formula) = AreLinksOf page link (links_of kin link)
HasLinks page kin (Ask test) = ⊤
HasLinks page kin (Keep test) = ⊤
HasLinks page kin Turn = ⊤
HasLinks page kin Meet = ⊤
HasLinks page kin Unite = ⊤

-- the same of each of some steps
abbrev pub AreKin : Page → Kin → List Step → Type 0
AreKin page kin steps = All (HasLinks page kin) steps

abbrev pub is_same : Link → Link → Bool
is_same Parent Parent = true
is_same Sibling Sibling = true
is_same Twin Twin = true
is_same _ _ = false

-- whether a step follows links of this kind that are kept
abbrev pub follows : Link → Step → Bool
follows link (Shift way own reach) = not (is_read way own) && is_same own link
follows link (Count way own formula) = is_same own link
follows link _ = false

-- whether one of some steps does
abbrev pub needs : List Step → Link → Bool
needs steps link = list_any (follows link) steps
