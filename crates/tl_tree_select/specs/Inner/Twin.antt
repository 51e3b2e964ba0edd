-- Groups of twins.
use Rattle.std.specs.Prelude.{ℕ, List}
use Rattle.std.specs.declared.cmp.Ordering.{Ordering}
use Rattle.std.specs.Ordering.{nat_cmp, ordering_then}
use Rattle.std.specs.Cmp.Lexicographic.{slice_cmp}
use Rattle.tl_dom_spec.specs.Tags as dom
use Rattle.tl_tree.specs.declared.entries.Namespace.{Namespace}
use Rattle.tl_tree.specs.declared.entries.Namespace.TheVariants.{Html, Math, Svg}
use Rattle.tl_tree_select.specs.declared.twin.TwinGroup.{TwinGroup}

abbrev pub space_of : Namespace → dom.Namespace
space_of Html = dom.html_space
space_of Math = dom.math_space
space_of Svg = dom.svg_space

-- the group of siblings, and the name with the number of its namespace
abbrev pub parts : TwinGroup → ℕ × (ℕ × List ℕ)
parts g = (g.siblings, (g.space, g.name.now))

-- by siblings, then by namespace, and then by name
abbrev pub twin_cmp : TwinGroup → TwinGroup → Ordering
twin_cmp a b =
    ordering_then (nat_cmp a.siblings b.siblings)
    (ordering_then (nat_cmp a.space b.space) (slice_cmp nat_cmp a.name.now b.name.now))
