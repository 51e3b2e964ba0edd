-- Active formatting elements that are opened again, from the earliest on.
use Rattle.std.specs.Prelude.{List, [], drop, map, take, ℕ, ◌∷◌}
use Rattle.tl_dom_spec.specs.Builder as dom
use Rattle.tl_dom_spec.specs.Formatting.{reopen}
use Rattle.tl_tree.specs.Inner.Active.{entry_of, seen}
use Rattle.tl_tree.specs.Inner.Builders.{builder_of}
use Rattle.tl_tree.specs.declared.builder.Builder.{Builder}

-- these are opened again, the first one first; a marker stays
abbrev pub reopened : List dom.Entry → dom.Builder → dom.Builder
reopened [] b = b
reopened (dom.marker ∷ entries) b = reopened entries (record b { active = dom.marker ∷ b.active })
reopened (dom.formatting k tag ∷ entries) b = reopened entries (reopen tag b)

-- where the entries from a place on are opened again
unfoldable pub rest_reopened : Builder → ℕ → dom.Builder
rest_reopened b place =
    let s = b.path.store in
    let entries = b.active.entries.items in
    reopened (map (entry_of s) (drop place entries))
    (record (builder_of b) { active = seen s (take place entries) })
