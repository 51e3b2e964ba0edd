-- The number of the name of a tag.
use Rattle.std.specs.Prelude.{map, slice_index_or, ℕ}
use Rattle.tl_tree.specs.declared.entries.TagEntry.{TagEntry}
use Rattle.tl_tree.specs.declared.store.Store.{Store}

unfoldable pub number_at : Store → ℕ → ℕ
number_at s n = slice_index_or (map (λ (t : TagEntry). t.number) s.tags.items) n 0
