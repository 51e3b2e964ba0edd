-- What the list of active formatting elements stands for, in words of `tl_dom_spec`.
use Rattle.std.specs.List.{list_any, remove}
use Rattle.std.specs.Prelude.{IsTrue, List, drop, false, length, map, reverse, slice_index_or, suc, ℕ, ◌<◌, ◌≡◌}
use Rattle.tl_dom_spec.specs.Builder as dom
use Rattle.tl_dom_spec.specs.Formatting as formatting
use Rattle.tl_dom_spec.specs.Tags as tags
use Rattle.tl_tree.specs.Inner.ActiveWithin.{is_of}
use Rattle.tl_tree.specs.Inner.Store.{tag_at}
use Rattle.tl_tree.specs.declared.active.ActiveList.{ActiveList}
use Rattle.tl_tree.specs.declared.active_entry.Alike.{Alike}
use Rattle.tl_tree.specs.declared.active_entry.Entry.{Entry}
use Rattle.tl_tree.specs.declared.active_entry.Entry.TheVariants.{Formatting, Marker}
use Rattle.tl_tree.specs.declared.active_entry.Listed.{Listed}
use Rattle.tl_tree.specs.declared.store.Store.{Store}

abbrev pub entry_of : Store → Entry → dom.Entry
entry_of s Marker = dom.marker
entry_of s (Formatting number tag) = dom.formatting number (tag_at s tag)

-- entries that are kept with the latest last are seen with the latest first
unfoldable pub seen : Store → List Entry → List dom.Entry
seen s entries = reverse (map (entry_of s) entries)

abbrev pub active_of : Store → ActiveList → List dom.Entry
active_of s a = seen s a.entries.items

abbrev pub listed_of : Store → Listed → formatting.Listed
listed_of s l = record { number = l.number; tag = tag_at s l.tag }

-- the latest entry of a number stands at a place
pub record IsLatest (k place : ℕ) (entries : List Entry) : Type 0 where
  pub within : place < length entries
  pub own : IsTrue (is_of k (slice_index_or entries place Marker))
  pub none : list_any (is_of k) (drop (suc place) entries) ≡ false

-- how many are alike after the last marker, and which one is the earliest
pub record AreAlike (s : Store) (own : tags.Tag) (entries : List Entry) (a : Alike) : Type 0 where
  pub counted : a.count ≡ formatting.alike_count own (seen s entries)
  pub place : 0 < a.count → a.earliest < length entries
  pub gone :
      0 < a.count →
      formatting.without_earliest own (seen s entries) ≡ seen s (remove entries a.earliest)
