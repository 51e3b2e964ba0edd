-- Lists and lists of pairs with room for some items inline, and what edits make of them.
use Rattle.std.specs.Prelude.{ℕ, Bool, not, ◌||◌, ◌&&◌, ◌==◌, List, [], ◌∷◌, ◌++◌, length, map, is_some, slice_set, remove}
use Rattle.std.specs.List.{refill}
use Rattle.std.specs.Map.{lookup, set_value}
use Rattle.indexmap.specs.IndexMap.{insert_entry, swap_remove_entry}

-- the items in order, and whether they lie on the heap
pub record InlineVec (T : Type 0) : Type 0 where
  pub items : List T
  pub on_heap : Bool

-- the pairs in order, and whether they lie on the heap
pub record InlineMap (K V : Type 0) : Type 0 where
  pub entries : List (K × V)
  pub on_heap : Bool

-- how many handles, and how many pairs, a tag holds inline
abbrev pub room : ℕ
room = 2

module _ {T : Type 0} where
  -- v with x as its last item; where n items are held they move to the heap, and stay there
  abbrev pub with_last : ℕ → InlineVec T → T → InlineVec T
  with_last n v x = record {
    items = v.items ++ x ∷ [];
    on_heap = v.on_heap || (length v.items == n);
  }

  -- v with x as the item at a place
  abbrev pub with_item : InlineVec T → ℕ → T → InlineVec T
  with_item v i x = record v { items = slice_set v.items i x }

  -- v after a write of its items as a slice, which keeps the length
  abbrev pub with_items : InlineVec T → List T → InlineVec T
  with_items v xs = record v { items = refill (length v.items) v.items xs }

  -- v without the item at a place: the later ones close up
  abbrev pub without_item : InlineVec T → ℕ → InlineVec T
  without_item v i = record v { items = remove v.items i }

module _ {K V : Type 0} (eq : K → K → Bool) where
  -- m with v at k: in the place of its value, or as the last pair; where n pairs are held a new key
  -- moves them to the heap, and they stay there
  abbrev pub with_entry : ℕ → InlineMap K V → K → V → InlineMap K V
  with_entry n m k v = record {
    entries = insert_entry eq m.entries k v;
    on_heap = m.on_heap || (not (is_some (lookup (eq k) m.entries)) && (length m.entries == n));
  }

  -- m with w in the place of the value at k
  abbrev pub with_value : InlineMap K V → K → V → InlineMap K V
  with_value m k w = record m { entries = set_value (eq k) m.entries w }

  -- m without k: the last pair has its place
  abbrev pub without_key : InlineMap K V → K → InlineMap K V
  without_key m k = record m { entries = swap_remove_entry (eq k) m.entries }

module _ {K L V W : Type 0} (f : K → L) (g : V → W) where
  -- a pair with the key under f and the value under g
  abbrev pub pair_image : K × V → L × W
  pair_image p = (f p.0, g p.1)

  -- a map of such pairs
  abbrev pub map_image : InlineMap K V → InlineMap L W
  map_image m = record { entries = map pair_image m.entries; on_heap = m.on_heap }
