-- Names that are used, as they are kept.
use Rattle.std.specs.BTreeMap.{btree_map_len, get_by_text}
use Rattle.std.specs.Option.{is_some}
use Rattle.std.specs.Prelude.{List, Some, length, true, ℕ, ◌+◌, ◌≡◌, ◌≤◌}
use Rattle.tl_values.specs.Names.{is_used, numbered}
use Rattle.tl_values.specs.declared.names.Names.{Names}

-- these names are kept, and with each a number up to which all were tried behind it
pub record AreKept (n : Names) (used : List (List ℕ)) : Type 0 where
  pub kept : (q : List ℕ) → is_some (get_by_text n.taken q) ≡ is_used used q
  pub least : (q : List ℕ) (last : ℕ) → get_by_text n.taken q ≡ Some last → 1 ≤ last
  pub most : (q : List ℕ) (last : ℕ) → get_by_text n.taken q ≡ Some last → last ≤ length used + 1
  pub tried :
      (q : List ℕ) (last k : ℕ) → get_by_text n.taken q ≡ Some last → 2 ≤ k → k ≤ last
      → is_used used (numbered q k) ≡ true
  pub len : btree_map_len n.taken ≡ length used
