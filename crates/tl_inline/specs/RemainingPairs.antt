-- What an `InlineHashMapIterator` has left. No public clause cites this module.
use Rattle.std.specs.Prelude.{List}
use Rattle.std.specs.Slice.Iter.{iter_rest}
use Rattle.tl_inline.specs.declared.inline.hashmap.iter.RemainingPairs.{RemainingPairs}
use Rattle.tl_inline.specs.declared.inline.hashmap.iter.RemainingPairs.TheVariants.{Slice, Map}

-- the pairs in order
abbrev pub remaining_pairs : {K V : Type 0} → RemainingPairs K V → List (K × V)
remaining_pairs (Slice it) = iter_rest it
remaining_pairs (Map it) = it
