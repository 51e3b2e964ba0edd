use Rattle.std.proofs.Common.{◌≡◌, ◌<◌, ℕ, length, slice_index_or}
use Rattle.tl_tree_select.specs.Inner.Kin.{sibling_group}
use Rattle.tl_tree_select.specs.Inner.Links.{no_link}
use Rattle.tl_tree_select.specs.Page.{seen}
use Rattle.tl_tree_select.proofs.kin.sibling_groups.Given as goal

abbrev pub invariant-loop-number : goal.invariant-loop-number
invariant-loop-number l = record {
  len : length l.groups.items ≡ l.number;
  each : (n : ℕ) → n < l.number → slice_index_or l.groups.items n no_link ≡ sibling_group (seen l.page) n;
}
