use Rattle.std.proofs.Common.{◌≡◌, ◌<◌, ℕ, length, slice_index_or}
use Rattle.tl_tree_select.specs.Inner.Kin.{parent_link}
use Rattle.tl_tree_select.specs.Inner.Links.{no_link}
use Rattle.tl_tree_select.specs.Page.{seen}
use Rattle.tl_tree_select.proofs.kin.parents.Given as goal

abbrev pub invariant-loop-number : goal.invariant-loop-number
invariant-loop-number l = record {
  len : length l.links.items ≡ l.number;
  each : (n : ℕ) → n < l.number → slice_index_or l.links.items n no_link ≡ parent_link (seen l.page) n;
}
