use Rattle.std.proofs.Common.{◌≡◌, ◌<◌, ◌&&◌, ℕ, length, not}
use Rattle.tl_tree_select.specs.Page.{seen}
use Rattle.tl_tree_select.specs.Inner.Kin.{is_element_at}
use Rattle.tl_tree_select.specs.Inner.Links.{is_at}
use Rattle.tl_tree_select.proofs.columns.unmarked_elements.Given as goal

abbrev pub invariant-loop-number : goal.invariant-loop-number
invariant-loop-number l = record {
  len : length l.found.items ≡ l.number;
  each : (n : ℕ) → n < l.number → is_at l.found.items n ≡ (is_element_at (seen l.page) n && not (is_at l.marks n));
}
