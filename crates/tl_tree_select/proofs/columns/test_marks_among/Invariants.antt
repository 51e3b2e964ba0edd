use Rattle.std.proofs.Common.{◌≡◌, ◌↔◌, ◌<◌, ◌≤◌, ℕ, length, true}
use Rattle.tl_tree_select.specs.Page.{seen}
use Rattle.tl_tree_select.specs.Meaning.{Holds}
use Rattle.tl_css.specs.Selector.{Is}
use Rattle.tl_css.specs.View.{test}
use Rattle.tl_tree_select.specs.Inner.Links.{is_at}
use Rattle.tl_tree_select.proofs.columns.test_marks_among.Given as goal

abbrev pub invariant-loop-number : goal.invariant-loop-number
invariant-loop-number l = record {
  len : length l.among.items ≡ length l.fn.among.items;
  done : (n : ℕ) → n < l.number → (is_at l.among.items n ≡ true) ↔ ((is_at l.fn.among.items n ≡ true) × Holds (seen l.page) (Is (test l.test)) n);
  left : (n : ℕ) → l.number ≤ n → is_at l.among.items n ≡ is_at l.fn.among.items n;
}
