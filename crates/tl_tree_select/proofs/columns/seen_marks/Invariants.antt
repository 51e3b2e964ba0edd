use Rattle.std.proofs.Common.{◌≡◌, ◌↔◌, ◌<◌, ℕ, length, true}
use Rattle.tl_tree_select.specs.Page.{seen}
use Rattle.tl_tree_select.specs.Meaning.{Holds}
use Rattle.tl_css.specs.Selector.{Is}
use Rattle.tl_css.specs.View.{test}
use Rattle.tl_tree_select.specs.Inner.Links.{is_at}
use Rattle.tl_tree_select.proofs.columns.seen_marks.Given as goal

abbrev pub invariant-loop-number : goal.invariant-loop-number
invariant-loop-number l = record {
  len : length l.marks.items ≡ l.number;
  each : (n : ℕ) → n < l.number → (is_at l.marks.items n ≡ true) ↔ Holds (seen l.page) (Is (test l.test)) n;
}
