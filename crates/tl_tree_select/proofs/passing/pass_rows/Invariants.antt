use Rattle.std.proofs.Common.{◌<◌, ◌≤◌, ◌-◌, ℕ}
use Rattle.tl_tree_select.specs.Inner.Finding.{EndsContents, IsPlace}
use Rattle.tl_tree_select.specs.Inner.Looking.{IsSeen}
use Rattle.tl_tree_select.specs.Page.{seen}
use Rattle.tl_tree_select.proofs.passing.pass_rows.Given as goal

abbrev pub invariant-rows : goal.invariant-rows
invariant-rows l = record {
  within : (l.fn.from.number ≤ l.number) × (l.number ≤ l.end);
  none : (n : ℕ) → l.fn.from.number ≤ n → n < l.number → IsSeen (seen l.page) l.look n → ⊥;
  place : (start : ℕ) → IsPlace (seen l.page) start l.fn.from → (start ≤ l.number) × EndsContents (seen l.page) start l.number l.behind;
}

abbrev pub decreases-rows : goal.decreases-rows
decreases-rows l = l.end - l.number
