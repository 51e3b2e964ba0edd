use Rattle.std.proofs.Common.{◌≡◌, ◌<◌, ◌≤◌, ◌-◌, ℕ, true}
use Rattle.tl_css.specs.Selector.{Css}
use Rattle.tl_tree_select.specs.Inner.Finding.{Finds, IsFoundFrom, IsLookFor, IsPlace}
use Rattle.tl_tree_select.specs.Inner.Looking.{IsSeen, is_exact}
use Rattle.tl_tree_select.specs.Page.{seen}
use Rattle.tl_tree_select.proofs.search.next_found.Given as goal

abbrev pub invariant-rows : goal.invariant-rows
invariant-rows l = record {
  within : (l.fn.from.number ≤ l.place.number) × (l.place.number ≤ l.end);
  shown : l.place.number < l.end → is_exact l.look ≡ true → IsSeen (seen l.page) l.look l.place.number;
  none : (e : Css) (start : ℕ) → Finds (seen l.page) e l.finder → IsLookFor (seen l.page) e l.finder l.look
      → IsPlace (seen l.page) start l.fn.from
      → IsPlace (seen l.page) start l.place × ((n : ℕ) → l.fn.from.number ≤ n → n < l.place.number → IsFoundFrom (seen l.page) e start n → ⊥);
}

abbrev pub decreases-rows : goal.decreases-rows
decreases-rows l = l.end - l.place.number
