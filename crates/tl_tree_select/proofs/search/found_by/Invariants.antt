use Rattle.std.proofs.Common.{◌≤◌, ◌-◌}
use Rattle.tl_css.specs.Selector.{Css}
use Rattle.tl_tree_select.specs.Inner.Finding.{AreBelow, Finds, IsFoundFrom, IsLookFor, IsPlace}
use Rattle.tl_tree_select.specs.Page.{seen}
use Rattle.tl_tree_select.proofs.search.found_by.Given as goal

abbrev pub invariant-found : goal.invariant-found
invariant-found l = record {
  within : (l.fn.start ≤ l.place.number) × (l.place.number ≤ l.end);
  found : (e : Css) → Finds (seen l.page) e l.finder → IsLookFor (seen l.page) e l.finder l.look
      → IsPlace (seen l.page) l.fn.start l.place × AreBelow (IsFoundFrom (seen l.page) e l.fn.start) l.place.number l.numbers.items;
}

abbrev pub decreases-found : goal.decreases-found
decreases-found l = l.end - l.place.number
