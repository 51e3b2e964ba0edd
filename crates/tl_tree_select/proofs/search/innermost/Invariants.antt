use Rattle.std.proofs.Common.{ℕ, ◌+◌, IfSome}
use Rattle.std.specs.Option.{option_map_or}
use Rattle.tl_css.specs.Selector.{Css}
use Rattle.tl_css.specs.declared.selector.Link.TheVariants.{Parent}
use Rattle.tl_css.specs.declared.selector.Way.TheVariants.{From}
use Rattle.tl_tree_select.specs.Inner.Finding.{Finds, LeadsTo}
use Rattle.tl_tree_select.specs.Meaning.{Holds, IsUpTo}
use Rattle.tl_tree_select.specs.Page.{seen}
use Rattle.tl_tree_select.proofs.search.innermost.Given as goal

abbrev pub invariant-outwards : goal.invariant-outwards
invariant-outwards l = record {
  from : IfSome l.next (λ at. IsUpTo (seen l.page) From Parent at l.number);
  left : (e : Css) → Finds (seen l.page) e l.finder → (k : ℕ) → IsUpTo (seen l.page) From Parent k l.number → Holds (seen l.page) e k
      → LeadsTo (seen l.page) l.next k;
}

abbrev pub decreases-outwards : goal.decreases-outwards
decreases-outwards l = option_map_or (λ at. at + 1) l.next 0
