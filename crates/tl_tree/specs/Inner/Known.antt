-- What a builder may refer to: tags, bytes and doctypes of its store, and elements with a number.
use Rattle.std.specs.Prelude.{Bool, IsTrue, None, Option, Some, nat_lt, true, ℕ, ◌<◌}
use Rattle.tl_tree.specs.Inner.Tallied.{IsTallied}
use Rattle.tl_tree.specs.Inner.Within.{Sizes, span_is_within}
use Rattle.tl_tree.specs.declared.active.ActiveList.{ActiveList}
use Rattle.tl_tree.specs.declared.span.Span.{Span}
use Rattle.tl_tree.specs.declared.store.Store.{Store}

abbrev pub context_is_known : ℕ → Option ℕ → Bool
context_is_known tags None = true
context_is_known tags (Some tag) = nat_lt tag tags

-- where a store has these sizes, and this is the next number
pub record AreKnown (sizes : Sizes) (next number active : ℕ) (context : Option ℕ) (token : ℕ)
    (text : Span) (doctype : ℕ) (s : Store) (list : ActiveList) : Type 0 where
  pub numbered : number < next
  pub listed : active < sizes.tags
  pub own : token < sizes.tags
  pub around : IsTrue (context_is_known sizes.tags context)
  pub said : IsTrue (span_is_within sizes.page sizes.side text)
  pub typed : doctype < sizes.doctypes
  pub tallied : IsTallied s list
