-- Where a climb along last children stops.
use Rattle.std.specs.Prelude.{◌≡◌, ℕ, List, Some, Ok, Err}
use Rattle.tl_spec.specs.Tree.Document.{Node}
use Rattle.tl_spec.specs.Walk.Range.{last_below}
use Rattle.tl_spec.specs.Walk.{Dangling}
use Rattle.tl_table.specs.Inner.Way.{Rises}
use Rattle.tl_table.specs.declared.last_descendant.Stop.{Stop}
use Rattle.tl_table.specs.declared.last_descendant.Stop.TheVariants.{End, Dangling as Dangles, Fall}

-- the end, or the handle that the table lacks; the way does not rise where the climb falls
abbrev pub StopsAt : List Node → ℕ → Stop → Type 0
StopsAt nodes first (End h) = last_below nodes (Some first) ≡ Ok (Some h)
StopsAt nodes first (Dangles h) = last_below nodes (Some first) ≡ Err (Dangling h)
StopsAt nodes first Fall = Rises nodes (Some first) → ⊥
