-- Worked rows.
use Rattle.std.proofs.Common.{Some, arith, suc, zero, ℕ, ◌<◌, ◌≡◌, ◌≤◌}
use Rattle.std.proofs.lemmas.Option.{none-some, same_Some}
use Rattle.tl_patch_select.specs.Examples.{from_to, paragraph_in_svg, places_in}
use Rattle.tl_patch_select.specs.Whole.{BelongsBy, ComesBy, Holds}

pub paragraph_inside : (row at : ℕ) → ComesBy (places_in paragraph_in_svg) 20 row at → Holds (from_to 5 13) at → BelongsBy 4 6 row
paragraph_inside zero at c h = absurd (none-some at c.place)
paragraph_inside (suc zero) at c h = absurd (none-some at c.place)
paragraph_inside (suc (suc zero)) at c h = absurd (none-some at c.place)
paragraph_inside (suc (suc (suc zero))) at c h = (let e : 0 ≡ at = same_Some 0 at c.place in absurd (omega (arith, e, h.0)))
paragraph_inside (suc (suc (suc (suc zero)))) at c h = (omega arith, omega arith)
paragraph_inside (suc (suc (suc (suc (suc zero))))) at c h = (omega arith, omega arith)
paragraph_inside (suc (suc (suc (suc (suc (suc zero)))))) at c h = (let e : 19 ≡ at = same_Some 19 at c.place in absurd (omega (arith, e, h.1)))
paragraph_inside (suc (suc (suc (suc (suc (suc (suc n))))))) at c h = absurd (none-some at c.place)

pub paragraph_own : (row at : ℕ) → ComesBy (places_in paragraph_in_svg) 20 row at → BelongsBy 4 6 row → Holds (from_to 5 13) at
paragraph_own zero at c h = absurd (omega (arith, h.0))
paragraph_own (suc zero) at c h = absurd (omega (arith, h.0))
paragraph_own (suc (suc zero)) at c h = absurd (omega (arith, h.0))
paragraph_own (suc (suc (suc zero))) at c h = absurd (omega (arith, h.0))
paragraph_own (suc (suc (suc (suc zero)))) at c h = (let e : 5 ≡ at = same_Some 5 at c.place in (omega (arith, e), omega (arith, e)))
paragraph_own (suc (suc (suc (suc (suc zero))))) at c h = (let e : 8 ≡ at = same_Some 8 at c.place in (omega (arith, e), omega (arith, e)))
paragraph_own (suc (suc (suc (suc (suc (suc n)))))) at c h = absurd (omega (arith, h.1))
