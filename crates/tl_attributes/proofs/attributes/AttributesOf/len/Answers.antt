use mir.Val.{bool_byte}
use Rattle.std.proofs.Common.{◌≤◌, Bool, true, false, refl, arith}
use Rattle.tl_attributes.proofs.attributes.AttributesOf.len.Goals as goal

at_most_one : (b : Bool) → bool_byte b ≤ 1
at_most_one true = omega arith
at_most_one false = omega arith

pub overflow_add-result : goal.overflow_add-result
overflow_add-result g c = omega (arith, c.len.ensures.small (omega arith), c.from.ensures, at_most_one c.is_some.result)

pub overflow_add-result-2 : goal.overflow_add-result-2
overflow_add-result-2 g c =
    omega (arith, c.len.ensures.small (omega arith), c.from.ensures, at_most_one c.is_some.result, c.from-2.ensures, at_most_one c.is_some-2.result)

pub returns-clause-value : goal.returns-clause-value
returns-clause-value g c = rw (c.len.ensures.value, c.from.ensures, c.from-2.ensures, c.is_some.ensures, c.is_some-2.ensures, ← c.self.view_is) refl

pub returns-clause-distinct : goal.returns-clause-distinct
returns-clause-distinct g c = rw (← c.self.view_is) c.len.ensures.unique

pub returns-clause-others : goal.returns-clause-others
returns-clause-others g c = rw (← c.self.view_is) c.self.invariant
