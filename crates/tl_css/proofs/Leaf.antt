-- A simple selector as it is read.
use Rattle.std.proofs.Common.{◌≡◌, ℕ, List, Bool, true, false, Ok}
use Rattle.tl_css.specs.Read.{Read}
use Rattle.tl_css.specs.PseudoClass.{Simple}
use Rattle.tl_css.specs.Item.{simple_at, first_at}

abbrev pub simple_by : Bool → List ℕ → Read Simple
simple_by true s = first_at s
simple_by false s = simple_at s

abbrev pub SimpleReads : Bool → List ℕ → Simple → List ℕ → Type 0
SimpleReads first s own rest = simple_by first s ≡ Ok (own, rest)
