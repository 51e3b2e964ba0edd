-- So many rounds of the adoption agency algorithm.
use Rattle.std.specs.Prelude.{List, ℕ}
use Rattle.tl_dom_spec.specs.Adoption.{adoption_round}
use Rattle.tl_dom_spec.specs.Builder.{Again, Builder, repeated}

unfoldable pub rounds : ℕ → List ℕ → Builder → Builder
rounds n name b = repeated n (adoption_round name) (Again b)
