-- Words for the worked rows of `src/examples.rt`.
use Rattle.std.specs.Prelude.{List, codes, ℕ}

abbrev pub classes : List ℕ
classes = codes "big  red"
