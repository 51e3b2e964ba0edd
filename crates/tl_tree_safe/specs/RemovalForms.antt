-- What went of a tree, written in any form.
use Rattle.std.specs.Option.{option_and_then, option_map, unwrap_or}
use Rattle.std.specs.Prelude.{List, Option, [], flat_map, ℕ}
use Rattle.tl_tree.specs.Asked.{name_of, node_at}
use Rattle.tl_tree.specs.Rows.{Row}
use Rattle.tl_tree.specs.declared.source.Source.{Source}
use Rattle.tl_tree_safe.specs.Removed.{Gone}

-- what is written of what went, where the start tag of an element of a name stands
abbrev pub Form : Type 0
Form = Source → List ℕ → Gone → List ℕ

abbrev pub written_name : List Row → ℕ → List ℕ
written_name rows number = unwrap_or (option_and_then name_of (node_at rows number)) []

-- of an element that the standard puts in, which nobody wrote, there is nothing
abbrev pub removal_written : Form → (ℕ → Option Source) → List Row → Gone → List ℕ
removal_written form sources rows gone =
    unwrap_or
    (option_map (λ source. form source (written_name rows gone.node) gone) (sources gone.node))
    []

abbrev pub removals_written : Form → (ℕ → Option Source) → List Row → List Gone → List ℕ
removals_written form sources rows gone = flat_map (removal_written form sources rows) gone
