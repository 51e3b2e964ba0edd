-- The element that stands in no other, and what is in it.
use Rattle.std.specs.Option.{is_none, is_some, option_and_then, option_map_or}
use Rattle.std.specs.Prelude.{Bool, List, None, Option, Some, [], false, length, suc, true, zero, ℕ, ◌&&◌}
use Rattle.tl_tree.specs.Asked.{name_of, node_at, parent_at}
use Rattle.tl_tree.specs.Below.{text_content}
use Rattle.tl_tree.specs.Rows.{Row}

-- an element that stands in no row
abbrev pub is_root : List Row → ℕ → Bool
is_root rows n =
    is_none (parent_at rows n) && is_some (option_and_then name_of (node_at rows n))

-- the first of so many rows from one on
abbrev pub root_from : List Row → ℕ → ℕ → Option ℕ
root_from rows zero n = None
root_from rows (suc most) n =
    elim (is_root rows n) as (λ _. Option ℕ) [
      | true ↦ Some n
      | false ↦ root_from rows most (suc n)
    ]

-- `documentElement`
abbrev pub document_element : List Row → Option ℕ
document_element rows = root_from rows (length rows) 0

-- `textContent` of it
abbrev pub document_text : List Row → List ℕ
document_text rows = option_map_or (text_content rows) (document_element rows) []
