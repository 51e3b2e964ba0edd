use Rattle.std.proofs.Common.{List, map, take, ℕ, ◌≡◌}
use Rattle.tl_answers.specs.Records.{value_by}
use Rattle.tl_tree.specs.Rows.{Row}
use Rattle.tl_tree_extract.specs.Fields.{field_said}
use Rattle.tl_answers.proofs.records.fields_of.Given as goal

-- the fields are those of the keys so far
abbrev pub invariant-loop-key : goal.invariant-loop-key
invariant-loop-key l =
    (rows : List Row) (n : ℕ)
    → map (field_said rows n) l.fields.items ≡ map (value_by l.is_html rows n) (take l.key-index l.own.keys.now)
