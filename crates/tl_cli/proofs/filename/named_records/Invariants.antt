use Rattle.std.proofs.Common.{drop, ◌++◌, ◌≡◌}
use Rattle.tl_cli.specs.Filename.{named_from, named_records}
use Rattle.tl_cli.proofs.filename.named_records.Given as goal

-- what is written, and then what is left, is the whole
abbrev pub invariant-loop-b : goal.invariant-loop-b
invariant-loop-b l =
    l.named.items ++ named_from l.columns l.value.items l.begins l.is_quoted (drop l.b-index l.records)
    ≡ named_records l.columns l.name l.records
