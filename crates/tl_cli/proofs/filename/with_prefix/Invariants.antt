use Rattle.std.proofs.Common.{◌≡◌, ◌++◌, drop}
use Rattle.tl_cli.specs.Filename.{prefixed, prefixed_from}
use Rattle.tl_cli.proofs.filename.with_prefix.Given as goal

-- what is written, and then what is left, is the whole
abbrev pub invariant-loop-b : goal.invariant-loop-b
invariant-loop-b l =
    l.lines.items ++ prefixed_from l.name l.end l.begins (drop l.b-index l.text) ≡ prefixed l.name l.end l.text
