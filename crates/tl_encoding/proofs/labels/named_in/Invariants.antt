use Rattle.std.proofs.Common.{◌≡◌, drop, map}
use Rattle.tl_encoding.specs.Labels.{labels_of, named_in}
use Rattle.tl_encoding.proofs.labels.named_in.Given as goal

-- the rows that are left name what all name
abbrev pub invariant-loop-row : goal.invariant-loop-row
invariant-loop-row l = named_in (map labels_of (drop l.row-index l.rows)) l.label ≡ named_in (map labels_of l.rows) l.label
