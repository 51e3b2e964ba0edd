use Rattle.std.proofs.Common.{◌≡◌, drop}
use Rattle.tl_safe_fit.specs.Kinds.{kind_among, named}
use Rattle.tl_safe_fit.proofs.kinds.kind_among.Given as goal

abbrev pub invariant-loop-own : goal.invariant-loop-own
invariant-loop-own l = kind_among (named l.rows) l.name ≡ kind_among (named (drop l.own-index l.rows)) l.name
