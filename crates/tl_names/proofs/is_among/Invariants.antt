use Rattle.std.proofs.Common.{◌≡◌, drop}
use Rattle.tl_names.specs.Elements.{is_among, words_of}
use Rattle.tl_names.proofs.is_among.Given as goal

abbrev pub invariant-loop-own : goal.invariant-loop-own
invariant-loop-own l = is_among (words_of l.names) l.name ≡ is_among (words_of (drop l.own-index l.names)) l.name
