use Rattle.std.proofs.Common.{◌≡◌, drop}
use Rattle.tl_html_balance.specs.Classes.{classes_in, plain}
use Rattle.tl_html_balance.proofs.known.classes_among.Given as goal

abbrev pub invariant-loop-own : goal.invariant-loop-own
invariant-loop-own l = classes_in (plain l.rows) l.name ≡ classes_in (plain (drop l.own-index l.rows)) l.name
