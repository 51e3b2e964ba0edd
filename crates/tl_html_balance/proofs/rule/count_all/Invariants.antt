use Rattle.std.proofs.Common.{◌≡◌, ◌+◌, ◌≤◌, drop, length}
use Rattle.tl_html_balance.specs.Inner.Rules.{rules_for, total}
use Rattle.tl_html_balance.specs.View.{name_of, names_left}
use Rattle.tl_html_balance.proofs.rule.count_all.Given as goal

abbrev pub invariant-loop-names : goal.invariant-loop-names
invariant-loop-names l = record {
  within : l.closed ≤ length (names_left l.left);
  all : l.closed + total (rules_for (drop l.names-index l.rules) (name_of l.name)) (drop l.closed (names_left l.left)) ≡ total (rules_for l.rules (name_of l.name)) (names_left l.left);
}
