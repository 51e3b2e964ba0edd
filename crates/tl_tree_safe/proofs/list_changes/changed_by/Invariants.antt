use Rattle.std.proofs.Common.{drop, ◌≡◌}
use Rattle.tl_safe_fit.specs.Words.{words_of}
use Rattle.tl_tree_safe.specs.ListOptions.{changed_by}
use Rattle.tl_tree_safe.proofs.list_changes.changed_by.Given as goal

abbrev pub invariant-loop-change : goal.invariant-loop-change
invariant-loop-change l =
    changed_by (words_of l.own) (words_of l.changes) ≡ changed_by (words_of l.found.items) (words_of (drop l.change-index l.changes))
