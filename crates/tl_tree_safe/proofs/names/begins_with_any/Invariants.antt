use Rattle.std.proofs.Common.{◌≡◌, drop}
use Rattle.tl_tree_safe.specs.Refusals.{begins_with_any}
use Rattle.tl_safe_fit.specs.Words.{words_of}
use Rattle.tl_tree_safe.proofs.names.begins_with_any.Given as goal

abbrev pub invariant-loop-front : goal.invariant-loop-front
invariant-loop-front l = begins_with_any (words_of l.fronts) l.word ≡ begins_with_any (words_of (drop l.front-index l.fronts)) l.word
