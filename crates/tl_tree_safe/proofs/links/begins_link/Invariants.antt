use Rattle.std.proofs.Common.{◌≡◌, drop}
use Rattle.std.specs.List.{list_any}
use Rattle.tl_safe_fit.specs.Words.{words_of}
use Rattle.tl_tree_safe.specs.Lists.{begins_link}
use Rattle.tl_tree_safe.proofs.links.begins_link.Given as goal

abbrev pub invariant-loop-front : goal.invariant-loop-front
invariant-loop-front l = list_any (begins_link l.link) (words_of l.fronts) ≡ list_any (begins_link l.link) (words_of (drop l.front-index l.fronts))
