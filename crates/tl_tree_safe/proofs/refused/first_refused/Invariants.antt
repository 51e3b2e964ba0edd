use Rattle.std.proofs.Common.{◌≡◌, drop}
use Rattle.tl_tree_safe.specs.Refusals.{first_refused}
use Rattle.tl_safe_fit.specs.Words.{words_of}
use Rattle.tl_tree_safe.specs.Inner.Roles.{reason_in}
use Rattle.tl_tree_safe.proofs.refused.first_refused.Given as goal

-- no word so far is refused
abbrev pub invariant-loop-word : goal.invariant-loop-word
invariant-loop-word l =
    first_refused (reason_in l.role (words_of l.link_keys)) (words_of l.words)
    ≡ first_refused (reason_in l.role (words_of l.link_keys)) (words_of (drop l.word-index l.words))
