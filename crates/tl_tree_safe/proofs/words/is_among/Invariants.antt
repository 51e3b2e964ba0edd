use Rattle.std.proofs.Common.{◌≡◌, drop}
use Rattle.tl_safe_fit.specs.Words.{is_among, words_of}
use Rattle.tl_tree_safe.proofs.words.is_among.Given as goal

abbrev pub invariant-loop-own : goal.invariant-loop-own
invariant-loop-own l = is_among (words_of l.words) l.word ≡ is_among (words_of (drop l.own-index l.words)) l.word
