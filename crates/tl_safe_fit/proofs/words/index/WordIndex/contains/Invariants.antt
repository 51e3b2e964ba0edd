use Rattle.tl_safe_fit.specs.Rows.{words_in}
use Rattle.tl_safe_fit.proofs.Chains.{Reached}
use Rattle.tl_safe_fit.proofs.words.index.WordIndex.contains.Given as goal

abbrev pub invariant-loop-link : goal.invariant-loop-link
invariant-loop-link l = Reached (words_in l.self.rows.items) l.word l.link

abbrev pub decreases-loop-link : goal.decreases-loop-link
decreases-loop-link l = l.link
