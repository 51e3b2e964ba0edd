use Rattle.std.proofs.Common.{◌≡◌, take}
use Rattle.tl_safe_fit.specs.Rows.{links_in, words_in}
use Rattle.tl_safe_fit.specs.Words.{words_of}
use Rattle.tl_safe_fit.proofs.Chains.{AreLed}
use Rattle.tl_safe_fit.proofs.words.index.WordIndex.new.Given as goal

abbrev pub invariant-loop-word : goal.invariant-loop-word
invariant-loop-word l =
    AreLed (words_in l.rows.items) (links_in l.rows.items) l.heads.items
    × (words_in l.rows.items ≡ words_of (take l.word-index l.words))
