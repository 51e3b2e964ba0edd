use Rattle.std.proofs.Common.{drop, ◌≡◌}
use Rattle.tl_dom_spec.specs.Adjusted.{cased}
use Rattle.tl_names.specs.Elements.{words_of}
use Rattle.tl_tree.proofs.foreign_words.cased.Given as goal

abbrev pub invariant-loop-word : goal.invariant-loop-word
invariant-loop-word l = cased l.name (words_of l.words) ≡ cased l.name (words_of (drop l.word-index l.words))
