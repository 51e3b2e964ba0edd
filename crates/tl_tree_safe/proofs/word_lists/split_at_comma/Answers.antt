use Rattle.tl_tree_safe.proofs.Commas.{cut_some, cut_none}
use Rattle.tl_tree_safe.proofs.word_lists.split_at_comma.Goals as goal

pub returns-in-Some-clause-words : goal.returns-in-Some-clause-words
returns-in-Some-clause-words c = cut_some c.args.text.now (c.in-Some.word, c.in-Some.more) c.in-Some.ensures.cases

pub returns-in-None-clause-words : goal.returns-in-None-clause-words
returns-in-None-clause-words c = cut_none c.args.text.now c.in-None.ensures.cases
