use Rattle.tl_c.proofs.reading.tree_of_text.Goals as goal

pub returns-in-Ok-clause-tree : goal.returns-in-Ok-clause-tree
returns-in-Ok-clause-tree c = record {
  rows = c.in-Ok.ensures.tree;
  quirks = c.in-Ok.ensures.quirks;
  sources = c.in-Ok.ensures.sources;
}
