use Rattle.tl_tree_safe.proofs.fragment.read_in_div.Goals as goal

pub returns-clause-tree : goal.returns-clause-tree
returns-clause-tree c = c.read_fragment.ensures.tree

pub returns-clause-sources : goal.returns-clause-sources
returns-clause-sources c = c.read_fragment.ensures.sources

pub returns-clause-in_proportion : goal.returns-clause-in_proportion
returns-clause-in_proportion c = c.read_fragment.ensures.in_proportion
