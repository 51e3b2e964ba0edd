use Rattle.tl_c.proofs.removals.removals_of_tree.Goals as goal

pub returns : goal.returns
returns c = λ trees same. c.in_ok-told.ensures.told trees same
