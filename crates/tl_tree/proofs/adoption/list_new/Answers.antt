use Rattle.tl_tree.proofs.adoption.list_new.Goals as goal

pub returns-then-made-eq0-clause-tallied : goal.returns-then-made-eq0-clause-tallied
returns-then-made-eq0-clause-tallied c = c.relist.ensures.tallied c.args.path.now.store c.requires.tallied
