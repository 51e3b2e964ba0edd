use Rattle.tl_tree.proofs.Written.{caught-up-none}
use Rattle.tl_tree.proofs.path.FramePath.catch_up.Goals as goal

pub returns-then-index-eq0-clause-ok : goal.returns-then-index-eq0-clause-ok
returns-then-index-eq0-clause-ok c =
    caught-up-none c.args.self.now c.args.index c.index.result.now c.index.ensures c.requires.index c.if-index-eq0.true
