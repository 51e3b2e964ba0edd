use Rattle.tl_tree.proofs.Written.{folded, folded-within}
use Rattle.tl_tree.proofs.path.FramePath.fold.Goals as goal

pub returns-clause-stands : goal.returns-clause-stands
returns-clause-stands c =
    folded c.args.self.now.store c.add_late.new.self.store c.add_late.ensures.grows c.args.frame c.in_ok-children.children c.requires c.in_ok-children.ensures.stands

pub returns-clause-within : goal.returns-clause-within
returns-clause-within c =
    folded-within c.args.self.now.store c.add_late.new.self.store c.add_late.ensures.grows c.args.frame c.in_ok-children.children c.requires c.in_ok-children.ensures.within
