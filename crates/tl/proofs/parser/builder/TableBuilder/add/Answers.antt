use Rattle.tl.proofs.Building.{held_more}
use Rattle.tl.proofs.parser.builder.TableBuilder.add.Goals as goal

pub returns-clause-held : goal.returns-clause-held
returns-clause-held c held all h =
    held_more held c.append_child.new.self.nodes.items c.push.new.self.items c.args.node c.in_ok-push.ensures.items (c.in_ok-append_child.ensures.held held all) h
