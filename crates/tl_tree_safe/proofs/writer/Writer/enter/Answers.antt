use Rattle.tl_tree_safe.proofs.OpenElements.{entered_spot}
use Rattle.tl_tree_safe.proofs.writer.Writer.enter.Goals as goal

pub returns : goal.returns
returns c =
    let s = c.args.self.now in
    entered_spot s.level s.fresh s.opens.items c.level_inside-self.result c.is_preformatted-self.result c.push.new.self.items c.args.number c.args.end c.args.kind
    c.in_ok-push.ensures.items c.level_inside-self.ensures c.is_preformatted-self.ensures
