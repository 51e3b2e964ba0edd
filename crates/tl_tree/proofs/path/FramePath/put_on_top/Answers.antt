use Rattle.std.proofs.Common.{arith, length, suc, ◌-◌, ◌∙◌, ◌≡◌}
use Rattle.std.proofs.lemmas.Result.{on_ok_weaker}
use Rattle.tl_tree.proofs.Written.{put-on-top}
use Rattle.tl_tree.proofs.Grown.{grows_trans, is-node-grown}
use Rattle.tl_tree.proofs.path.FramePath.put_on_top.Goals as goal

pub returns-clause-ok : goal.returns-clause-ok
returns-clause-ok c =
    let p = c.args.self.now in
    let own = p.frames.ok.0 in
    let some = p.some in
    let n = c.len-top.result - 1 in
    let long : length p.frames.items ≡ suc n = omega arith in
    on_ok_weaker c.put_inside.result
    (put-on-top p c.catch_up.new.self c.put_inside.new.self n c.args.node c.catch_up.ensures.grows c.requires long (c.put_inside.ensures.gaps ∙ c.catch_up.ensures.gaps) c.in_ok-catch_up.ensures.ok)
    c.put_inside.ensures.ok

pub put_inside-requires-clause-node : goal.put_inside-requires-clause-node
put_inside-requires-clause-node c =
    is-node-grown c.args.self.now.store c.catch_up.new.self.store c.catch_up.ensures.grows c.args.node c.requires

pub returns-clause-next : goal.returns-clause-next
returns-clause-next c = c.put_inside.ensures.next ∙ c.catch_up.ensures.next

pub returns-clause-grows : goal.returns-clause-grows
returns-clause-grows c =
    grows_trans c.args.self.now.store c.catch_up.new.self.store c.put_inside.new.self.store c.catch_up.ensures.grows c.put_inside.ensures.grows
