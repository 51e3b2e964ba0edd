use Rattle.std.proofs.Common.{◌-◌, ◌≡◌, arith, length, suc}
use Rattle.std.proofs.lemmas.Result.{on_ok_weaker}
use Rattle.tl_tree.proofs.Written.{put-late}
use Rattle.tl_tree.specs.Inner.Store.{node_of}
use Rattle.tl_tree.proofs.path.FramePath.put_late.Goals as goal

pub returns-clause-ok : goal.returns-clause-ok
returns-clause-ok c =
    let p = c.args.self.now in
    let own = p.frames.ok.0 in
    let some = p.some in
    let n = c.len-top.result - 1 in
    let long : length p.frames.items ≡ suc n = omega arith in
    on_ok_weaker c.put_at_head.result
    (put-late p c.put_at_head.new.self n (node_of p.store c.args.node) long c.put_at_head.ensures.gaps)
    c.put_at_head.ensures.ok
