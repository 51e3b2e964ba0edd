use Rattle.std.proofs.Common.{◌-◌, ◌∙◌, ◌≡◌, arith, length, suc}
use Rattle.std.proofs.lemmas.Result.{on_ok_weaker}
use Rattle.tl_tree.proofs.Written.{settle-on-top}
use Rattle.tl_tree.proofs.path.FramePath.settle_on_top.Goals as goal

pub returns-clause-ok : goal.returns-clause-ok
returns-clause-ok c =
    let p = c.args.self.now in
    let own = p.frames.ok.0 in
    let some = p.some in
    let n = c.len-top.result - 1 in
    let long : length p.frames.items ≡ suc n = omega arith in
    on_ok_weaker c.catch_up.result
    (settle-on-top p c.put_inside.new.self c.catch_up.new.self n c.args.node long (c.catch_up.ensures.gaps ∙ c.put_inside.ensures.gaps) c.in_ok-put_inside.ensures.ok)
    c.catch_up.ensures.ok
