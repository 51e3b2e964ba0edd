use Rattle.std.proofs.Common.{◌-◌, ◌≡◌, arith, length, suc}
use Rattle.std.proofs.lemmas.Result.{on_ok_weaker}
use Rattle.tl_tree.proofs.Inserted.{pushed-on-top, tag-number-grown}
use Rattle.tl_tree.proofs.path.FramePath.push_on_top.Goals as goal

pub push-requires : goal.push-requires
push-requires c =
    tag-number-grown c.args.self.now.store c.catch_up.new.self.store c.catch_up.ensures.grows c.args.tag c.requires

pub returns-clause-ok : goal.returns-clause-ok
returns-clause-ok c =
    let p = c.args.self.now in
    let own = p.frames.ok.0 in
    let some = p.some in
    let n = c.len-top.result - 1 in
    let long : length p.frames.items ≡ suc n = omega arith in
    on_ok_weaker c.push.result
    (pushed-on-top p c.catch_up.new.self c.push.new.self n p.next c.args.tag c.catch_up.ensures.grows c.requires long c.catch_up.ensures.next c.catch_up.ensures.gaps c.in_ok-catch_up.ensures.ok)
    c.push.ensures.ok
