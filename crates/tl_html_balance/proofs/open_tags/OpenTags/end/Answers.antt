use Rattle.std.proofs.Common.{◌<◌, ◌-◌, ap, arith}
use Rattle.tl_html_balance.proofs.Opened.{open-end, open-length}
use Rattle.tl_html_balance.proofs.open_tags.OpenTags.end.Goals as goal

pub overflow_sub-len : goal.overflow_sub-len
overflow_sub-len c = let all = open-length c.args.self.now in omega arith

pub index-requires : goal.index-requires
index-requires c =
    let all = open-length c.args.self.now in
    let pos : 0 < c.args.place = omega (arith, c.if-place-eq0.false) in
    omega arith

pub returns-else-place-eq0 : goal.returns-else-place-eq0
returns-else-place-eq0 c =
    let pos : 0 < c.args.place = omega (arith, c.if-place-eq0.false) in
    open-end c.args.self.now c.args.place _ c.index.result.now pos c.requires (ap (λ n. n - c.args.place) c.len-else-place-eq0.ensures) c.index.ensures
