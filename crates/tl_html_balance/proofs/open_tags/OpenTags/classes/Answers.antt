use Rattle.std.proofs.Common.{◌-◌, ap, arith}
use Rattle.tl_html_balance.proofs.Opened.{open-classes, open-length}
use Rattle.tl_html_balance.proofs.open_tags.OpenTags.classes.Goals as goal

pub overflow_sub-len : goal.overflow_sub-len
overflow_sub-len c = let all = open-length c.args.self.now in omega arith

pub overflow_sub-len-2 : goal.overflow_sub-len-2
overflow_sub-len-2 c = let all = open-length c.args.self.now in omega arith

pub index-requires : goal.index-requires
index-requires c = let all = open-length c.args.self.now in omega arith

pub returns : goal.returns
returns c =
    open-classes c.args.self.now c.args.place _ c.index.result.now c.requires (ap (λ n. n - 1 - c.args.place) c.len.ensures) c.index.ensures
