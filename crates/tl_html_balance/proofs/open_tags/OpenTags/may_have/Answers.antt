use Rattle.std.proofs.Common.{◌-◌, ap, arith}
use Rattle.tl_html_balance.proofs.Lacking.{open-none, open-past-none}
use Rattle.tl_html_balance.proofs.open_tags.OpenTags.may_have.Goals as goal

pub returns-then-place-len : goal.returns-then-place-len
returns-then-place-len c = λ e. open-past-none c.args.self.now c.args.wanted c.args.place (omega arith)

pub returns : goal.returns
returns c = λ e.
    open-none c.args.self.now c.args.wanted c.args.place _ c.index.result.now c.has.result (omega arith) (ap (λ n. n - 1 - c.args.place) c.len-2.ensures) c.index.ensures c.has.ensures e
