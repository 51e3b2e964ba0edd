use Rattle.std.proofs.Common.{◌-◌, ap, arith}
use Rattle.tl_html_balance.proofs.Opened.{open-get, open-length, open-name, open-past}
use Rattle.tl_html_balance.proofs.open_tags.OpenTags.name.Goals as goal

pub returns-then-place-len : goal.returns-then-place-len
returns-then-place-len c =
    let all = open-length c.args.self.now in
    open-past c.args.self.now c.args.place (omega arith)

pub end-requires : goal.end-requires
end-requires c = let all = open-length c.args.self.now in omega arith

pub slice_bounds-result-count : goal.slice_bounds-result-count
slice_bounds-result-count c =
    let all = open-length c.args.self.now in
    let lies = open-name c.args.self.now c.args.place _ c.index.result.now (omega arith) (ap (λ n. n - 1 - c.args.place) c.len-2.ensures) c.index.ensures in
    omega (arith, lies.order)

pub slice_bounds-result-start : goal.slice_bounds-result-start
slice_bounds-result-start c =
    let all = open-length c.args.self.now in
    let lies = open-name c.args.self.now c.args.place _ c.index.result.now (omega arith) (ap (λ n. n - 1 - c.args.place) c.len-2.ensures) c.index.ensures in
    omega (arith, lies.order)

pub slice_bounds-result-end : goal.slice_bounds-result-end
slice_bounds-result-end c =
    let all = open-length c.args.self.now in
    let lies = open-name c.args.self.now c.args.place _ c.index.result.now (omega arith) (ap (λ n. n - 1 - c.args.place) c.len-2.ensures) c.index.ensures in
    omega (arith, lies.order, lies.within, c.deref.ensures.len, c.args.self.now.names.ok.0)

pub returns : goal.returns
returns c =
    let all = open-length c.args.self.now in
    let lies = open-name c.args.self.now c.args.place _ c.index.result.now (omega arith) (ap (λ n. n - 1 - c.args.place) c.len-2.ensures) c.index.ensures in
    open-get c.args.self.now c.args.place c.index.result.now.start c.end.result c.deref.result.now (omega arith) lies c.end.ensures c.deref.ensures.value
