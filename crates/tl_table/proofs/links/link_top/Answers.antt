use Rattle.std.proofs.Common.{◌+◌, ◌<◌, ◌∙◌, ℕ, Option, ap, ap₂, drop, length, arith}
use Rattle.tl_table.specs.Inner.Steps.{with_top, with_top_node}
use Rattle.tl_table.proofs.Rows.{item_at}
use Rattle.tl_table.proofs.Top.{top_next}
use Rattle.tl_table.proofs.links.link_top.Goals as goal

pub loop-place-preserved : goal.loop-place-preserved
loop-place-preserved c =
    let top = c.args.top.now in
    let place = c.loop-place.place in
    let links = c.loop-place.links.items in
    let within : place < length top = omega arith in
    ap (with_top (drop (place + 1) top)) c.link_top_node.ensures
    ∙ (ap₂ (λ (n : ℕ) (next : Option ℕ). with_top (drop (place + 1) top) (with_top_node n next links)) c.get_inner.ensures c.number_at.ensures
    ∙ (top_next top place c.index-top-place.result links (item_at top place c.index-top-place.result within c.index-top-place.is) ∙ c.loop-place.invariant))
