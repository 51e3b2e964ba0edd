use Rattle.std.proofs.Common.{ap, [], ◌++◌, ◌∙◌, ◌∷◌}
use Rattle.tl_tree.proofs.CellRows.{cell-got, cell-ranges, row-is, weight-is}
use Rattle.tl_tree.proofs.HeadRows.{less-none, less-some, open-none, open-some}
use Rattle.tl_tree.proofs.head.open.Goals as goal

pub returns-then-row-eq0-clause-split : goal.returns-then-row-eq0-clause-split
returns-then-row-eq0-clause-split c =
    open-none c.args.store.now c.args.row c.args.front.now.items c.if-row-eq0.true

pub returns-then-row-eq0-clause-less : goal.returns-then-row-eq0-clause-less
returns-then-row-eq0-clause-less c =
    less-none c.args.store.now c.args.row c.args.front.now.items

pub returns-clause-split : goal.returns-clause-split
returns-clause-split c =
    let s = c.args.store.now in
    let cell = c.index-cell.result.now in
    let got = cell-got s c.args.row cell c.if-row-eq0.false c.requires c.index-cell.ensures in
    let ranges = cell-ranges s _ cell got in
    open-some s c.args.row cell.before cell.node c.args.front.now.items c.push-2.new.self.items (row-is s c.args.row cell c.if-row-eq0.false got) ranges.0 ranges.1
    (c.in_ok-push-2.ensures.items ∙ ap (λ nodes. nodes ++ cell.node ∷ []) c.in_ok-push.ensures.items)

pub returns-clause-less : goal.returns-clause-less
returns-clause-less c =
    let s = c.args.store.now in
    let cell = c.index-cell.result.now in
    let got = cell-got s c.args.row cell c.if-row-eq0.false c.requires c.index-cell.ensures in
    less-some s c.args.row cell.before cell.node c.args.front.now.items c.push-2.new.self.items (weight-is s c.args.row cell c.if-row-eq0.false got)
    (c.in_ok-push-2.ensures.items ∙ ap (λ nodes. nodes ++ cell.node ∷ []) c.in_ok-push.ensures.items)
