use Rattle.std.proofs.Common.{ap, subst, sym, ◌∙◌, ℕ}
use Rattle.std.specs.Option.{MatchOption}
use Rattle.std.specs.Prelude.{IfOk}
use Rattle.tl_dom_spec.specs.Path.{Nodes, no_nodes}
use Rattle.tl_tree.proofs.CellRows.{cell-got, cell-ranges, row-is, weight-is, weight-none}
use Rattle.tl_tree.proofs.Goings.{goes-as}
use Rattle.tl_tree.proofs.Grown.{nodes-none}
use Rattle.tl_tree.specs.Inner.Settling.{Ends, Goes, weight_of}
use Rattle.tl_tree.specs.Inner.Store.{nodes_of}
use Rattle.tl_tree.proofs.settling.Settling.go.Goals as goal

pub returns-then-row-eq0 : goal.returns-then-row-eq0
returns-then-row-eq0 c =
    let old = c.args.self.now in
    let new = c.resume.new.self in
    let s = old.store in
    let nodes = ap (nodes_of s) c.if-row-eq0.true ∙ nodes-none s in
    let weight = ap (weight_of s) c.if-row-eq0.true ∙ weight-none s in
    subst (λ (v : Nodes). IfOk c.resume.result (λ next. MatchOption next (Ends old new v) (Goes old new v (weight_of s c.args.row)))) (sym nodes)
    (subst (λ (v : ℕ). IfOk c.resume.result (λ next. MatchOption next (Ends old new no_nodes) (Goes old new no_nodes v))) (sym weight) c.resume.ensures)

pub step-requires-clause-before : goal.step-requires-clause-before
step-requires-clause-before c =
    let s = c.args.self.now.store in
    (cell-ranges s _ c.index-cell.result.now (cell-got s c.args.row c.index-cell.result.now c.if-row-eq0.false c.requires.within c.index-cell.ensures)).0

pub step-requires-clause-node : goal.step-requires-clause-node
step-requires-clause-node c =
    let s = c.args.self.now.store in
    (cell-ranges s _ c.index-cell.result.now (cell-got s c.args.row c.index-cell.result.now c.if-row-eq0.false c.requires.within c.index-cell.ensures)).1

pub returns : goal.returns
returns c =
    let s = c.args.self.now.store in
    let cell = c.index-cell.result.now in
    let got = cell-got s c.args.row cell c.if-row-eq0.false c.requires.within c.index-cell.ensures in
    goes-as c.args.self.now c.step.new.self _ _ _ _ _ (row-is s c.args.row cell c.if-row-eq0.false got) (weight-is s c.args.row cell c.if-row-eq0.false got) c.in_ok-step.ensures
