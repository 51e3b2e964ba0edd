use Rattle.std.proofs.Common.{◌≡◌, ap, arith, refl, rules, sym}
use Rattle.std.specs.Prelude.{max, reverse}
use Rattle.tl_tree_extract.specs.Table as table
use Rattle.tl_tree_extract.proofs.Cells.{all_ahead, busy_on, free_at, passed_on, passed_out, stands_same}
use Rattle.tl_tree_extract.proofs.forming.Forming.pass.Goals as goal

pub loop-cell-preserved-in-Continue-1 : goal.loop-cell-preserved-in-Continue-1
loop-cell-preserved-in-Continue-1 c =
    let f = c.loop-cell.self in
    let i = c.loop-cell.invariant in
    let h = c.in-Some.ensures in
    let lt = c.if-row-cell.true in
    let most : c.max-column.result ≡ max c.loop-cell.column c.in-Some.cell.right = search rules in
    record {
      stands = rw most (passed_on f (record { width = f.width; cells = f.cells; passed = c.push.new.self; ahead = c.pop_up_to.new.ahead })
          c.args.row c.loop-cell.column c.in-Some.cell refl refl (search rules) h.1 h.0 lt i.stands);
      said = i.said;
      on = omega (arith, most, i.on);
      busy = rw most (busy_on f c.pop_up_to.new.ahead.items c.args.row c.loop-cell.column c.args.from c.in-Some.cell h.1 h.0 lt i.stands i.busy);
    }

pub loop-cell-preserved : goal.loop-cell-preserved
loop-cell-preserved c =
    let f = c.loop-cell.self in
    let i = c.loop-cell.invariant in
    let h = c.in-Some.ensures in
    record {
      stands = passed_out f (record { width = f.width; cells = f.cells; passed = f.passed; ahead = c.pop_up_to.new.ahead })
          c.args.row c.loop-cell.column c.in-Some.cell refl refl refl h.1 (omega arith) i.stands;
      said = i.said;
      on = i.on;
      busy = i.busy;
    }

pub returns-clause-free : goal.returns-clause-free
returns-clause-free c =
    let f = c.loop-cell.self in
    let i = c.loop-cell.invariant in
    let h = rw c.in_default.is at c.pop_up_to.ensures in
    let cells : f.cells.items ≡ c.args.self.now.cells.items = ap (λ (r : table.Forming). r.cells) i.said in
    let width : f.width ≡ c.args.self.now.width = ap (λ (r : table.Forming). r.width) i.said in
    rw (sym cells, sym width) (free_at f c.args.row c.args.from c.loop-cell.column i.stands h.1 i.on i.busy)

pub returns-clause-stands : goal.returns-clause-stands
returns-clause-stands c =
    let f = c.loop-cell.self in
    let i = c.loop-cell.invariant in
    let h = rw c.in_default.is at c.pop_up_to.ensures in (
      stands_same f (record { width = f.width; cells = f.cells; passed = f.passed; ahead = c.pop_up_to.new.ahead }) c.args.row c.loop-cell.column refl refl refl h.0 i.stands,
      rw h.0 (all_ahead c.loop-cell.column f.passed.items (reverse f.ahead.items) h.1 i.stands.around.sorted),
    )
