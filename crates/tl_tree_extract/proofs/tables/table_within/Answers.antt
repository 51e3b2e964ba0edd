use Rattle.std.proofs.Common.{List, arith, length, rules, subst, suc, sym, ℕ, ◌+◌, ◌<◌, ◌∙◌, ◌≡◌}
use Rattle.tl_tree.specs.Rows.{Row}
use Rattle.tl_tree.specs.TreeView.{rows_in}
use Rattle.tl_tree_extract.proofs.Formed.{formed_next, formed_over}
use Rattle.tl_tree_extract.specs.Inner.Open.{StandsBefore, forming_said}
use Rattle.tl_tree_extract.specs.Table.{begun, form_rows}
use Rattle.tl_tree_extract.specs.declared.tables.TableRow.{TableRow}
use Rattle.tl_tree_extract.proofs.tables.table_within.Goals as goal

pub loop-number-preserved : goal.loop-number-preserved
loop-number-preserved c =
    let n : ℕ = c.loop-number.number in
    let rows : List Row = rows_in c.args.tree.now in
    let items : List TableRow = c.deref-row-items.result.now in
    let none : TableRow = record { node = 0; group_end = 0 } in
    let within : n < length items = omega (arith, c.loop-number-test.true) in
    let behind : suc n ≡ n + 1 = omega arith in
    record {
      stands = subst (λ (m : ℕ). StandsBefore c.form_row.new.forming m) behind c.in_ok-form_row.ensures.stands;
      said = formed_next rows n items none (forming_said c.loop-number.forming) within (forming_said c.form_row.new.forming)
          (form_rows rows 0 items (begun rows c.args.table)) c.loop-number.invariant.said c.in_ok-form_row.ensures.said;
    }

pub returns-in_err-form_row-clause-long : goal.returns-in_err-form_row-clause-long
returns-in_err-form_row-clause-long c = λ h.
    let n : ℕ = c.loop-number.number in
    let rows : List Row = rows_in c.args.tree.now in
    let items : List TableRow = c.deref-row-items.result.now in
    let none : TableRow = record { node = 0; group_end = 0 } in
    let within : n < length items = omega (arith, c.loop-number-test.true) in
    let over = c.in_err-form_row.ensures.long (search (rules, h)) in (
      over.0,
      formed_over rows n items none (forming_said c.loop-number.forming) within c.args.table c.args.limit c.len.result
          (c.deref-row-items.ensures.value ∙ c.in_ok-rows.ensures) (c.len.ensures ∙ sym c.deref-row-items.ensures.len) c.loop-number.invariant.said over.1,
    )
