use Rattle.std.proofs.Common.{Err, rules, ◌≡◌}
use Rattle.tl_answers.proofs.Tabled.{later_reason}
use Rattle.tl_tree.specs.Sources.{source_at}
use Rattle.tl_tree.specs.TreeView.{rows_in}
use Rattle.tl_answers.proofs.tables.text_from.Goals as goal

pub returns-in_err-put_later-clause-told : goal.returns-in_err-put_later-clause-told
returns-in_err-put_later-clause-told c =
    let error = c.in_err-put_later.field-0.0 in
    let is : c.from_residual-in_err-put_later.result ≡ Err error = search rules in
    rw is (later_reason c.args.size c.table_limit-most.result c.args.query (rows_in c.args.tree.now) (source_at c.args.tree.now) c.args.first c.args.later.now
    c.table_limit-most.ensures c.loop-number.number-index c.loop-number.text.items error c.loop-number-test.true c.loop-number.invariant.text c.loop-number.invariant.within
    c.in_err-put_later.ensures.told)
