use Rattle.std.proofs.Common.{sym, ◌∙◌}
use Rattle.tl_text.proofs.Rows.{amp, gt, lt, nbsp, quot}
use Rattle.tl_text.proofs.names.common_row.Goals as goal

pub returns-then-starts_with-clause-row : goal.returns-then-starts_with-clause-row
returns-then-starts_with-clause-row c = amp c.args.bytes.now (sym c.starts_with.ensures.value ∙ c.if-starts_with.true)

pub returns-then-starts_with-2-clause-row : goal.returns-then-starts_with-2-clause-row
returns-then-starts_with-2-clause-row c = lt c.args.bytes.now (sym c.starts_with-2.ensures.value ∙ c.if-starts_with-2.true)

pub returns-then-starts_with-3-clause-row : goal.returns-then-starts_with-3-clause-row
returns-then-starts_with-3-clause-row c = gt c.args.bytes.now (sym c.starts_with-3.ensures.value ∙ c.if-starts_with-3.true)

pub returns-then-starts_with-4-clause-row : goal.returns-then-starts_with-4-clause-row
returns-then-starts_with-4-clause-row c = quot c.args.bytes.now (sym c.starts_with-4.ensures.value ∙ c.if-starts_with-4.true)

pub returns-then-starts_with-5-clause-row : goal.returns-then-starts_with-5-clause-row
returns-then-starts_with-5-clause-row c = nbsp c.args.bytes.now (sym c.starts_with-5.ensures.value ∙ c.if-starts_with-5.true)
