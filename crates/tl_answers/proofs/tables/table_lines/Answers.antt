use Rattle.std.proofs.Common.{Err, List, ap, rules, ℕ, ◌∙◌, ◌≡◌}
use Rattle.tl_answers.proofs.Tabled.{asked_reason}
use Rattle.tl_answers.specs.Tables.{numbered}
use Rattle.tl_tree.specs.Sources.{source_at}
use Rattle.tl_tree_select.specs.Page.{page_of}
use Rattle.tl_answers.proofs.tables.table_lines.Goals as goal

pub returns-in_err-text-clause-told : goal.returns-in_err-text-clause-told
returns-in_err-text-clause-told c =
    let error = c.in_err-text.field-0.0 in
    let is : c.from_residual-in_err-text.result ≡ Err error = search rules in
    rw is (asked_reason c.args.size c.args.query (page_of c.args.tree.now) (source_at c.args.tree.now) c.numbered-asked.result.now
    (λ found selected. c.numbered-asked.ensures ∙ ap (λ (ts : List ℕ). numbered c.args.query.number ts) (c.as_slice.ensures.value ∙ c.in_ok-tables.ensures found selected))
    error c.in_err-text.ensures.told)
