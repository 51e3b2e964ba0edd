use Rattle.std.proofs.Common.{List, ap, append_assoc, subst, ℕ, ◌++◌, ◌∙◌, ◌≡◌}
use Rattle.std.proofs.lemmas.Result.{on_ok_weaker}
use Rattle.std.specs.Prelude.{IfErr}
use Rattle.tl_answers.specs.Inner.Tables.{IsTooLong}
use Rattle.tl_answers.specs.Tables.{gap, table_text}
use Rattle.tl_tree.specs.Sources.{source_at}
use Rattle.tl_tree.specs.TreeView.{rows_in}
use Rattle.tl_answers.proofs.tables.put_later.Goals as goal

pub returns-clause-written : goal.returns-clause-written
returns-clause-written c =
    let old : List ℕ = c.args.text.now.items in
    let between : List ℕ = gap c.args.query.form in
    let own : List ℕ = table_text c.args.query.form c.args.query.spans (rows_in c.args.tree.now) c.args.number in
    on_ok_weaker c.put_table.result (λ e. e ∙ ap (λ (v : List ℕ). v ++ own) c.in_ok-put_gap.ensures ∙ append_assoc old between own) c.put_table.ensures.written

pub returns-clause-told : goal.returns-clause-told
returns-clause-told c =
    let old : List ℕ = c.args.text.now.items in
    let between : List ℕ = gap c.args.query.form in
    let own : List ℕ = table_text c.args.query.form c.args.query.spans (rows_in c.args.tree.now) c.args.number in
    subst (λ (v : List ℕ). IfErr c.put_table.result (IsTooLong c.args.most v (source_at c.args.tree.now c.args.number)))
    (ap (λ (v : List ℕ). v ++ own) c.in_ok-put_gap.ensures ∙ append_assoc old between own)
    c.put_table.ensures.told
