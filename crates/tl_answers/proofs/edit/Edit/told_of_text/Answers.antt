use Rattle.std.proofs.Common.{rules, List, subst, ℕ, ◌↔◌, ◌≡◌}
use Rattle.std.specs.Bool.{IsTrue}
use Rattle.std.specs.Prelude.{IfOk}
use Rattle.tl_answers.proofs.Edits.{read_refused}
use Rattle.tl_answers.proofs.Written.{told_fails, told_where}
use Rattle.tl_answers.specs.Meant.{IsDoneIn, told_of}
use Rattle.tl_answers.specs.Pages.{page_rows}
use Rattle.tl_tree.specs.Rows.{Row}
use Rattle.tl_tree.specs.TreeView.{rows_in}
use Rattle.tl_answers.proofs.edit.Edit.told_of_text.Goals as goal

pub returns-in-Ok-clause-told : goal.returns-in-Ok-clause-told
returns-in-Ok-clause-told c =
    let own = c.args.self.now in
    let old = c.args.old.now in
    let text : List ℕ = c.args.text.now in
    let answer = c.is_done_in.result in
    let rows : rows_in c.in-Ok.new ≡ page_rows text = search rules in
    let is : c.told.result ≡ told_of answer = c.told.ensures in
    rw is (told_where own (rows_in old) old.is_quirks c.args.numbers.now text answer
    (subst (λ (rs : List Row). IfOk answer (λ b. IsTrue b ↔ IsDoneIn own (rows_in old) old.is_quirks c.args.numbers.now rs)) rows c.is_done_in.ensures.made)
    c.is_done_in.ensures.unmade)

pub returns-in-Ok-clause-memory : goal.returns-in-Ok-clause-memory
returns-in-Ok-clause-memory c =
    let is : c.told.result ≡ told_of c.is_done_in.result = c.told.ensures in
    rw is (told_fails c.is_done_in.result)

pub returns-in-Err-clause-told : goal.returns-in-Err-clause-told
returns-in-Err-clause-told c =
    read_refused c.args.text.now c.read.result c.in-Err.error c.in-Err.is (λ at h. search (rules, h)) (λ at h. search (rules, h))
