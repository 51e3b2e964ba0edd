use Rattle.std.proofs.Common.{List, subst, ℕ}
use Rattle.std.specs.Prelude.{IfOk}
use Rattle.tl_answers.proofs.Written.{told_by}
use Rattle.tl_answers.specs.Meant.{TellsIf, is_asked}
use Rattle.tl_tree.specs.TreeView.{rows_in}
use Rattle.tl_tree_select.specs.Page.{page_of}
use Rattle.tl_answers.proofs.edit.Edit.meant.Goals as goal

pub returns-clause-told : goal.returns-clause-told
returns-clause-told c =
    let own = c.args.self.now in
    let old = c.args.old.now in
    let text : List ℕ = c.args.text.now in
    told_by own c.args.selector.now (page_of old) c.in_ok-numbers.numbers.items text c.meant_of.result c.in_ok-numbers.ensures
    (subst (λ (ns : List ℕ). IfOk c.meant_of.result (TellsIf (is_asked own (rows_in old) ns) own (rows_in old) old.is_quirks ns text)) c.as_slice.ensures.value c.meant_of.ensures.told)
