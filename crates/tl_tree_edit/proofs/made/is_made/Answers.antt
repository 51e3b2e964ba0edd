use Rattle.std.proofs.Common.{IfErr, IfOk, subst, sym, ◌↔◌}
use Rattle.std.specs.Bool.{IsTrue}
use Rattle.tl_tree.specs.TreeView.{rows_in}
use Rattle.tl_tree_edit.proofs.Unread.{made_of, unmade_of}
use Rattle.tl_tree_edit.specs.Operations.{IsMade}
use Rattle.tl_tree_edit.specs.Unmade.{IsUnmade}
use Rattle.tl_tree_edit.specs.View.{operation_of}
use Rattle.tl_tree_edit.specs.declared.operation.Operation.{Operation}
use Rattle.tl_tree_edit.proofs.made.is_made.Goals as goal

pub returns-in-Each-clause-made : goal.returns-in-Each-clause-made
returns-in-Each-clause-made c =
    subst
    (λ (o : Operation). IfOk c.has_changed.result (λ is. IsTrue is ↔ IsMade (rows_in c.args.old.now) c.args.old.now.is_quirks c.args.numbers.now (operation_of o) (rows_in c.args.new.now)))
    (sym c.in-Each.is) (made_of c.has_changed.result _ _ c.has_changed.ensures)

pub returns-in-Each-clause-unmade : goal.returns-in-Each-clause-unmade
returns-in-Each-clause-unmade c =
    subst
    (λ (o : Operation). IfErr c.has_changed.result (IsUnmade (rows_in c.args.old.now) c.args.old.now.is_quirks c.args.numbers.now (operation_of o)))
    (sym c.in-Each.is) (unmade_of c.has_changed.result _ _ c.has_changed.ensures)

pub returns-in-Markup-clause-made : goal.returns-in-Markup-clause-made
returns-in-Markup-clause-made c =
    subst
    (λ (o : Operation). IfOk c.has_put.result (λ is. IsTrue is ↔ IsMade (rows_in c.args.old.now) c.args.old.now.is_quirks c.args.numbers.now (operation_of o) (rows_in c.args.new.now)))
    (sym c.in-Markup.is) (made_of c.has_put.result _ _ c.has_put.ensures)

pub returns-in-Markup-clause-unmade : goal.returns-in-Markup-clause-unmade
returns-in-Markup-clause-unmade c =
    subst
    (λ (o : Operation). IfErr c.has_put.result (IsUnmade (rows_in c.args.old.now) c.args.old.now.is_quirks c.args.numbers.now (operation_of o)))
    (sym c.in-Markup.is) (unmade_of c.has_put.result _ _ c.has_put.ensures)
