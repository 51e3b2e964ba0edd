use Rattle.std.proofs.Common.{IfSome, List, Option, ap, length, subst, sym, ℕ, ◌∙◌}
use Rattle.tl_tree.specs.TreeView.{rows_in}
use Rattle.tl_tree_edit.proofs.ReadOnce.{pushed_keeps, read_alike, read_last, read_more}
use Rattle.tl_tree_edit.specs.Inner.Contexts.{IsReadAlike}
use Rattle.tl_tree_edit.specs.declared.readings.Reading.{Reading}
use Rattle.tl_tree_edit.proofs.readings.reading_at.Goals as goal

pub returns-in-Some-clause-own : goal.returns-in-Some-clause-own
returns-in-Some-clause-own c =
    read_alike (rows_in c.args.tree.now) c.args.tree.now.is_quirks c.args.is_adjacent c.args.markup.now c.args.readings.now.items c.args.seat c.in-Some.number c.requires
    (subst (λ (rs : List Reading). IsReadAlike (rows_in c.args.tree.now) c.args.is_adjacent rs c.args.seat c.in-Some.number) c.as_slice.ensures.value
    (subst (λ (o : Option ℕ). IfSome o (IsReadAlike (rows_in c.args.tree.now) c.args.is_adjacent c.as_slice.result.now c.args.seat)) c.in-Some.is c.find_alike.ensures))

pub returns-clause-read : goal.returns-clause-read
returns-clause-read c =
    read_more (rows_in c.args.tree.now) c.args.tree.now.is_quirks c.args.is_adjacent c.args.markup.now c.args.readings.now.items c.push.new.self.items
    (record { seat = c.args.seat; trees = c.in_ok-trees.trees }) c.in_ok-push.ensures.items c.requires c.in_ok-trees.ensures

pub returns-clause-kept : goal.returns-clause-kept
returns-clause-kept c =
    pushed_keeps c.args.readings.now.items c.push.new.self.items (record { seat = c.args.seat; trees = c.in_ok-trees.trees }) c.in_ok-push.ensures.items

pub returns-clause-own : goal.returns-clause-own
returns-clause-own c =
    read_last (rows_in c.args.tree.now) c.args.tree.now.is_quirks c.args.is_adjacent c.args.markup.now c.args.readings.now.items c.push.new.self.items
    (record { seat = c.args.seat; trees = c.in_ok-trees.trees }) c.len-number.result c.in_ok-push.ensures.items
    (c.len-number.ensures ∙ (sym c.as_slice.ensures.len ∙ ap length c.as_slice.ensures.value)) c.in_ok-trees.ensures
