use Rattle.std.proofs.Common.{arith, length}
use Rattle.std.proofs.lemmas.Bool.{lt-ltb}
use Rattle.tl_tree.specs.TreeView.{rows_in}
use Rattle.tl_tree_edit.proofs.Places.{inside}
use Rattle.tl_tree_edit.proofs.forms.Forms.is_inside.Goals as goal
use Rattle.tl_tree_edit.proofs.forms.Forms.is_inside.Goals.{then-number-self, else-number-self}

pub loop-self-init : goal.loop-self-init
loop-self-init c =
    elim c.if-number-self.branch [
      | then-number-self w ↦ rw w.self-is (record { forms = w.new.ensures.forms; within = rw w.new.ensures.next (omega arith) })
      | else-number-self w ↦ rw w.self-is (record { forms = c.requires.forms; within = omega (arith, w.if-number-self) })
    ]

pub returns-clause-is : goal.returns-clause-is
returns-clause-is c =
    inside (rows_in c.args.tree.now) c.args.number c.loop-self.self.next c.loop-self.self.end
    (lt-ltb c.args.number (length (rows_in c.args.tree.now)) (omega (arith, c.len.ensures, c.if-number-len.false)))
    (omega (arith, c.loop-self-test.false, c.loop-self.invariant.within))
    c.loop-self.invariant.forms
