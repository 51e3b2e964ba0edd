use Rattle.std.proofs.Common.{subst, ℕ}
use Rattle.tl_patch_select.specs.Inner.InOrder.{BeginBehind, EndBefore}
use Rattle.tl_patch_select.specs.Selected.{place_of}
use Rattle.tl_patch_select.specs.Whole.{end_of}
use Rattle.tl_patch_select.proofs.InOrder.{whole_in_order}
use Rattle.tl_patch_select.proofs.in_order.is_whole_in.Goals as goal

pub returns : goal.returns
returns c = λ e tail.
    let places = place_of c.args.tree.now in
    whole_in_order places tail c.args.number (end_of c.args.tree.now c.args.number) c.args.stretch c.requires.in_order c.requires.begins
    (subst (λ (n : ℕ). EndBefore places c.args.number n c.args.stretch.end) c.end_of-end.ensures (c.end_before-ends.ensures c.if-not-ends.false))
    (subst (λ (n : ℕ). BeginBehind places n c.args.stretch.end) c.end_of-end.ensures (c.begin_behind.ensures e))
