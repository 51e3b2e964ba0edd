use Rattle.std.proofs.Common.{List, ap, append_assoc, arith, sym, ◌++◌, ◌∙◌, ℕ}
use Rattle.tl_html_print.proofs.Laid.{laid_more, step_depth}
use Rattle.tl_html_print.specs.Inner.Lines.{laid_from, step_lines}
use Rattle.tl_html_print.specs.declared.pretty.spot.Spot.{Spot}
use Rattle.tl_tree.specs.Rows.{Row}
use Rattle.tl_tree.specs.TreeView.{rows_in}
use Rattle.tl_html_print.proofs.pretty.walk.write_lines.Goals as goal

pub loop-number-preserved : goal.loop-number-preserved
loop-number-preserved c =
    let R : List Row = rows_in c.args.tree.now in
    let s = c.args.is_scripting in
    let n : ℕ = c.loop-number.number in
    let o : List ℕ = c.loop-number.out.items in
    let opened = c.is_opened-is_opened.result in
    let next : ℕ = c.next_of-next.result in
    let spot : Spot = c.loop-number.spot in
    let less = c.loop-number-test.true in
    let len = c.len.ensures in
    record {
      written = c.loop-number.invariant.written
          ∙ ap (λ x. o ++ x) (laid_more s R n spot opened next (omega (arith, less, len)) c.is_opened-is_opened.ensures (c.next_of-next.ensures.value))
          ∙ ap (λ v. o ++ (step_lines s R n opened next spot ++ laid_from s R next v)) (sym c.in_ok-spot.ensures.spot)
          ∙ sym (append_assoc o (step_lines s R n opened next spot) (laid_from s R next c.in_ok-spot.spot))
          ∙ ap (λ x. x ++ laid_from s R next c.in_ok-spot.spot) (sym c.in_ok-spot.ensures.text);
      depth = (
          let h = step_depth R n opened next spot c.loop-number.invariant.depth c.next_of-next.ensures.further in
          let e = ap (λ (v : Spot). v.depth) c.in_ok-spot.ensures.spot in
          omega (arith, h, e));
    }
