use Rattle.std.proofs.Common.{List, ap, append_assoc, arith, sym, ◌++◌, ◌∙◌, ◌≡◌, ℕ}
use Rattle.tl_html_print.proofs.Printing.{print_more}
use Rattle.tl_html_print.specs.Inner.Printed.{closed, opened_at, printed_from, upwards}
use Rattle.tl_tree.specs.Rows.{Row}
use Rattle.tl_tree.specs.TreeView.{rows_in}
use Rattle.tl_html_print.proofs.rows.write_rows.Goals as goal

regroup : (o a b c : List ℕ) → o ++ (a ++ (b ++ c)) ≡ ((o ++ a) ++ b) ++ c
regroup o a b c = sym (append_assoc (o ++ a) b c ∙ append_assoc o a (b ++ c))

pub loop-number-preserved : goal.loop-number-preserved
loop-number-preserved c =
    let R : List Row = rows_in c.args.tree.now in
    let s = c.args.is_scripting in
    let first : ℕ = c.args.first in
    let end : ℕ = c.args.end in
    let n : ℕ = c.loop-number.number in
    let o : List ℕ = c.loop-number.out.items in
    let value = c.behind-next.ensures.value in
    let further = c.behind-next.ensures.further in
    let begun = c.loop-number.invariant.begun in
    let next : ℕ = c.behind-next.result in
    record {
      begun = omega (arith, further, begun);
      written = c.loop-number.invariant.written
          ∙ ap (λ x. o ++ x) (print_more s R first end n (omega arith)
          ∙ ap (λ k. opened_at s R n ++ (closed R first k (upwards R n) ++ printed_from s R first end k)) (sym value))
          ∙ regroup o (opened_at s R n) (closed R first next (upwards R n)) (printed_from s R first end next)
          ∙ ap (λ x. (x ++ closed R first next (upwards R n)) ++ printed_from s R first end next) (sym c.in_ok-write_node.ensures)
          ∙ ap (λ x. x ++ printed_from s R first end next) (sym c.in_ok-close.ensures);
    }
