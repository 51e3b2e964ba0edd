use Rattle.std.proofs.Common.{List, ap, append-nil, append_assoc, length, subst, sym, ◌++◌, ◌<◌, ◌∙◌, ℕ}
use Rattle.tl_tree.specs.Rows.{Row}
use Rattle.tl_tree.specs.TreeView.{rows_in}
use Rattle.tl_tree_safe.proofs.OpenElements.{all_left, fewer, none_written, one_left, one_written}
use Rattle.tl_tree_safe.specs.Inner.Walk.{Spot, ended, ends_written, innermost_end, outside_one, spot_of}
use Rattle.tl_tree_safe.proofs.writer.Writer.end_before.Goals as goal

pub loop-self-preserved : goal.loop-self-preserved
loop-self-preserved c =
    let R : List Row = rows_in c.args.tree.now in
    let n : ℕ = c.args.number in
    let s : Spot = spot_of c.loop-self.self in
    let o : List ℕ = c.loop-self.out.items in
    let yes = sym c.ends_before.ensures ∙ c.loop-self-test.true in
    let left = c.in_ok-end_innermost.ensures.spot in
    record {
      written = c.loop-self.invariant.written
          ∙ ap (λ x. o ++ x) (one_written R n s.level s.opens yes)
          ∙ sym (append_assoc o (innermost_end R s.opens) (ends_written R n (outside_one s.level s.opens).opens))
          ∙ ap (λ x. x ++ ends_written R n (outside_one s.level s.opens).opens) (sym c.in_ok-end_innermost.ensures.text)
          ∙ ap (λ (v : Spot). c.end_innermost.new.out.items ++ ends_written R n v.opens) (sym left);
      left = c.loop-self.invariant.left ∙ one_left n s.level s.fresh s.opens yes ∙ ap (ended n) (sym left);
    }

pub loop-self-smaller : goal.loop-self-smaller
loop-self-smaller c =
    let s : Spot = spot_of c.loop-self.self in
    let yes = sym c.ends_before.ensures ∙ c.loop-self-test.true in
    subst (λ (v : Spot). length v.opens < length s.opens) (sym c.in_ok-end_innermost.ensures.spot) (fewer c.args.number s.level s.opens yes)

pub returns-clause-text : goal.returns-clause-text
returns-clause-text c =
    let R : List Row = rows_in c.args.tree.now in
    let s : Spot = spot_of c.loop-self.self in
    let o : List ℕ = c.loop-self.out.items in
    let no = sym c.ends_before.ensures ∙ c.loop-self-test.false in
    sym (c.loop-self.invariant.written ∙ ap (λ x. o ++ x) (none_written R c.args.number s.opens no) ∙ append-nil o)

pub returns-clause-spot : goal.returns-clause-spot
returns-clause-spot c =
    let s : Spot = spot_of c.loop-self.self in
    let no = sym c.ends_before.ensures ∙ c.loop-self-test.false in
    sym (c.loop-self.invariant.left ∙ all_left c.args.number s.level s.fresh s.opens no)
