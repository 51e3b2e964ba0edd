use Rattle.std.proofs.Common.{List, ap, arith, drop, sym, ◌+◌, ◌∙◌, ◌≡◌, ℕ}
use Rattle.tl_lines.proofs.Passed.{column-found, column-left, feeds-found, feeds-none}
use Rattle.tl_lines.specs.Inner.Marks.{column_behind}
use Rattle.tl_lines.specs.Lines.{line_feeds}
use Rattle.tl_lines.proofs.position.Position.behind.Goals as goal

pub loop-at-preserved : goal.loop-at-preserved
loop-at-preserved c =
    let s : List ℕ = c.loop-at.rest.now in
    let k : ℕ = c.in-Some.at in
    let line = c.loop-at.invariant.line in
    let feeds = feeds-found s k c.in-Some.ensures in
    let same : line_feeds c.split_at.result.1.now ≡ line_feeds (drop (k + 1) s) = ap (λ l. line_feeds l) c.split_at.ensures.back in
    let line_fits = c.loop-at.invariant.line_fits in
    let column_fits = c.loop-at.invariant.column_fits in
    let shorter = c.split_at.ensures.back_len in
    let inside = c.in-Some.ensures.0.high in
    record {
      line = omega (arith, line, feeds, same);
      column = ap (column_behind 1) c.split_at.ensures.back ∙ sym (column-found s k c.in-Some.ensures c.loop-at.column) ∙ c.loop-at.invariant.column;
      line_fits = omega (arith, line_fits, shorter, inside);
      column_fits = omega (arith, column_fits, shorter, inside);
    }

pub returns-clause-line : goal.returns-clause-line
returns-clause-line c =
    let line = c.loop-at.invariant.line in
    let none = feeds-none c.loop-at.rest.now c.in_default.ensures in
    omega (arith, line, none)

pub returns-clause-column : goal.returns-clause-column
returns-clause-column c =
    ap (λ n. c.loop-at.column + n) c.characters.ensures.count
    ∙ sym (column-left c.loop-at.rest.now c.in_default.ensures c.loop-at.column)
    ∙ c.loop-at.invariant.column
