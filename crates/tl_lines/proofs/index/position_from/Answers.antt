use Rattle.std.proofs.Common.{List, ap, arith, length, take, ◌*◌, ◌+◌, ◌-◌, ◌/◌, ◌∙◌, ◌≡◌, ◌≤◌, ℕ}
use Rattle.std.specs.Prelude.{min}
use Rattle.tl_lines.proofs.Passed.{behind-mark, column-at-most, line-most, take-least}
use Rattle.tl_lines.specs.Inner.Marks.{at}
use Rattle.tl_lines.specs.Lines.{characters, last_line, line_feeds}
use Rattle.tl_lines.specs.declared.position.Position.{Position}
use Rattle.tl_lines.proofs.index.position_from.Goals as goal
use Rattle.tl_lines.proofs.index.position_from.Goals.{After-behind, After-behind-arg-1}

pub behind-requires : goal.behind-requires
behind-requires c =
    let text : List ℕ = c.args.text.now in
    let end : ℕ = c.min-end.result in
    let found = c.in-Some.ensures.lookup.3 in
    let here : c.in-Some.mark.now ≡ at text (end / 1024 * 1024) = found.1 (at text 0) ∙ c.requires (end / 1024) found.0 in
    let line = ap (λ (p : Position). p.line) here in
    let column = ap (λ (p : Position). p.column) here in
    let most = line-most text (end / 1024 * 1024) in
    let column_most = column-at-most text (end / 1024 * 1024) in
    let front = c.split_at-2.ensures.front_len in
    let back = c.split_at.ensures.back_len in
    (omega (arith, line, most, front, back), omega (arith, column, column_most, front, back))

place : (c : After-behind) → c.behind.result ≡ at c.args.text.now c.args.offset
place c =
    let text : List ℕ = c.args.text.now in
    let end : ℕ = c.min-end.result in
    let start : ℕ = end / 1024 * 1024 in
    let found = c.in-Some.ensures.lookup.3 in
    let here : c.in-Some.mark.now ≡ at text start = found.1 (at text 0) ∙ c.requires (end / 1024) found.0 in
    let least : end ≡ min c.args.offset (length text) = c.min-end.ensures in
    let low : start ≤ end = omega arith in
    let whole : start + (end - start) ≡ end = omega (arith, low) in
    behind-mark text start (end - start) c.in-Some.mark.now c.behind.result c.split_at-2.result.0.now here
    (c.split_at-2.ensures.front ∙ ap (λ s. take (end - start) s) c.split_at.ensures.back)
    c.behind.ensures.line c.behind.ensures.column
    ∙ ap (at text) whole
    ∙ ap (λ front. record { line = 1 + line_feeds front; column = 1 + characters (last_line front) }) (ap (λ k. take k text) least ∙ take-least text c.args.offset)

pub returns-clause-line : goal.returns-clause-line
returns-clause-line c = ap (λ (p : Position). p.line) (place c)

pub returns-clause-column : goal.returns-clause-column
returns-clause-column c = ap (λ (p : Position). p.column) (place c)
