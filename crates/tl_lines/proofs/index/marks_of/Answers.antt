use Rattle.std.proofs.Common.{List, ap, arith, drop, length, subst, sym, take, ◌*◌, ◌+◌, ◌-◌, ◌∙◌, ◌≡◌, ◌∷◌, [], ℕ}
use Rattle.std.proofs.lemmas.List.{length-append}
use Rattle.tl_lines.proofs.Passed.{behind-mark, column-at-most, drop-further, line-most, one-more}
use Rattle.tl_lines.specs.Inner.Marks.{AreMarks, at}
use Rattle.tl_lines.specs.declared.position.Position.{Position}
use Rattle.tl_lines.proofs.index.marks_of.Goals as goal

pub behind-position-requires : goal.behind-position-requires
behind-position-requires c =
    let text : List ℕ = c.args.text.now in
    let m : ℕ = (length c.loop-rest.marks.items - 1) * 1024 in
    let line = ap (λ (p : Position). p.line) c.loop-rest.invariant.here in
    let column = ap (λ (p : Position). p.column) c.loop-rest.invariant.here in
    let most = line-most text m in
    let column_most = column-at-most text m in
    let count = c.loop-rest.invariant.count in
    let front = c.split_at.ensures.front_len in
    (omega (arith, line, most, count, front), omega (arith, column, column_most, count, front))

pub loop-rest-preserved : goal.loop-rest-preserved
loop-rest-preserved c =
    let text : List ℕ = c.args.text.now in
    let marks : List Position = c.loop-rest.marks.items in
    let some = c.loop-rest.invariant.some in
    let p = c.behind-position.result in
    let pushed = c.in_ok-push-2.ensures.items in
    let more = length-append marks (p ∷ []) in
    let longer = ap (λ (ps : List Position). length ps) pushed in
    let further : (length marks - 1) * 1024 + 1024 ≡ length marks * 1024 = omega (arith, some) in
    let now : length marks ≡ length c.push-in-loop-rest.new.self.items - 1 = omega (arith, more, longer) in
    let here : p ≡ at text (length marks * 1024) =
    behind-mark text ((length marks - 1) * 1024) 1024 c.loop-rest.position p c.split_at.result.0.now c.loop-rest.invariant.here
    (c.split_at.ensures.front ∙ ap (λ s. take 1024 s) c.loop-rest.invariant.left)
    c.behind-position.ensures.line c.behind-position.ensures.column
    ∙ ap (at text) further in
    let front = c.split_at.ensures.front_len in
    let back = c.split_at.ensures.back_len in
    let count = c.loop-rest.invariant.count in
    let same = ap (λ k. k * 1024) now in
    record {
      some = omega (arith, more, longer);
      known = subst (AreMarks 1024 text) (sym pushed) (one-more 1024 text marks p c.loop-rest.invariant.known here);
      here = here ∙ ap (λ k. at text (k * 1024)) now;
      left = c.split_at.ensures.back ∙ ap (λ s. drop 1024 s) c.loop-rest.invariant.left ∙ sym (drop-further text ((length marks - 1) * 1024) 1024) ∙ ap (λ k. drop k text) (further ∙ same);
      count = omega (arith, count, back, same, further);
    }
