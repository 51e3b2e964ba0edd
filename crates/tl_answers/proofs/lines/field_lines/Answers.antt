use Rattle.std.proofs.Common.{List, ap, arith, get_or, length, ℕ, ◌++◌, ◌<◌, ◌∙◌}
use Rattle.tl_answers.specs.Lines.{field_line}
use Rattle.tl_answers.proofs.Joined.{flat_map_next}
use Rattle.tl_answers.proofs.lines.field_lines.Goals as goal

pub loop-number-preserved : goal.loop-number-preserved
loop-number-preserved c = λ trees same.
    let line : ℕ → List ℕ = field_line c.args.field c.args.end.now trees in
    let numbers = c.args.numbers.now in
    let i = c.loop-number.number-index in
    let within : i < length numbers = omega (arith, c.loop-number-test.true) in
    c.in_ok-put_line.ensures trees same ∙ ap (λ (lines : List ℕ). lines ++ line (get_or numbers i 0)) (c.loop-number.invariant trees same)
    ∙ flat_map_next line numbers i within
