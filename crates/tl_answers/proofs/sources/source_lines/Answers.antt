use Rattle.std.proofs.Common.{List, ap, arith, get_or, length, rules, ℕ, ◌++◌, ◌<◌, ◌∙◌, ◌≡◌}
use Rattle.std.specs.HashMap.{get}
use Rattle.std.specs.Prelude.{nat_eq}
use Rattle.tl_answers.proofs.Joined.{flat_map_next}
use Rattle.tl_answers.specs.SourceLines.{end_from, source_line}
use Rattle.tl_patch_edit.specs.Stretches.{stretches}
use Rattle.tl_patch_edit.specs.declared.reach.Stretch.{Stretch}
use Rattle.tl_tree.specs.Sources.{source_at}
use Rattle.tl_answers.proofs.sources.source_lines.Goals as goal

pub loop-number-preserved : goal.loop-number-preserved
loop-number-preserved c =
    let elements : List Stretch = stretches c.args.page.now in
    let line : ℕ → List ℕ = source_line c.args.end.now c.args.page.now elements (source_at c.args.tree.now) in
    let numbers = c.args.numbers.now in
    let i = c.loop-number.number-index in
    let within : i < length numbers = omega (arith, c.loop-number-test.true) in
    let lent : c.deref.result.now ≡ elements = search rules in
    let ended : (place : ℕ) → get nat_eq c.in_ok-ends.ends.ends place ≡ end_from elements place =
    λ place. c.in_ok-ends.ensures place ∙ ap (λ (own : List Stretch). end_from own place) lent in
    c.in_ok-put_source.ensures elements ended ∙ ap (λ (lines : List ℕ). lines ++ line (get_or numbers i 0)) c.loop-number.invariant
    ∙ flat_map_next line numbers i within
