use Rattle.std.proofs.Common.{List, ap, map, sym, ◌∙◌, ℕ}
use Rattle.std.specs.Char.{to_ascii_lowercase}
use Rattle.std.specs.Str.{bytes_eq}
use Rattle.tl_tree.proofs.ForeignTags.{cased-here, cased-later}
use Rattle.tl_tree.proofs.foreign_words.cased.Goals as goal

pub returns-then-is_lowered-clause-found : goal.returns-then-is_lowered-clause-found
returns-then-is_lowered-clause-found c =
    c.loop-word.invariant
    ∙ (cased-here c.args.words.now c.loop-word.word-index c.args.name.now c.loop-word-test.true
    (sym (ap (λ (word : List ℕ). bytes_eq (map to_ascii_lowercase word) c.args.name.now) c.as_bytes.ensures.value) ∙ (sym c.is_lowered.ensures ∙ c.if-is_lowered.true))
    ∙ sym c.as_bytes-then-is_lowered.ensures.value)

pub loop-word-preserved : goal.loop-word-preserved
loop-word-preserved c =
    c.loop-word.invariant
    ∙ cased-later c.args.words.now c.loop-word.word-index c.args.name.now c.loop-word-test.true
    (sym (ap (λ (word : List ℕ). bytes_eq (map to_ascii_lowercase word) c.args.name.now) c.as_bytes.ensures.value) ∙ (sym c.is_lowered.ensures ∙ c.if-is_lowered.false))
