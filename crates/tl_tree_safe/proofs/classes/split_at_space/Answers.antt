use Rattle.std.proofs.Common.{false, sym, take_all, ◌∙◌, ◌≡◌}
use Rattle.std.proofs.lemmas.List.{take_rest}
use Rattle.std.proofs.lemmas.List.Elements.{All-more}
use Rattle.tl_tree_safe.proofs.ClassWords.{cut_at, uncut}
use Rattle.tl_tree_safe.specs.Characters.{is_space}
use Rattle.tl_tree_safe.proofs.classes.split_at_space.Goals as goal

pub returns-then-is_space-clause-words : goal.returns-then-is_space-clause-words
returns-then-is_space-clause-words c =
    rw take_rest (cut_at c.args.value.now c.loop-at.at 0 c.loop-at-test.true (sym c.is_space.ensures ∙ c.if-is_space.true) c.loop-at.invariant)

pub loop-at-preserved : goal.loop-at-preserved
loop-at-preserved c =
    All-more (λ x. is_space x ≡ false) c.args.value.now c.loop-at.at 0 c.loop-at-test.true c.loop-at.invariant (sym c.is_space.ensures ∙ c.if-is_space.false)

pub returns-clause-words : goal.returns-clause-words
returns-clause-words c = uncut c.args.value.now (rw (take_all _ _ c.loop-at-test.false) at c.loop-at.invariant)
