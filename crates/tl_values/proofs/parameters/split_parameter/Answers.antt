use Rattle.std.proofs.Common.{eq-eqb, false, length, sym, take_all, ◌∙◌, ◌≡◌}
use Rattle.std.proofs.lemmas.Bool.{ne_eqb}
use Rattle.std.proofs.lemmas.List.{take_rest}
use Rattle.std.proofs.lemmas.List.Elements.{All-more}
use Rattle.tl_values.proofs.Splits.{cut_at, is_mark, uncut}
use Rattle.tl_values.proofs.parameters.split_parameter.Goals as goal

pub returns-then-byte-eq38-clause-parts : goal.returns-then-byte-eq38-clause-parts
returns-then-byte-eq38-clause-parts c =
    rw take_rest (cut_at c.args.query.now c.loop-at.at 0 c.loop-at-test.true (eq-eqb _ _ c.if-byte-eq38.true) c.loop-at.invariant)

pub loop-at-preserved : goal.loop-at-preserved
loop-at-preserved c =
    All-more (λ x. is_mark x ≡ false) c.args.query.now c.loop-at.at 0 c.loop-at-test.true c.loop-at.invariant (ne_eqb _ _ c.if-byte-eq38.false)

pub returns-clause-parts : goal.returns-clause-parts
returns-clause-parts c = uncut c.args.query.now (rw (take_all _ _ c.loop-at-test.false) at c.loop-at.invariant)
