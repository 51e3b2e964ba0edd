use Rattle.std.proofs.Common.{ℕ, List, ap, sym, ◌∙◌}
use Rattle.tl_css.proofs.Runs.{part_lt, run_none, run_some}
use Rattle.tl_css.proofs.text.run.past_run.Goals as goal

pub parts-smaller : goal.parts-smaller
parts-smaller c = part_lt _ _ _ c.in-Some.ensures

pub parts-preserved : goal.parts-preserved
parts-preserved c = sym (ap (λ (r : List ℕ × List ℕ). r.1) (run_some _ _ _ c.in-Some.ensures)) ∙ c.parts.invariant

pub returns : goal.returns
returns c = sym (ap (λ (r : List ℕ × List ℕ). r.1) (run_none c.args.quote c.parts.left.now c.in_default.ensures)) ∙ c.parts.invariant
