use Rattle.std.proofs.Common.{ℕ, ◌++◌, List, ap, sym, ◌∙◌, append_assoc}
use Rattle.std.proofs.lemmas.List.{append-nil}
use Rattle.tl_css.specs.Lexical.{run_at}
use Rattle.tl_css.specs.TextView.{part_bytes}
use Rattle.tl_css.proofs.Runs.{part_lt, run_none, run_some}
use Rattle.tl_css.proofs.text.run.run_text.Goals as goal

pub parts-smaller : goal.parts-smaller
parts-smaller c = part_lt _ _ _ c.in-Some.ensures

pub parts-preserved : goal.parts-preserved
parts-preserved c =
    let rest = (run_at c.args.quote c.in-Some.rest.now).0 in
    ap (λ (t : List ℕ). t ++ rest) c.in_ok-push.ensures
    ∙ (append_assoc c.parts.text.items (part_bytes c.in-Some.part) rest
    ∙ (ap (λ (t : List ℕ). c.parts.text.items ++ t) (sym (ap (λ (r : List ℕ × List ℕ). r.0) (run_some _ _ _ c.in-Some.ensures)))
    ∙ c.parts.invariant))

pub returns : goal.returns
returns c =
    sym (append-nil c.parts.text.items)
    ∙ (ap (λ (r : List ℕ × List ℕ). c.parts.text.items ++ r.0) (sym (run_none _ _ c.in_default.ensures)) ∙ c.parts.invariant)
