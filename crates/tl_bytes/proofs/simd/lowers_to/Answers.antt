use Rattle.std.proofs.Common.{ℕ, ◌∙◌, eqb, rules, tests, arith}
use Rattle.std.specs.Char.{to_ascii_lowercase}
use Rattle.std.proofs.lemmas.Iterator.{YieldsList-from_slice, YieldsList-from_zip}
use Rattle.std.proofs.lemmas.Iterator.Search.{all_from_yields_List}
use Rattle.tl_bytes.proofs.Searches.{list_all-zip}
use Rattle.tl_bytes.proofs.simd.lowers_to.Goals as goal

pub returns-then-text-lower : goal.returns-then-text-lower
returns-then-text-lower c =
    let text = c.args.text.now in
    let lower = c.args.lower.now in
    all_from_yields_List (λ (p : ℕ × ℕ). eqb (to_ascii_lowercase p.0) p.1) c.all.new.self _ _ c.all.ensures.ran (YieldsList-from_zip (YieldsList-from_slice text cc) (YieldsList-from_slice lower cc)) (λ x b q k. search (rules, tests))
    ∙ list_all-zip to_ascii_lowercase text lower (omega arith)
