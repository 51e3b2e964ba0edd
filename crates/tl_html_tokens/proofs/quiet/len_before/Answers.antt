use Rattle.std.proofs.Common.{ℕ, List, length, get_or, arith, le_refl}
use Rattle.memchr.specs.Find.{is_byte3}
use Rattle.tl_html_tokens.proofs.Plain.{all_before, fails_not}
use Rattle.tl_html_tokens.proofs.quiet.len_before.Goals as goal

pub returns-in-Some-clause-others : goal.returns-in-Some-clause-others
returns-in-Some-clause-others c =
    let s : List ℕ = c.args.text.now in
    let k : ℕ = c.in-Some.len in
    let found = c.in-Some.ensures in
    let inside = found.0.high in
    all_before (is_byte3 c.args.first c.args.second c.args.third) s k (omega arith) (λ j l. fails_not (is_byte3 c.args.first c.args.second c.args.third (get_or s j 0)) (found.0.before j (omega arith) l))

pub returns-in-None-clause-others : goal.returns-in-None-clause-others
returns-in-None-clause-others c =
    let s : List ℕ = c.args.text.now in
    all_before (is_byte3 c.args.first c.args.second c.args.third) s (length s) (le_refl (length s)) (λ j l. fails_not (is_byte3 c.args.first c.args.second c.args.third (get_or s j 0)) (c.in-None.ensures j (omega arith) l))
