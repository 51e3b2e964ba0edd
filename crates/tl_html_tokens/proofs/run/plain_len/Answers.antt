use Rattle.std.proofs.Common.{ℕ, List, length, get_or, arith, le_refl}
use Rattle.memchr.specs.Find.{is_byte}
use Rattle.std.proofs.lemmas.Bool.{eqb-true}
use Rattle.tl_html_tokens.proofs.Plain.{all_before, fails_not}
use Rattle.tl_html_tokens.proofs.run.plain_len.Goals as goal

pub returns-in-Some-clause-plain : goal.returns-in-Some-clause-plain
returns-in-Some-clause-plain c =
    let s : List ℕ = c.args.text.now in
    let k : ℕ = c.in-Some.len in
    let found = c.in-Some.ensures in
    let inside = found.0.high in
    all_before (is_byte 60) s k (omega arith) (λ j l. fails_not (is_byte 60 (get_or s j 0)) (found.0.before j (omega arith) l))

pub returns-in-Some-clause-end : goal.returns-in-Some-clause-end
returns-in-Some-clause-end c = λ _. eqb-true (get_or c.args.text.now c.in-Some.len 0) 60 c.in-Some.ensures.1

pub returns-in-None-clause-plain : goal.returns-in-None-clause-plain
returns-in-None-clause-plain c =
    let s : List ℕ = c.args.text.now in
    all_before (is_byte 60) s (length s) (le_refl (length s)) (λ j l. fails_not (is_byte 60 (get_or s j 0)) (c.in-None.ensures j (omega arith) l))
