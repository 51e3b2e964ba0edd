use Rattle.std.proofs.Common.{ap, sym, subst, ◌∙◌, ◌≡◌, ◌+◌, List, ℕ, Some, None, option_map, arith, length, drop, drop-drop, ◌<◌, codes}
use Rattle.std.proofs.lemmas.List.{take_rest}
use Rattle.memchr.specs.Find.{FindsNeedle}
use Rattle.tl_lexer.proofs.Needles.{find-after}
use Rattle.tl_lexer.proofs.token.skip_arrow.Goals as goal

some : 0 < length (codes "-->")
some = omega arith

pub returns-clause-rest : goal.returns-clause-rest
returns-clause-rest c =
    let t = c.args.text.now in
    let at = c.args.at in
    let len = c.in_ok-len.len in
    let sum : at + len + 3 ≡ at + (len + 3) = omega arith in
    let end : drop (at + len + 3) t ≡ drop (len + 3) (drop at t) = ap (λ n. drop n t) sum ∙ sym (drop-drop (len + 3) at t) in
    let found : FindsNeedle (drop at t) (codes "-->") 0 (Some len) = subst (λ r. FindsNeedle (drop at t) (codes "-->") 0 r) c.in_ok-len.was (rw take_rest at c.find.ensures) in
    ap (λ (s : List ℕ). Some s) end ∙ find-after (codes "-->") some (drop at t) (Some len) found

pub returns-in_err-len-clause-rest : goal.returns-in_err-len-clause-rest
returns-in_err-len-clause-rest c =
    let t = c.args.text.now in
    let at = c.args.at in
    let found : FindsNeedle (drop at t) (codes "-->") 0 None = subst (λ r. FindsNeedle (drop at t) (codes "-->") 0 r) c.in_err-len.was (rw take_rest at c.find.ensures) in
    ap (option_map (λ end. drop end t)) c.from_residual.ensures ∙ find-after (codes "-->") some (drop at t) None found
