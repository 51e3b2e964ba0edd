use Rattle.std.proofs.Common.{◌≡◌, true, ◌||◌, subst, ap, sym, ◌∙◌}
use Rattle.tl_spec.proofs.Lex.Grammar.{if_yes, if_no}
use Rattle.tl_css.specs.Lexical.{begins_comment}
use Rattle.tl_css.specs.TextView.{read_as}
use Rattle.tl_css.proofs.Runs.{gap_from, gap_first, gap_lt, gap_some, gap_none}
use Rattle.tl_css.proofs.text.gap.gap.Goals as goal

pub parts-init : goal.parts-init
parts-init c = gap_first c.args.s.now

pub parts-smaller-then-white : goal.parts-smaller-then-white
parts-smaller-then-white c = gap_lt _ _ c.in-Some.ensures

pub parts-smaller : goal.parts-smaller
parts-smaller c = gap_lt _ _ c.in-Some.ensures

pub parts-preserved-then-white : goal.parts-preserved-then-white
parts-preserved-then-white c =
    let same = ap (λ v. v || c.in-Some.is_white) c.if-white.true ∙ sym c.if-white.true in
    subst (λ v. gap_from v c.in-Some.rest.now ≡ gap_from c.parts.white c.parts.left.now) same (gap_some c.parts.white c.parts.left.now _ c.in-Some.ensures)
    ∙ c.parts.invariant

pub parts-preserved : goal.parts-preserved
parts-preserved c =
    let same = ap (λ v. v || c.in-Some.is_white) c.if-white.false in
    subst (λ v. gap_from v c.in-Some.rest.now ≡ gap_from c.parts.white c.parts.left.now) same (gap_some c.parts.white c.parts.left.now _ c.in-Some.ensures)
    ∙ c.parts.invariant

pub returns-then-begins_comment : goal.returns-then-begins_comment
returns-then-begins_comment c =
    let is : begins_comment c.parts.left.now ≡ true = sym c.if-begins_comment.ensures in
    ap (read_as (λ white. white)) c.wrong.ensures
    ∙ sym (sym c.parts.invariant ∙ (gap_none c.parts.white c.parts.left.now c.in_default.ensures ∙ if_yes (begins_comment c.parts.left.now) _ _ is))

pub returns : goal.returns
returns c =
    let is = sym c.if-begins_comment.ensures in
    sym (sym c.parts.invariant ∙ (gap_none c.parts.white c.parts.left.now c.in_default.ensures ∙ if_no (begins_comment c.parts.left.now) _ _ is))
