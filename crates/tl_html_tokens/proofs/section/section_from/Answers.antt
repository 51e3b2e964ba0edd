use Rattle.std.proofs.Common.{◌≡◌, ◌∙◌, ◌==◌, ℕ, List, false, codes, drop, sym, arith}
use Rattle.std.specs.List.{starts_with}
use Rattle.std.proofs.lemmas.List.{take_rest}
use Rattle.tl_html_tokens.proofs.Sections.{section_on}
use Rattle.tl_html_tokens.proofs.section.section_from.Goals as goal

pub loop-at-preserved : goal.loop-at-preserved
loop-at-preserved c =
    let page : List ℕ = c.args.page.now in
    let at : ℕ = c.loop-at.at in
    let t = c.loop-at-test.true in
    let none : starts_with ◌==◌ (drop at page) (codes "]]>") ≡ false = rw take_rest at (sym c.if-starts_with.ensures.value) in
    let on = section_on page at c.loop-at-test.true none in
    record { within = omega arith; text = c.loop-at.invariant.text ∙ on.0; past = c.loop-at.invariant.past ∙ on.1 }
