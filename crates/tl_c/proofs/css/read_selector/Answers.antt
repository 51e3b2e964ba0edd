use Rattle.std.proofs.Common.{ℕ, Option, refl, subst, sym}
use Rattle.tl_css.specs.declared.error.Cause.{Cause}
use Rattle.tl_c.specs.Css.{IsTold}
use Rattle.tl_c.proofs.Selectors.{css_by-right, css_by-wrong, wrong_by-right, wrong_by-wrong}
use Rattle.tl_c.proofs.css.read_selector.Goals as goal

pub returns-in-Ok-clause-reads : goal.returns-in-Ok-clause-reads
returns-in-Ok-clause-reads c =
    css_by-right c.args.reading c.args.selector.now c.in_ok-text.text.now c.in_ok-text.ensures.reads c.in_ok-text.ensures.text c.in-Ok.selector c.in-Ok.ensures.found

pub returns-in-Ok-clause-told : goal.returns-in-Ok-clause-told
returns-in-Ok-clause-told c = λ _.
    let none = wrong_by-right c.args.reading c.args.selector.now c.in_ok-text.text.now c.in_ok-text.ensures.reads c.in_ok-text.ensures.text c.in-Ok.selector c.in-Ok.ensures.found in
    subst (λ (wrong : Option (ℕ × Cause)). IsTold wrong 0 0) (sym none) (refl, refl)

pub returns-in-Err-Text-clause-reads : goal.returns-in-Err-Text-clause-reads
returns-in-Err-Text-clause-reads c =
    let why = rw c.in-Err-Text.field-0-is at c.in-Err-Text.ensures.cause in
    css_by-wrong c.args.reading c.args.selector.now c.in_ok-text.text.now c.in_ok-text.ensures.reads c.in_ok-text.ensures.text (c.in-Err-Text.at, c.in-Err-Text.why) why

pub returns-in-Err-Text-clause-told : goal.returns-in-Err-Text-clause-told
returns-in-Err-Text-clause-told c = λ _.
    let why = rw c.in-Err-Text.field-0-is at c.in-Err-Text.ensures.cause in
    let some = wrong_by-wrong c.args.reading c.args.selector.now c.in_ok-text.text.now c.in_ok-text.ensures.reads c.in_ok-text.ensures.text (c.in-Err-Text.at, c.in-Err-Text.why) why in
    subst (λ (wrong : Option (ℕ × Cause)). IsTold wrong c.in-Err-Text.at c.number_of_cause.result) (sym some) (refl, c.number_of_cause.ensures)
