-- Selectors that are read into what C holds.
use Rattle.std.proofs.Common.{◌≡◌, ◌∙◌, List, Option, Some, ap, arith, refl, sym, ℕ}
use Rattle.tl_css.specs.Selector.{Css}
use Rattle.tl_page.specs.Outcome.{Fails, Outcome, status_of, success}
use Rattle.tl_page.specs.declared.failure.Failure.{Failure}
use Rattle.tl_page.specs.declared.failure.Failure.TheVariants.{Fault, NotUnderstood, OutOfMemory, Refused}
use Rattle.tl_c.specs.CompiledSelectors.{Compiles, css_held}
use Rattle.tl_c.specs.Css.{css_by}
use Rattle.tl_c.specs.declared.css.Reading.TheVariants.{Relative}
use Rattle.tl_c.specs.declared.parsed_selector.ParsedSelector.{ParsedSelector}
use Rattle.tl_c.proofs.Room.{number_of}

-- bytes that are none leave what is held as it was
pub compiles_nothing : (text : List ℕ) (held : Option ParsedSelector) (failure : Failure) → Fails (css_by Relative text) failure → Compiles text held held (number_of failure)
compiles_nothing text held Refused fails = record {
  answered = λ _. sym (ap (λ (o : Outcome Css). status_of o) fails);
  compiled = λ e. absurd (omega (arith, e));
  untouched = λ _. refl;
}
compiles_nothing text held NotUnderstood fails = record {
  answered = λ _. sym (ap (λ (o : Outcome Css). status_of o) fails);
  compiled = λ e. absurd (omega (arith, e));
  untouched = λ _. refl;
}
compiles_nothing text held OutOfMemory fails = record {
  answered = λ other. absurd (other refl);
  compiled = λ e. absurd (omega (arith, e));
  untouched = λ _. refl;
}
compiles_nothing text held Fault fails = absurd fails

-- a selector stands in it
pub compiles_some : (text : List ℕ) (old new : Option ParsedSelector) (own : ParsedSelector) → new ≡ Some own → css_by Relative text ≡ success own.selector → Compiles text old new 0
compiles_some text old new own is reads = record {
  answered = λ _. sym (ap (λ (o : Outcome Css). status_of o) reads);
  compiled = λ _. ap css_held is ∙ sym reads;
  untouched = λ above. absurd (omega (arith, above));
}
