-- What is made of an input that is too long, and by which selector.
use Rattle.std.proofs.Common.{◌≡◌, ◌<◌, List, ℕ, length, Option, None, Some, refl, sym, ap, arith}
use Rattle.std.specs.Prelude.{IfSome}
use Rattle.tl_spec.specs.Lex.ByteClass.{largest_u32}
use Rattle.tl_spec.specs.Select.Selector.{Selector}
use Rattle.tl_spec.specs.Select.Reading.{selector_at}
use Rattle.tl_spec.proofs.Select.Text.{text-only, text-none}
use Rattle.tl_page.specs.Outcome.{not_understood}
use Rattle.tl_page.proofs.Pages.{outcome-no_page}
use Rattle.tl_program.specs.Page.{IsPage}
use Rattle.tl_program.specs.declared.program.page.Page.TheVariants.{TooLong}
use Rattle.tl_program.specs.Output.{output_of, outcome_of_document}
use Rattle.tl_program.specs.Action.{Action, Prints, Texts, PrintsAgain, Selects, FindsId, FindsClass, Edits, StandsFor, IsSelectorOf, selector_of}

-- what is too long is not understood, be it text or not
output_of-long : (action : Action) (selector : Option Selector) (input : List ℕ) → largest_u32 < length input → output_of action selector input ≡ not_understood
output_of-long action selector input long = outcome-no_page input (outcome_of_document action selector) (λ page. let short = page.1 in omega arith)

-- so is a page that was too long to be kept
pub IsPage-not_understood : (action : Action) (selector : Option Selector) (left : Option (List ℕ)) → IfSome left (IsPage TooLong)
    → IfSome left (λ input. output_of action selector input ≡ not_understood)
IsPage-not_understood action selector None is = tt
IsPage-not_understood action selector (Some input) is = output_of-long action selector input is

-- the plain reader finds what a text stands for
StandsFor-selector_at : (text : List ℕ) (selector : Option Selector) → selector_at text ≡ selector → StandsFor text selector
StandsFor-selector_at text None is = (text-none text).1 is
StandsFor-selector_at text (Some e) is = (text-only text e).1 is

-- so it finds the selector of what is asked, of which there is one
pub IsSelectorOf-selector_of : (action : Action) → IsSelectorOf action (selector_of action)
IsSelectorOf-selector_of (Selects text) = StandsFor-selector_at text (selector_at text) refl
IsSelectorOf-selector_of Prints = refl
IsSelectorOf-selector_of Texts = refl
IsSelectorOf-selector_of PrintsAgain = refl
IsSelectorOf-selector_of (FindsId id) = refl
IsSelectorOf-selector_of (FindsClass member) = refl
IsSelectorOf-selector_of (Edits changes) = refl
