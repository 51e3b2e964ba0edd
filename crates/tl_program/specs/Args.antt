-- What words say, and what the program makes of them and of an input.
use Rattle.std.specs.Prelude.{◌≡◌, ℕ, List, Option, None, Some, map, string_bytes}
use Rattle.std.specs.Global.{Global}
use Rattle.std.specs.Option.{option_and_then}
use Rattle.std.specs.declared.string.String.{String}
use Rattle.tl_spec.specs.Tree.Document.{Document}
use Rattle.tl_spec.specs.Select.Selector.{Selector}
use Rattle.tl_page.specs.Outcome.{Outcome, not_understood}
use Rattle.tl_program.specs.Action.{Action, IsSelectorOf, action_of_words}
use Rattle.tl_program.specs.Output.{output_of, printed_document}

-- what the words ask for, if anything
abbrev pub action_in : List (String Global) → Option Action
action_in words = action_of_words (map string_bytes words)

-- the selector of what is asked, if anything is
abbrev pub IsSelectorOfAny : Option Action → Option Selector → Type 0
IsSelectorOfAny None selector = selector ≡ None
IsSelectorOfAny (Some action) selector = IsSelectorOf action selector

-- the selector of what the words ask for
abbrev pub IsSelectorIn : List (String Global) → Option Selector → Type 0
IsSelectorIn words selector = IsSelectorOfAny (action_in words) selector

-- what is made of an input, where asking for nothing is not understood
abbrev pub output_of_any : Option Action → Option Selector → List ℕ → Outcome (List ℕ)
output_of_any None selector input = not_understood
output_of_any (Some action) selector input = output_of action selector input

-- what the words make of an input, by their selector
abbrev pub output_of_args : List (String Global) → Option Selector → List ℕ → Outcome (List ℕ)
output_of_args words selector input = output_of_any (action_in words) selector input

-- the document whose print the words make of a document, if they make one
abbrev pub print_of_args : List (String Global) → Document → Option Document
print_of_args words d = option_and_then (λ action. printed_document action d) (action_in words)
