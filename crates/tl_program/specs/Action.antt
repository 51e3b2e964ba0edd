-- What the words ask for.
use Rattle.std.specs.Prelude.{◌≡◌, ℕ, List, [], ◌∷◌, Option, None, Some, if◌then◌else◌, codes}
use Rattle.std.specs.Option.{option_map}
use Rattle.std.specs.Str.{bytes_eq}
use Rattle.tl_spec.specs.Edit.{Change}
use Rattle.tl_spec.specs.Select.Selector.{Selector}
use Rattle.tl_spec.specs.Select.Reading.{selector_at}
use Rattle.tl_spec.specs.Select.Text.{IsSelectorText}
use Rattle.tl_spec.specs.Edit.StepLine.{parse_changes}
use Rattle.tl_program.specs.Steps.{changes_in}
use Rattle.tl_program.specs.declared.program.commands.Command.{Command}
use Rattle.tl_program.specs.declared.program.commands.Command.TheVariants.{Print, Text, Again, Select, Id, Class, Edit}

pub data Action : Type 0 where
  Prints : Action
  Texts : Action
  PrintsAgain : Action
  Selects : (text : List ℕ) → Action
  FindsId : (id : List ℕ) → Action
  FindsClass : (member : List ℕ) → Action
  Edits : (changes : List Change) → Action

-- what a command asks for
abbrev pub action_of : Command → Action
action_of Print = Prints
action_of Text = Texts
action_of Again = PrintsAgain
action_of (Select text) = Selects text.now
action_of (Id id) = FindsId id.now
action_of (Class member) = FindsClass member.now
action_of (Edit steps) = Edits (changes_in steps.items)

-- the selector that a text stands for, if it stands for one
abbrev pub StandsFor : List ℕ → Option Selector → Type 0
StandsFor text None = (e : Selector) → ¬ IsSelectorText text e
StandsFor text (Some e) = IsSelectorText text e

-- the selector of what is asked: that of a `select`, if its text stands for one, and else none
abbrev pub IsSelectorOf : Action → Option Selector → Type 0
IsSelectorOf (Selects text) selector = StandsFor text selector
IsSelectorOf Prints selector = selector ≡ None
IsSelectorOf Texts selector = selector ≡ None
IsSelectorOf PrintsAgain selector = selector ≡ None
IsSelectorOf (FindsId id) selector = selector ≡ None
IsSelectorOf (FindsClass member) selector = selector ≡ None
IsSelectorOf (Edits changes) selector = selector ≡ None

-- the selector of what is asked, as a plain reader finds it
abbrev pub selector_of : Action → Option Selector
selector_of (Selects text) = selector_at text
selector_of Prints = None
selector_of Texts = None
selector_of PrintsAgain = None
selector_of (FindsId id) = None
selector_of (FindsClass member) = None
selector_of (Edits changes) = None

-- what one word asks for, if anything
abbrev pub action_of_word : List ℕ → Option Action
action_of_word word =
    if bytes_eq word (codes "print") then Some Prints
    else if bytes_eq word (codes "text") then Some Texts
    else if bytes_eq word (codes "again") then Some PrintsAgain
    else None

-- what a word and a text after it ask for, if anything
abbrev pub action_of_pair : List ℕ → List ℕ → Option Action
action_of_pair word text =
    if bytes_eq word (codes "edit") then option_map Edits (parse_changes text)
    else if bytes_eq word (codes "select") then Some (Selects text)
    else if bytes_eq word (codes "id") then Some (FindsId text)
    else if bytes_eq word (codes "class") then Some (FindsClass text)
    else None

-- what the words ask for, if anything
abbrev pub action_of_words : List (List ℕ) → Option Action
action_of_words [] = None
action_of_words (word ∷ []) = action_of_word word
action_of_words (word ∷ text ∷ []) = action_of_pair word text
action_of_words (word ∷ text ∷ more ∷ words) = None

-- the word `edit` and a text after it
abbrev pub AreEditWords : List (List ℕ) → Type 0
AreEditWords words = (text : List ℕ) × (words ≡ codes "edit" ∷ text ∷ [])
