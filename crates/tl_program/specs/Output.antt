-- What the program writes, and with which status.
use Rattle.std.specs.Prelude.{◌≡◌, ℕ, List, [], ◌∷◌, ◌++◌, length, map, take, slice_get, Option, None, Some, is_some, option_map, Result, Ok, Err, if◌then◌else◌, nat_lt, string_bytes, IfOk, ⊤}
use Rattle.std.specs.Fmt.{decimal}
use Rattle.std.specs.Global.{Global}
use Rattle.std.specs.List.{flat_map}
use Rattle.std.specs.Option.{option_map_or, option_to_list}
use Rattle.std.specs.Io.KnownBytes.{Appends}
use Rattle.std.specs.declared.string.String.{String}
use Rattle.tl_spec.specs.Lex.ByteClass.{largest_u32, line_feed}
use Rattle.tl_spec.specs.Print.Clean.{IsCleanTable}
use Rattle.tl_spec.specs.Tree.Document.{Document, Node, document}
use Rattle.tl_spec.specs.Edit.{Edited, Refusal, apply_changes}
use Rattle.tl_spec.specs.Print.Normal.{ReadsAs}
use Rattle.tl_spec.specs.Print.{document_print}
use Rattle.tl_spec.specs.Lookup.Scan.{id_scan, class_scan}
use Rattle.tl_spec.specs.Select.Selector.{Selector}
use Rattle.tl_spec.specs.Print.Text.{inner_text}
use Rattle.tl_spec.specs.Walk.{TreeFault, Dangling, all_tags, trees, walk}
use Rattle.tl.specs.Query.{matches_in}
use Rattle.tl_page.specs.Outcome.{Outcome, joined, not_understood, outcome_of, refused, success}
use Rattle.tl_page.specs.Page.{outcome_in}
use Rattle.tl_page.specs.declared.failure.Failure.{Failure}
use Rattle.tl_program.specs.Action.{Action, action_of, Prints, Texts, PrintsAgain, Selects, FindsId, FindsClass, Edits}
use Rattle.tl_program.specs.declared.program.commands.Command.{Command}

-- the document that a print is read as, printed; a print longer than 4294967295 bytes is not
-- understood
abbrev pub outcome_of_print : Result (List ℕ) TreeFault → Outcome (List ℕ)
outcome_of_print (Ok text) =
    if nat_lt largest_u32 (length text) then not_understood
    else outcome_of (document_print (document text))
outcome_of_print (Err fault) = refused

-- the text of the node of a handle, which is a fault past the table
abbrev pub text_at : List Node → ℕ → Result (List ℕ) TreeFault
text_at nodes h =
    option_map_or (λ node. inner_text nodes node) (slice_get nodes h) (Err (Dangling h))

-- the text of each top node, joined in order
abbrev pub texts_of : Document → Outcome (List ℕ)
texts_of d = joined (map (λ h. outcome_of (text_at d.nodes h)) d.top)

-- the document that a text is read as
abbrev pub IsJustRead : Document → Type 0
IsJustRead d = (t : List ℕ) × (d ≡ document t)

-- a document is printed, unless an edit of it was refused
abbrev pub outcome_of_edit : Option (ℕ × Refusal) → Document → Outcome (List ℕ)
outcome_of_edit None d = outcome_of (document_print d)
outcome_of_edit (Some refusal) d = refused

abbrev pub outcome_of_edited : Edited → Outcome (List ℕ)
outcome_of_edited e = outcome_of_edit e.refused e.document

-- a number in decimal, and a line feed
abbrev pub number_line : ℕ → List ℕ
number_line n = decimal n ++ line_feed ∷ []

-- numbers in order, one on each line
abbrev pub number_lines : List ℕ → List ℕ
number_lines = flat_map number_line

-- the numbers that a query found are written; a text that stands for no selector finds none, and is
-- refused
abbrev pub outcome_of_numbers : Option (List ℕ) → Outcome (List ℕ)
outcome_of_numbers None = refused
outcome_of_numbers (Some numbers) = success (number_lines numbers)

-- the nodes of a document where a selector holds; a text that stands for no selector is refused
abbrev pub outcome_of_query : Option Selector → Document → Outcome (List ℕ)
outcome_of_query selector d = outcome_of_numbers (option_map (matches_in d) selector)

-- what a command makes of a document, by its selector
abbrev pub outcome_of_document : Action → Option Selector → Document → Outcome (List ℕ)
outcome_of_document Prints selector d = outcome_of (document_print d)
outcome_of_document Texts selector d = texts_of d
outcome_of_document PrintsAgain selector d = outcome_of_print (document_print d)
outcome_of_document (Selects text) selector d = outcome_of_query selector d
outcome_of_document (FindsId id) selector d =
    success (number_lines (option_to_list (id_scan d.nodes id)))
outcome_of_document (FindsClass member) selector d =
    success (number_lines (class_scan d.nodes member))
outcome_of_document (Edits changes) selector d = outcome_of_edited (apply_changes changes d)

-- what is made of an input; one that is no text, or longer than 4294967295 bytes, is not understood
abbrev pub output_of : Action → Option Selector → List ℕ → Outcome (List ℕ)
output_of action selector input = outcome_in (outcome_of_document action selector) input

-- the document that a print is read as
abbrev pub document_again : Result (List ℕ) TreeFault → Option Document
document_again (Ok text) = Some (document text)
document_again (Err fault) = None

-- the document after edits, unless one was refused
abbrev pub document_edited : Edited → Option Document
document_edited e = if is_some e.refused then None else Some e.document

-- the document whose print a command makes of a document, if it makes one
abbrev pub printed_document : Action → Document → Option Document
printed_document Prints d = Some d
printed_document Texts d = None
printed_document PrintsAgain d = document_again (document_print d)
printed_document (Selects text) d = None
printed_document (FindsId id) d = None
printed_document (FindsClass member) d = None
printed_document (Edits changes) d = document_edited (apply_changes changes d)

-- what a command makes of an input, by its selector
abbrev pub command_output : Command → Option Selector → List ℕ → Outcome (List ℕ)
command_output command selector input = output_of (action_of command) selector input

-- the document whose print a command makes of a document, if it makes one
abbrev pub command_print : Command → Document → Option Document
command_print command d = printed_document (action_of command) d

-- where there is a document and it is clean, the text is read as its trees
abbrev pub ReadsBack : Option Document → List ℕ → Type 0
ReadsBack None text = ⊤
ReadsBack (Some d) text =
    IsCleanTable d.nodes d.top → ReadsAs text (trees (walk all_tags d.nodes [] d.top))

-- what is given is read as the trees of this document, where there is one and it is clean
abbrev pub PrintsBack : Option Document → Result (String Global) Failure → Type 0
PrintsBack d result = IfOk result (λ text. ReadsBack d (string_bytes text))

-- known bytes grow by a beginning of bs
abbrev pub AppendsBeginning : Option (List ℕ) → Option (List ℕ) → List ℕ → Type 0
AppendsBeginning old new bs = (k : ℕ) × Appends old new (take k bs)
