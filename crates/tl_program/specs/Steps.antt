-- What a step is in the words of the definitions.
use Rattle.std.specs.Prelude.{ℕ, List, [], map, Option, None, Some}
use Rattle.std.specs.List.{slice_split}
use Rattle.std.specs.Borrow.{Bor}
use Rattle.tl_spec.specs.Edit.StepLine.{is_line_feed}
use Rattle.tl_spec.specs.Edit.{Change, Names, Texts, Comments, Sets, Flags, Unsets, Bares, Pushes, Pulls, Roots}
use Rattle.tl_program.specs.declared.script.step.Step.{Step}
use Rattle.tl_program.specs.declared.script.step.Step.TheVariants.{Name, Text, Comment, Set, Flag, Unset, Bare, Push, Pull, Root}

-- the edit that a step is
abbrev pub change_of : Step → Change
change_of (Name n name) = Names n name.now
change_of (Text n text) = Texts n text.now
change_of (Comment n text) = Comments n text.now
change_of (Set n key value) = Sets n key.now value.now
change_of (Flag n key) = Flags n key.now
change_of (Unset n key) = Unsets n key.now
change_of (Bare n key) = Bares n key.now
change_of (Push n h) = Pushes n h
change_of (Pull n i) = Pulls n i
change_of (Root i h) = Roots i h

-- the edits that steps are
abbrev pub changes_in : List Step → List Change
changes_in steps = map change_of steps

-- the lines of what is left of a text, if anything is
abbrev pub remaining_lines : Option (Bor (List ℕ)) → List (List ℕ)
remaining_lines None = []
remaining_lines (Some rest) = slice_split is_line_feed rest.now
