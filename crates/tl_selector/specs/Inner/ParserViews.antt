-- What the code reads, in the words of the definitions.
use Rattle.std.specs.Prelude.{}
use Rattle.tl_spec.specs.Select.Reading as r
use Rattle.tl_selector.specs.View.{selector}
use Rattle.tl_selector.specs.declared.parser.simple.AttrOperator.{AttrOperator}
use Rattle.tl_selector.specs.declared.parser.simple.AttrOperator.TheVariants.{Equals, HasPart, StartsWith, EndsWith, Contains}
use Rattle.tl_selector.specs.declared.parser.complex.Separator.{Separator}
use Rattle.tl_selector.specs.declared.parser.complex.Separator.TheVariants.{Comma, Step, Spaces, Touch}
use Rattle.tl_selector.specs.declared.parser.complex.Next.{Next}
use Rattle.tl_selector.specs.declared.parser.complex.Next.TheVariants.{End, Bad, Part}

abbrev pub operator : AttrOperator → r.AttrOperator
operator Equals = r.Equals
operator HasPart = r.HasPart
operator StartsWith = r.StartsWith
operator EndsWith = r.EndsWith
operator Contains = r.Contains

abbrev pub separator : Separator → r.Separator
separator Comma = r.Comma
separator Step = r.Step
separator Spaces = r.Spaces
separator Touch = r.Touch

abbrev pub next : Next → r.Next
next End = r.End
next Bad = r.Bad
next (Part l part rest) = r.Part (separator l) (selector part) rest.now
