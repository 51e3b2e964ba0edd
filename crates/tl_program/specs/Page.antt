-- What was read of an input.
use Rattle.std.specs.Prelude.{◌≡◌, ◌<◌, ℕ, List, length}
use Rattle.tl_spec.specs.Lex.ByteClass.{largest_u32}
use Rattle.tl_program.specs.declared.program.page.Page.{Page}
use Rattle.tl_program.specs.declared.program.page.Page.TheVariants.{Whole, TooLong}

-- it is all of the input, which may be too long to be kept
abbrev pub IsPage : Page → List ℕ → Type 0
IsPage (Whole bytes) input = bytes.items ≡ input
IsPage TooLong input = largest_u32 < length input
