-- What is wrong with a page or a word, and where.
use Rattle.std.specs.Prelude.{ℕ, List, ◌++◌, codes, decimal}
use Rattle.tl_spec.specs.Lex.ByteClass.{largest_u32}
use Rattle.tl_page.specs.declared.error.Cause.{Cause}
use Rattle.tl_page.specs.declared.error.Cause.TheVariants.{NoText, TooLong}
use Rattle.tl_page.specs.declared.error.PageError.{PageError}
use Rattle.tl_page.specs.declared.failure.Failure.TheVariants.{NotUnderstood}

-- bytes that are no text after so many that are
abbrev pub no_text_at : ℕ → PageError
no_text_at place = record { failure = NotUnderstood; cause = NoText; place = place }

-- a text that is too long
abbrev pub too_long : PageError
too_long = record { failure = NotUnderstood; cause = TooLong; place = largest_u32 }

-- what is printed of a cause
abbrev pub cause_text : Cause → List ℕ
cause_text NoText = codes "invalid UTF-8"
cause_text TooLong = codes "too long"

-- and of an error
abbrev pub error_text : PageError → List ℕ
error_text error = cause_text error.cause ++ (codes " at byte " ++ decimal error.place)
