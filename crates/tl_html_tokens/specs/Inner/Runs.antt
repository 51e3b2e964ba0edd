-- Bytes of a text.
use Rattle.std.specs.Prelude.{ℕ, Bool, true, false, not}
use Rattle.memchr.specs.Find.{is_byte}
use Rattle.tl_html_tokens.specs.declared.mode.Mode.{Mode}
use Rattle.tl_html_tokens.specs.declared.mode.Mode.TheVariants.{ScriptEscaped, ScriptEscapedDash, ScriptEscapedDashDash}

-- no `<`: a reference and a carriage return end no text
abbrev pub is_plain : ℕ → Bool
is_plain b = not (is_byte 60 b)

-- whether such bytes leave the mode as it is: a dash counts after `<!--` in a script
abbrev pub reads_plain : Mode → Bool
reads_plain ScriptEscaped = false
reads_plain ScriptEscapedDash = false
reads_plain ScriptEscapedDashDash = false
reads_plain _ = true
