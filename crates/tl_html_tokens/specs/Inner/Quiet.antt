-- Bytes that leave a stage as it is.
use Rattle.std.specs.Prelude.{ℕ, ◌+◌, Bool, false, not, ◌||◌, ◌==◌, if◌then◌else◌}
use Rattle.memchr.specs.Find.{is_byte3}
use Rattle.tl_html_spec.specs.HtmlTokenizer.{ends_name}
use Rattle.tl_html_tokens.specs.Inner.Stages.{has_word}
use Rattle.tl_html_tokens.specs.declared.front.Scan.{Scan}
use Rattle.tl_html_tokens.specs.declared.stage.Quote.TheVariants as quote
use Rattle.tl_html_tokens.specs.declared.stage.Stage.{Stage}
use Rattle.tl_html_tokens.specs.declared.stage.Stage.TheVariants as stage

-- what neither ends a name or a key nor is read as something else
abbrev pub is_inside_name : ℕ → Bool
is_inside_name b = not (ends_name b || (b == 61) || (b == 13))

-- in a quoted value all but the quote, `&` and a carriage return; in a comment all but `<`, a dash
-- and a carriage return; in names and keys all that is inside of both
abbrev pub is_quiet : Stage → ℕ → Bool
is_quiet (stage.Value quote.Double tag) b = not (is_byte3 34 38 13 b)
is_quiet (stage.Value quote.Single tag) b = not (is_byte3 39 38 13 b)
is_quiet stage.Comment b = not (is_byte3 60 45 13 b)
is_quiet (stage.TagName is_end) b = is_inside_name b
is_quiet (stage.Key tag) b = is_inside_name b
is_quiet _ b = false

-- after so many such bytes
abbrev pub skip_quiet : Scan → ℕ → ℕ → Scan
skip_quiet scan place len =
    if len == 0 then scan
    else record {
      stage = scan.stage;
      after_return = false;
      word = if has_word scan.stage then scan.word else place + len;
    }
