-- Words for worked rows. No contract cites them.
use Prim.Native.String.{String}
use Rattle.std.specs.Prelude.{ℕ, codes, Result, Ok, Err}
use Rattle.tl_css.specs.declared.error.Cause.{Cause}
use Rattle.tl_css.specs.Reading.{css_at}
use Rattle.tl_css.specs.Relative.{relative_at}
use Rattle.tl_css.specs.Selector.{Css}

-- which selector a text is
abbrev pub plain : String → Result Css (ℕ × Cause)
plain text = css_at (codes text)

-- which one a text of relative selectors is
abbrev pub relative : String → Result Css (ℕ × Cause)
relative text = relative_at (codes text)

-- the text is wrong from a byte on
abbrev pub wrong_from : ℕ → Cause → Result Css (ℕ × Cause)
wrong_from at cause = Err (at, cause)
