-- Selectors of CSS that are read once.
use Rattle.std.specs.Prelude.{◌≡◌, ◌≢◌, ◌<◌, List, None, Option, Some, ℕ}
use Rattle.tl_css.specs.Selector.{Css}
use Rattle.tl_page.specs.Outcome.{Outcome, refused, status_of, success}
use Rattle.tl_c.specs.Css.{css_by}
use Rattle.tl_c.specs.declared.css.Reading.TheVariants.{Relative}
use Rattle.tl_c.specs.declared.parsed_selector.ParsedSelector.{ParsedSelector}

-- the selector that is held; where there is none that is refused
abbrev pub css_held : Option ParsedSelector → Outcome Css
css_held None = refused
css_held (Some own) = success own.selector

-- Bytes are read as a selector (what was held, and what is held after the call), which may begin
-- with a combinator: the status, and the selector.
pub record Compiles (text : List ℕ) (old new : Option ParsedSelector) (status : ℕ) : Type 0 where
  pub answered : status ≢ 3 → status ≡ status_of (css_by Relative text)
  -- 0: it holds that selector
  pub compiled : status ≡ 0 → css_held new ≡ css_by Relative text
  -- else it holds what it held; 3 is said where memory ran out
  pub untouched : 0 < status → new ≡ old
