-- What is left of a page to be read.
use Rattle.std.specs.Prelude.{List, drop, ℕ}
use Rattle.tl_dom_spec.specs.Builder as dom
use Rattle.tl_dom_spec.specs.Driver.{builder}
use Rattle.tl_html_spec.specs.Driven.{driven, in_state}
use Rattle.tl_html_spec.specs.HtmlTokenizer.{with_feeds}
use Rattle.tl_html_tokens.specs.Modes.{state_of}
use Rattle.tl_html_tokens.specs.declared.mode.Mode.{Mode}
use Rattle.tl_tree.specs.Inner.Builders.{builder_of}
use Rattle.tl_tree.specs.declared.reader.Reader.{Reader}

-- what the builder holds once all from a place on is read, but for the end of the page
abbrev pub left : dom.Builder → Mode → List ℕ → ℕ → dom.Builder
left b mode page at = driven builder b (in_state (state_of mode)) (with_feeds (drop at page))

unfoldable pub left_of : Reader → dom.Builder
left_of r = left (builder_of r.builder) r.mode r.page.now r.at
