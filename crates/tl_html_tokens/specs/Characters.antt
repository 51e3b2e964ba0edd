-- What a text of a page says: its characters, by how it is read.
use Rattle.std.specs.Prelude.{ℕ, List, flat_map}
use Rattle.tl_html_spec.specs.HtmlTokenizer.{char_of, with_feeds}
use Rattle.tl_html_spec.specs.Unescaped.{unescaped_text}
use Rattle.tl_html_tokens.specs.declared.mode.Mode.{Mode}
use Rattle.tl_html_tokens.specs.declared.mode.Mode.TheVariants.{Data, Title, Textarea, ContextText}

-- U+FFFD in the place of NUL
abbrev pub without_nul : List ℕ → List ℕ
without_nul text = flat_map char_of text

-- a carriage return is a line feed; in markup a NUL stays (13.2.5.1), and references are read
-- there, in a title and in a text area
abbrev pub characters_of : Mode → List ℕ → List ℕ
characters_of Data text = unescaped_text (with_feeds text)
characters_of Title text = unescaped_text (without_nul (with_feeds text))
characters_of Textarea text = unescaped_text (without_nul (with_feeds text))
characters_of ContextText text = unescaped_text (without_nul (with_feeds text))
characters_of _ text = without_nul (with_feeds text)
