-- The name of a tag of a page, and the end of its attributes.
use Rattle.std.specs.Prelude.{◌≡◌, ◌≤◌, ℕ, false, List, [], drop, length}
use Rattle.tl_html_spec.specs.HtmlTokenizer.{OpenTag, data_state}
use Rattle.tl_html_spec.specs.Reader.{at, tokens_of}
use Rattle.tl_html_tokens.specs.Inner.InTag.{IsInTag}
use Rattle.tl_html_parts.specs.Inner.TagParts.{GoesOn}
use Rattle.tl_html_parts.specs.Inner.Tail.{begins_blank, begins_key}
use Rattle.tl_html_parts.specs.Parts.{name_of}
use Rattle.tl_html_parts.specs.Places.{IsPart, part_in}
use Rattle.tl_html_parts.specs.Rest.{tail_tokens}
use Rattle.tl_html_parts.specs.declared.tag_front.TagName.{TagName}

-- what is read in markup from a place on is the rest of a tag of this name
pub record IsNamed (page : List ℕ) (start : ℕ) (named : TagName) : Type 0 where
  pub part : IsPart name_of page named.name
  pub in_tag : IsInTag page start named.name.end named.is_end
  pub tag : OpenTag
  pub ends : tag.is_end ≡ named.is_end
  pub name_is : tag.name ≡ name_of (part_in page named.name)
  pub none : tag.attributes ≡ []
  pub told : tokens_of (at data_state) (drop start page)
      ≡ tail_tokens tag (drop named.name.end page)

-- what ends a tag stands at a place, or the text ends there
pub record IsEnding (text : List ℕ) (from at : ℕ) : Type 0 where
  pub no_key : begins_key (drop at text) ≡ false
  pub no_blank : begins_blank (drop at text) ≡ false
  pub goes_on : GoesOn text from at
  pub within : at ≤ length text
