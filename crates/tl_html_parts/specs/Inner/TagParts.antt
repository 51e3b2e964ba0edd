-- What comes next in a tag of a page, where the page goes on behind the tag.
use Rattle.std.specs.Prelude.{◌≡◌, ◌≤◌, ℕ, Bool, false, List, drop, length}
use Rattle.tl_html_spec.specs.HtmlTokenizer.{OpenTag}
use Rattle.tl_html_tokens.specs.Inner.InTag.{IsInTag}
use Rattle.tl_html_parts.specs.Inner.Tail.{begins_blank, begins_key}
use Rattle.tl_html_parts.specs.Places.{IsAttributeAt}
use Rattle.tl_html_parts.specs.Rest.{tail_tokens}
use Rattle.tl_html_parts.specs.declared.place.AttributePlace.{AttributePlace}
use Rattle.tl_html_parts.specs.declared.tail.TagPart.{TagPart}
use Rattle.tl_html_parts.specs.declared.tail.TagPart.TheVariants.{Attribute, End}

-- reading goes on in the tag at another place
abbrev pub GoesOn : List ℕ → ℕ → ℕ → Type 0
GoesOn text from to =
    (start : ℕ) (is_end : Bool) → IsInTag text start from is_end → IsInTag text start to is_end

-- no attribute stands from a place on, where reading goes on at another
pub record IsEndAt (text : List ℕ) (from at : ℕ) : Type 0 where
  pub tokens : (tag : OpenTag) → tail_tokens tag (drop from text) ≡ tail_tokens tag (drop at text)
  pub no_key : begins_key (drop at text) ≡ false
  pub no_blank : begins_blank (drop at text) ≡ false
  pub goes_on : GoesOn text from at
  pub order : from ≤ at
  pub within : at ≤ length text

pub record IsAttributeNext (text : List ℕ) (from : ℕ) (a : AttributePlace) : Type 0 where
  pub attribute : IsAttributeAt text from a
  pub goes_on : GoesOn text from a.end

abbrev pub IsTagPart : List ℕ → ℕ → TagPart → Type 0
IsTagPart text from (Attribute a) = IsAttributeNext text from a
IsTagPart text from (End at) = IsEndAt text from at
