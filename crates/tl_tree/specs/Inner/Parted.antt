-- Tokens whose parts stand in a page.
use Rattle.std.specs.Prelude.{List, ℕ}
use Rattle.tl_dom_spec.specs.Builder.{Token, a_start, an_end}
use Rattle.tl_dom_spec.specs.Groups.{group}
use Rattle.tl_dom_spec.specs.Tags.{html_tag}
use Rattle.tl_html_parts.specs.Parts.{attributes_of, name_of}
use Rattle.tl_html_parts.specs.Places.{pairs_in, part_in}
use Rattle.tl_html_parts.specs.declared.place.AttributePlace.{AttributePlace}
use Rattle.tl_html_parts.specs.declared.place.PartPlace.{PartPlace}
use Rattle.tl_html_parts.specs.declared.tag_front.TagFront.{TagFront}

-- a start tag
abbrev pub start_said : List ℕ → List AttributePlace → TagFront → Token
start_said page places tag =
    a_start (group (name_of (part_in page tag.name)))
    (html_tag (name_of (part_in page tag.name)) (attributes_of (pairs_in page places)))
    tag.closes

-- an end tag of this name
abbrev pub end_said : List ℕ → PartPlace → Token
end_said page name =
    an_end (group (name_of (part_in page name))) (name_of (part_in page name))
