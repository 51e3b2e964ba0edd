-- URLs of values made absolute, by the URL Standard as the kit's `url` has it.
use Rattle.std.specs.List.{find}
use Rattle.std.specs.Option.{option_and_then, option_map, option_map_or}
use Rattle.std.specs.Prelude.{Bool, List, None, Option, Some, [], codes, drop, false, if◌then◌else◌, length, map, min, nat_le, slice_range, suc, true, zero, ℕ, ◌+◌, ◌++◌, ◌∷◌}
use Rattle.std.specs.Str.{bytes_eq}
use Rattle.std.specs.Str.Lossy.{utf8_lossy}
use Rattle.tl_dom_spec.specs.Tags as dom
use Rattle.tl_tree.specs.Asked.{attributes_at, value_of}
use Rattle.tl_tree.specs.Rows.{Row}
use Rattle.tl_tree_extract.specs.Links.{Link, attribute_links, is_base_at}
use Rattle.tl_tree_extract.specs.Resolved.{document_base, resolved, url_of}
use Rattle.tl_tree_extract.specs.Spans.{Part}
use Rattle.tl_values.specs.Keys.{has_key}
use Rattle.url.specs.Parser.{parse_url}
use Rattle.url.specs.Parts.{Parts, serialize}

-- Bases

-- the first of so many numbers, from one on, that passes a test
abbrev pub first_from : (ℕ → Bool) → ℕ → ℕ → Option ℕ
first_from test zero number = None
first_from test (suc most) number =
    elim (test number) as (λ _. Option ℕ) [
      | true ↦ Some number
      | false ↦ first_from test most (number + 1)
    ]

-- the first `base` of a page that has an `href`
abbrev pub first_base : List Row → Option ℕ
first_base rows = first_from (is_base_at rows) (length rows) 0

-- what that says
abbrev pub base_href : List Row → Option (List ℕ)
base_href rows =
    option_and_then (λ number. value_of (codes "href") (attributes_at rows number)) (first_base rows)

-- one of more than 4096 bytes counts for nothing: each link may come to be as long
abbrev pub short_href : List ℕ → Option (List ℕ)
short_href href = if nat_le (length href) 4096 then Some href else None

-- the base URL of a page of this URL
abbrev pub page_base : Parts → List Row → Parts
page_base own rows = document_base own (option_and_then short_href (base_href rows))

-- Links

abbrev pub is_text_of : Parts → Parts → Bool
is_text_of url own = bytes_eq (serialize own) (serialize url)

-- without a base a link leads there too
abbrev pub leads_alone : List ℕ → Parts → Bool
leads_alone link url =
    option_map_or (is_text_of url) (url_of (parse_url None (utf8_lossy link))) false

abbrev pub unless_absolute : List ℕ → Parts → List ℕ
unless_absolute link url = if leads_alone link url then link else serialize url

-- a link as a URL that needs no base. One that needs none already stays as it is, and so does what
-- is no URL
abbrev pub absolute : Parts → List ℕ → List ℕ
absolute base link = option_map_or (unless_absolute link) (resolved base link) link

-- Values

-- from a place on: the value with the links at these parts absolute
abbrev pub absolute_from : Parts → List ℕ → ℕ → List Part → List ℕ
absolute_from base value from [] = drop from value
absolute_from base value from (p ∷ parts) =
    slice_range value from p.start
    ++ absolute base p.bytes
    ++ absolute_from base value (min (p.start + length p.bytes) (length value)) parts

-- the parts of the value of an attribute that are URLs
abbrev pub url_parts : List Row → ℕ → dom.Attribute → List Part
url_parts rows number a = map (λ (l : Link). l.part) (attribute_links rows number a)

-- the value of an attribute, with its URLs absolute
abbrev pub absolute_value : Parts → List Row → ℕ → dom.Attribute → List ℕ
absolute_value base rows number a = absolute_from base a.value 0 (url_parts rows number a)

-- the value of the first attribute of a key, with its URLs absolute
abbrev pub absolute_at : Parts → List ℕ → List Row → ℕ → Option (List ℕ)
absolute_at base key rows number =
    option_map (absolute_value base rows number) (find (has_key key) (attributes_at rows number))
