-- Where the links of a page lead.
use Rattle.std.specs.Option.{option_and_then, option_map_or}
use Rattle.std.specs.Prelude.{List, MatchOption, Option, codes, false, flat_map, length, true, ℕ, ◌<◌, ◌≡◌}
use Rattle.tl_tree.specs.Asked.{attributes_at, value_of}
use Rattle.tl_tree.specs.Rows.{Row}
use Rattle.tl_tree_extract.specs.Links.{Link, is_base_at, links_of}
use Rattle.tl_tree_extract.specs.Resolved.{resolved}
use Rattle.url.specs.Parts.{Parts, serialize}
use Rattle.uses.specs.Values.{line}

-- the first `base` of a document that has an `href`, or none
abbrev pub IsBase : List Row → Option ℕ → Type 0
IsBase rows number =
    MatchOption number ((n : ℕ) → n < length rows → is_base_at rows n ≡ false)
    (λ n. (is_base_at rows n ≡ true) × ((m : ℕ) → m < n → is_base_at rows m ≡ false))

-- what that says
abbrev pub href_of : List Row → Option ℕ → Option (List ℕ)
href_of rows number = option_and_then (λ n. value_of (codes "href") (attributes_at rows n)) number

-- where a link leads, or the link itself where it is no URL
abbrev pub link_line : Parts → List ℕ → List ℕ
link_line base link = line (option_map_or serialize (resolved base link) link)

-- a line for each link of a page
abbrev pub link_lines : Parts → List Row → List ℕ
link_lines base rows = flat_map (λ (link : Link). link_line base link.part.bytes) (links_of rows)
