-- Where the name of a tag stands in it, and tags with another name in its place.
use Rattle.std.specs.Prelude.{◌≡◌, ℕ, ◌<◌, Bool, true, List, [], ◌∷◌, length, take, codes, slice_index, if◌then◌else◌}
use Rattle.tl_html_spec.specs.HtmlTokenizer.{OpenTag, data_state, ends_name, tag_name}
use Rattle.tl_html_spec.specs.Reader.{after, at, emitted, feed}
use Rattle.tl_patch_spec.specs.Splices.{Splice, with_splices}

-- after so many bytes the name of a tag goes on, or ends with the next byte
abbrev pub IsInName : Bool → ℕ → List ℕ → Type 0
IsInName is_end n text = (tag : OpenTag) × (after (at data_state) (take n text) ≡ at (tag_name tag))
    × (emitted (at data_state) (take n text) ≡ []) × (tag.attributes ≡ []) × (tag.is_end ≡ is_end)

-- the name ends with the byte after so many
pub record IsNameEnd (is_end : Bool) (n : ℕ) (text : List ℕ) : Type 0 where
  pub in_name : IsInName is_end n text
  pub within : n < length text
  pub ends : ends_name (feed (slice_index text n)) ≡ true

-- what stands before the name of a tag
abbrev pub tag_opening : Bool → List ℕ
tag_opening is_end = if is_end then codes "</" else codes "<"

-- what a splice takes away is the name of a tag, from behind its `<` or `</` up to its end
pub record TakesName (tag : List ℕ) (s : Splice ℕ) : Type 0 where
  pub is_end : Bool
  pub opening : take s.from tag ≡ tag_opening is_end
  pub end : IsNameEnd is_end s.until tag

-- a tag with these bytes in the place of its name, and each other byte as it is
pub record IsNamed (name tag new : List ℕ) : Type 0 where
  pub splice : Splice ℕ
  pub takes : TakesName tag splice
  pub puts : splice.put ≡ name
  pub bytes : new ≡ with_splices tag (splice ∷ [])
