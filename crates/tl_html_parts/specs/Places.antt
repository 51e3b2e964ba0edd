-- Where the parts of a tag stand in a text.
use Rattle.std.specs.Prelude.{◌≡◌, ◌≤◌, ◌<◌, ◌-◌, ℕ, Bool, true, List, [], ◌∷◌, drop, length, map, take}
use Rattle.std.specs.List.{All}
use Rattle.tl_html_spec.specs.HtmlTokenizer.{EndTag, HtmlToken, StartTag}
use Rattle.tl_html_tokens.specs.Kinds.{IsEndTag, IsStartTag}
use Rattle.tl_html_tokens.specs.Whole.{IsWhole}
use Rattle.tl_html_tokens.specs.declared.mode.Mode.{Mode}
use Rattle.tl_html_parts.specs.Parts.{attributes_of, name_of, value_of}
use Rattle.tl_html_parts.specs.Rest.{HasRest}
use Rattle.tl_html_parts.specs.declared.place.AttributePlace.{AttributePlace}
use Rattle.tl_html_parts.specs.declared.place.NextPart.{NextPart}
use Rattle.tl_html_parts.specs.declared.place.NextPart.TheVariants.{Attribute, End}
use Rattle.tl_html_parts.specs.declared.place.PartPlace.{PartPlace}

-- the bytes of a part
abbrev pub part_in : List ℕ → PartPlace → List ℕ
part_in text p = take (p.end - p.start) (drop p.start text)

-- a part stands in a text, and says its bytes where it is plain
pub record IsPart (said : List ℕ → List ℕ) (text : List ℕ) (p : PartPlace) : Type 0 where
  pub order : p.start ≤ p.end
  pub within : p.end ≤ length text
  pub plain : p.is_plain ≡ true → said (part_in text p) ≡ part_in text p

-- the parts of attributes stand in a text
abbrev pub AreParts : List ℕ → List AttributePlace → Type 0
AreParts text attributes =
    All (λ a. IsPart name_of text a.key × IsPart value_of text a.value) attributes

-- the bytes of a key and of its value
abbrev pub pair_in : List ℕ → AttributePlace → List ℕ × List ℕ
pair_in text a = (part_in text a.key, part_in text a.value)

abbrev pub pairs_in : List ℕ → List AttributePlace → List (List ℕ × List ℕ)
pairs_in text attributes = map (pair_in text) attributes

-- the rest of a tag from a place on is this attribute, and what stands after it
pub record IsAttributeAt (text : List ℕ) (from : ℕ) (a : AttributePlace) : Type 0 where
  pub key : IsPart name_of text a.key
  pub value : IsPart value_of text a.value
  pub order : from < a.end
  pub within : a.end ≤ length text
  pub rest : (more : List (List ℕ × List ℕ)) (closes : Bool) →
      HasRest (drop a.end text) more closes →
      HasRest (drop from text) ((part_in text a.key, part_in text a.value) ∷ more) closes

-- what comes next in the rest of a tag from a place on
abbrev pub IsNext : List ℕ → ℕ → NextPart → Type 0
IsNext text from (Attribute a) = IsAttributeAt text from a
IsNext text from (End closes) = HasRest (drop from text) [] closes

-- the name of the tag whose bytes go from a place to the end of a text: an end tag says no more, a
-- start tag also what the rest says
pub record IsNameAt (text : List ℕ) (start : ℕ) (name : PartPlace) : Type 0 where
  pub part : IsPart name_of text name
  pub start_told : (attributes : List (List ℕ × List ℕ)) (closes : Bool) →
      HasRest (drop name.end text) attributes closes →
      (mode : Mode) (tokens : List HtmlToken) →
      IsWhole mode (drop start text) tokens → IsStartTag tokens →
      tokens ≡ StartTag (name_of (part_in text name)) (attributes_of attributes) closes ∷ []
  pub end_told : (mode : Mode) (tokens : List HtmlToken) →
      IsWhole mode (drop start text) tokens → IsEndTag tokens →
      tokens ≡ EndTag (name_of (part_in text name)) ∷ []
