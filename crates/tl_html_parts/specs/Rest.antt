-- What the tokenizer reads of the rest of a tag, after its name.
use Rattle.std.specs.Prelude.{◌≡◌, ℕ, Bool, List, [], ◌∷◌, if◌then◌else◌}
use Rattle.tl_html_spec.specs.HtmlTokenizer.{HtmlToken, EndTag, StartTag, OpenTag, before_attribute_name, tokens_from, with_feeds}
use Rattle.tl_html_parts.specs.Parts.{with_attributes}

-- where a key may begin (13.2.5.32)
abbrev pub tail_tokens : OpenTag → List ℕ → List HtmlToken
tail_tokens tag rest = tokens_from (before_attribute_name tag) (with_feeds rest)

-- what a tag becomes
abbrev pub token_of : OpenTag → Bool → HtmlToken
token_of tag closes =
    if tag.is_end then EndTag tag.name else StartTag tag.name tag.attributes closes

-- the rest of a tag has these attributes and this flag, or the text ends in it
pub data IsTail (tag : OpenTag) (rest : List ℕ) (attributes : List (List ℕ × List ℕ))
    (closes : Bool) : Type 0 where
  cut : tail_tokens tag rest ≡ [] → IsTail tag rest attributes closes
  whole : (more : List HtmlToken) →
      tail_tokens tag rest ≡ token_of (with_attributes tag attributes) closes ∷ more →
      IsTail tag rest attributes closes

-- the same whatever tag it is the rest of
abbrev pub HasRest : List ℕ → List (List ℕ × List ℕ) → Bool → Type 0
HasRest rest attributes closes = (tag : OpenTag) → IsTail tag rest attributes closes
