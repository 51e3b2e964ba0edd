-- Which encoding a page is in, where a label may be said.
use Rattle.std.specs.Prelude.{ℕ, List, [], ◌∷◌, Option, None, Some, option_map}
use Rattle.tl_encoding.specs.Decoders.{decoded}
use Rattle.tl_encoding.specs.Encodings.{encoding_in, encoding_labelled, encoding_marked, in_front_or}
use Rattle.tl_encoding.specs.Names.{name_of}
use Rattle.tl_encoding.specs.declared.encoding.Encoding.{Encoding}
use Rattle.tl_page.specs.Outcome.{Outcome, success}
use Rattle.tl_c.specs.Queries.{outcome_of_some}

-- a byte-order mark counts before a label
abbrev pub told_by : Option Encoding → List ℕ → Option Encoding
told_by said page = option_map (λ encoding. in_front_or (encoding_marked page) encoding) said

-- without a label it is what the page says, as browsers read it
abbrev pub told : List ℕ → List ℕ → Option Encoding
told [] page = Some (encoding_in page)
told (b ∷ label) page = told_by (encoding_labelled (b ∷ label)) page

-- what is no label is refused
abbrev pub name_told : List ℕ → List ℕ → Outcome (List ℕ)
name_told label page = outcome_of_some success (option_map name_of (told label page))

abbrev pub text_told : List ℕ → List ℕ → Outcome (List ℕ)
text_told label page =
    outcome_of_some success (option_map (λ encoding. decoded encoding page) (told label page))
