-- The URLs of a `srcset` attribute (4.8.4.2.1, "parse a srcset attribute") and of a `ping`.
use Rattle.std.specs.Prelude.{Bool, List, None, Option, Some, [], false, if◌then◌else◌, length, nat_lt, not, take, true, ℕ, ◌==◌, ◌∷◌}
use Rattle.tl_tree_extract.specs.Runs.{behind, length_without}
use Rattle.tl_tree_extract.specs.Spans.{up_to}
use Rattle.tl_tree_extract.specs.declared.candidates.Item as declared
use Rattle.tl_tree_extract.specs.declared.run.Run.TheVariants.{Comma, Separator, White, Word}

-- a URL in a value: what is left of the value where it begins, the URL, and what is left where the
-- next one is looked for
pub record Item : Type 0 where
  pub rest : List ℕ
  pub url : List ℕ
  pub next : List ℕ

abbrev pub item_said : declared.Item → Item
item_said i = record { rest = i.rest.now; url = i.url.now; next = i.next.now }

-- "descriptor tokenizer": what stands behind the comma that ends the descriptors of a candidate.
-- A comma in parentheses ends none
abbrev pub behind_descriptors : Bool → List ℕ → List ℕ
behind_descriptors parens [] = []
behind_descriptors false (b ∷ bytes) =
    elim (b == 44) as (λ _. List ℕ) [ true ↦ bytes | false ↦ behind_descriptors (b == 40) bytes ]
behind_descriptors true (b ∷ bytes) = behind_descriptors (not (b == 41)) bytes

-- a URL up to the next white space, of which the commas at the end are taken off: where there is
-- one, no descriptors follow
abbrev pub candidate_from : List ℕ → Option Item
candidate_from [] = None
candidate_from (b ∷ bytes) =
    let rest = b ∷ bytes in
    let later = behind Word rest in
    let url = up_to rest later in
    let len = length_without Comma url (length url) in
    Some (record {
      rest = rest;
      url = take len url;
      next = if nat_lt len (length url) then later else behind_descriptors false later;
    })

-- "splitting loop": white space and commas are passed over
abbrev pub next_candidate : List ℕ → Option Item
next_candidate bytes = candidate_from (behind Separator bytes)

-- a URL up to the next white space
abbrev pub word_from : List ℕ → Option Item
word_from [] = None
word_from (b ∷ bytes) =
    let rest = b ∷ bytes in
    let later = behind Word rest in
    Some (record { rest = rest; url = up_to rest later; next = later })

abbrev pub next_word : List ℕ → Option Item
next_word bytes = word_from (behind White bytes)
