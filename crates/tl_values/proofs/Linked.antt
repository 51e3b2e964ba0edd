-- Values with their links absolute.
use Rattle.std.proofs.Common.{List, None, Option, Some, ap, ap₂, append_assoc, drop, get_or, length, map, min, refl, sym, ℕ, ◌+◌, ◌++◌, ◌<◌, ◌∙◌, ◌∷◌, ◌≡◌}
use Rattle.std.proofs.lemmas.List.{drop_more}
use Rattle.std.specs.List.{find}
use Rattle.std.specs.Option.{option_and_then, option_map}
use Rattle.std.specs.Prelude.{slice_range}
use Rattle.tl_dom_spec.specs.Tags as dom
use Rattle.tl_tree.specs.Asked.{attributes_at}
use Rattle.tl_tree.specs.Rows.{Row}
use Rattle.tl_tree_extract.specs.Links.{link_said}
use Rattle.tl_tree_extract.specs.declared.page_links.Link.{Link}
use Rattle.tl_values.specs.Absolute.{absolute, absolute_from, absolute_value}
use Rattle.tl_values.specs.Inner.Absolute.{part_of}
use Rattle.tl_values.specs.Keys.{has_key, value_at}
use Rattle.tl_values.specs.NewValues.{absolute_got, pattern_got, unless_stands}
use Rattle.tl_values.specs.Patterns.{replaced_by_pattern}
use Rattle.tl_values.specs.declared.pattern.Pattern.{Pattern}
use Rattle.url.specs.Parts.{Parts}

-- one more link
pub link_more : (base : Parts) (value : List ℕ) (links : List Link) (i : ℕ) (d link : Link) (before after whole : List ℕ) (from next : ℕ)
    → i < length links → get_or links i d ≡ link
    → after ≡ (before ++ slice_range value from (part_of (link_said link)).start) ++ absolute base (part_of (link_said link)).bytes
    → next ≡ min ((part_of (link_said link)).start + length (part_of (link_said link)).bytes) (length value)
    → before ++ absolute_from base value from (map part_of (map link_said (drop i links))) ≡ whole
    → after ++ absolute_from base value next (map part_of (map link_said (drop (i + 1) links))) ≡ whole
link_more base value links i d link before after whole from next lt is-link is-after is-next e =
    let rest : List ℕ = absolute_from base value (min ((part_of (link_said link)).start + length (part_of (link_said link)).bytes) (length value)) (map part_of (map link_said (drop (i + 1) links))) in
    let opened : absolute_from base value from (map part_of (map link_said (drop i links)))
    ≡ (slice_range value from (part_of (link_said link)).start ++ absolute base (part_of (link_said link)).bytes) ++ rest =
    ap (λ own. absolute_from base value from (map part_of (map link_said own))) (drop_more links i d lt ∙ ap (λ own. own ∷ drop (i + 1) links) is-link) in
    ap₂ (λ xs n. xs ++ absolute_from base value n (map part_of (map link_said (drop (i + 1) links)))) is-after is-next
    ∙ ap (λ xs. xs ++ rest) (append_assoc before (slice_range value from (part_of (link_said link)).start) (absolute base (part_of (link_said link)).bytes))
    ∙ append_assoc before (slice_range value from (part_of (link_said link)).start ++ absolute base (part_of (link_said link)).bytes) rest
    ∙ ap (λ xs. before ++ xs) (sym opened) ∙ e

-- What a node gets

pub no_link_got : (base : Parts) (key : List ℕ) (rows : List Row) (number : ℕ) → find (has_key key) (attributes_at rows number) ≡ None
    → absolute_got base key rows number ≡ None
no_link_got base key rows number none =
    ap (λ (own : Option dom.Attribute). option_and_then (unless_stands (option_map (λ (a : dom.Attribute). a.value) own)) (option_map (absolute_value base rows number) own)) none

pub link_got : (base : Parts) (key : List ℕ) (rows : List Row) (number : ℕ) (a : dom.Attribute) → find (has_key key) (attributes_at rows number) ≡ Some a
    → absolute_got base key rows number ≡ unless_stands (Some a.value) (absolute_value base rows number a)
link_got base key rows number a some =
    ap (λ (own : Option dom.Attribute). option_and_then (unless_stands (option_map (λ (a : dom.Attribute). a.value) own)) (option_map (absolute_value base rows number) own)) some

pub no_pattern_got : (pattern : Pattern) (key : List ℕ) (rows : List Row) (number : ℕ) → value_at key (attributes_at rows number) ≡ None
    → pattern_got pattern key rows number ≡ None
no_pattern_got pattern key rows number none =
    ap (λ (own : Option (List ℕ)). option_and_then (unless_stands own) (option_map (replaced_by_pattern pattern) own)) none

pub some_pattern_got : (pattern : Pattern) (key : List ℕ) (rows : List Row) (number : ℕ) (value : List ℕ) → value_at key (attributes_at rows number) ≡ Some value
    → pattern_got pattern key rows number ≡ unless_stands (Some value) (replaced_by_pattern pattern value)
some_pattern_got pattern key rows number value some =
    ap (λ (own : Option (List ℕ)). option_and_then (unless_stands own) (option_map (replaced_by_pattern pattern) own)) some
