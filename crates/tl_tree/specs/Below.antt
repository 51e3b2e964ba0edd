-- What stands below a row, but for the contents of a `template`, which are not below it; and the
-- row before a row in what it stands in.
use Rattle.std.specs.Char.{is_ascii_whitespace}
use Rattle.std.specs.List.{concat, slice_split}
use Rattle.std.specs.Option.{is_some, option_and_then, option_map, unwrap_or}
use Rattle.std.specs.Prelude.{Bool, List, None, Option, Some, [], false, filter, if◌then◌else◌, map, nat_lt, slice_get, suc, true, zero, ℕ, ◌&&◌, ◌+◌, ◌-◌, ◌==◌, ◌∷◌}
use Rattle.tl_tree.specs.Asked.{ancestors_at, end_at, end_or, kind_of, node_at, text_of}
use Rattle.tl_tree.specs.Rows.{Row}
use Rattle.tl_tree.specs.declared.kind.Kind as kind
use Rattle.tl_tree.specs.declared.kind.Kind.TheVariants.{Contents, Element, Text}

abbrev pub is_contents : kind.Kind → Bool
is_contents Contents = true
is_contents _ = false

-- an element, or a text
abbrev pub is_sought : Bool → kind.Kind → Bool
is_sought false Element = true
is_sought true Text = true
is_sought _ _ = false

abbrev pub has_kind : (kind.Kind → Bool) → List Row → ℕ → Bool
has_kind test rows number =
    unwrap_or (option_map test (option_map kind_of (node_at rows number))) false

-- the row behind one, or behind what is in it where it is the contents of a `template`
abbrev pub next_outside : List Row → ℕ → ℕ → ℕ
next_outside rows number end =
    if has_kind is_contents rows number then end_or rows number end else number + 1

-- elements, or texts, from one row on up to an end
abbrev pub sought_from : Bool → List Row → ℕ → ℕ → ℕ → List ℕ
sought_from is_text rows zero number end = []
sought_from is_text rows (suc most) number end =
    elim (nat_lt number end) as (λ _. List ℕ) [
      | true ↦ (
          let more = sought_from is_text rows most (next_outside rows number end) end in
          if has_kind (is_sought is_text) rows number then number ∷ more else more)
      | false ↦ []
    ]

abbrev pub sought_up_to : Bool → List Row → ℕ → ℕ → List ℕ
sought_up_to is_text rows number end = sought_from is_text rows (end - number) number end

abbrev pub sought_below : Bool → List Row → ℕ → List ℕ
sought_below is_text rows number =
    sought_up_to is_text rows (number + 1) (end_or rows number 0)

-- the elements below a row
abbrev pub elements_below : List Row → ℕ → List ℕ
elements_below rows number = sought_below false rows number

abbrev pub said_at : List Row → ℕ → List ℕ
said_at rows number = unwrap_or (option_and_then text_of (node_at rows number)) []

-- what the texts below a row say
abbrev pub texts_below : List Row → ℕ → List (List ℕ)
texts_below rows number = map (said_at rows) (sought_below true rows number)

-- `textContent` of an element
abbrev pub text_content : List Row → ℕ → List ℕ
text_content rows number = concat (texts_below rows number)

-- The sibling before

abbrev pub ends_at : List Row → ℕ → ℕ → Bool
ends_at rows number end = unwrap_or (option_map (λ own. own == end) (end_at rows number)) false

-- the outermost of rows that end at a number, from the inside outwards
abbrev pub last_ended : List Row → ℕ → ℕ → List ℕ → ℕ
last_ended rows number found [] = found
last_ended rows number found (own ∷ outer) =
    if ends_at rows own number then last_ended rows number own outer else found

-- the outermost row that ends where a row begins
abbrev pub previous_sibling_at : List Row → ℕ → Option ℕ
previous_sibling_at rows zero = None
previous_sibling_at rows (suc last) =
    if is_some (slice_get rows (suc last)) && ends_at rows last (suc last)
    then Some (last_ended rows (suc last) last (ancestors_at rows last))
    else None

-- Words

abbrev pub is_filled : List ℕ → Bool
is_filled [] = false
is_filled (b ∷ word) = true

-- what stands between ASCII white space
abbrev pub words_of : List ℕ → List (List ℕ)
words_of bytes = filter is_filled (slice_split is_ascii_whitespace bytes)
