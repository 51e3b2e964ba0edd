-- What is told of rows, one after the other, as they are walked over.
use Rattle.std.specs.Option.{option_map, unwrap_or}
use Rattle.std.specs.Prelude.{List, [], false, if◌then◌else◌, length, nat_lt, suc, true, zero, ℕ, ◌-◌, ◌++◌}
use Rattle.tl_dom_spec.specs.Tags.{Tag}
use Rattle.tl_html_print.specs.Inner.Printed.{html_name_at}
use Rattle.tl_safe_fit.specs.Words.{is_among}
use Rattle.tl_tree.specs.Asked.{attributes_at, node_at}
use Rattle.tl_tree.specs.Rows.{Node, Row, an_element}
use Rattle.tl_tree_safe.specs.Inner.Walk.{Spot, begin, behind_row, ended, fate_of, next_row}
use Rattle.tl_tree_safe.specs.Lists.{ListedWords, opaque_names}
use Rattle.tl_tree_safe.specs.Removed.{Gone, attributes_gone, element_gone, lone_gone}
use Rattle.tl_tree_safe.specs.declared.fate.Fate.{Fate}
use Rattle.tl_tree_safe.specs.declared.fate.Fate.TheVariants.{Stays}
use Rattle.tl_tree_safe.specs.declared.removal.Cause.{Cause}
use Rattle.tl_tree_safe.specs.declared.removal.Cause.TheVariants.{ForeignTag, MisplacedTag, OpaqueTag, UnlistedTag}

-- why an element of HTML of a name goes that doesn't stay
abbrev pub named_cause : ListedWords → List ℕ → Cause
named_cause p name =
    if is_among p.tags name then MisplacedTag
    else if is_among opaque_names name then OpaqueTag
    else UnlistedTag

abbrev pub cause_at : ListedWords → List Row → ℕ → Cause
cause_at p rows number =
    unwrap_or (option_map (named_cause p) (html_name_at rows number)) ForeignTag

-- what is told of an element, by what becomes of it
abbrev pub fate_told : List Gone → List Gone → Fate → List Gone
fate_told attributes own (Stays k) = attributes
fate_told attributes own _ = own

abbrev pub fate_told_at : ListedWords → List Row → ℕ → Fate → List Gone
fate_told_at p rows number fate =
    fate_told (attributes_gone p number (attributes_at rows number))
    (lone_gone number (cause_at p rows number)) fate

abbrev pub tag_told : ListedWords → ℕ → Tag → Fate → List Gone
tag_told p number tag fate =
    fate_told (attributes_gone p number tag.attributes) (element_gone p number tag) fate

abbrev pub node_told : ListedWords → Spot → ℕ → Node → List Gone
node_told p spot number (an_element tag) =
    tag_told p number tag (fate_of p spot.level tag)
node_told p spot number _ = []

abbrev pub row_told : ListedWords → List Row → Spot → ℕ → List Gone
row_told p rows spot number =
    unwrap_or (option_map (node_told p spot number) (node_at rows number)) []

-- so many rows at most, from one on
abbrev pub told_up_to : ListedWords → List Row → ℕ → ℕ → Spot → List Gone
told_up_to p rows zero number spot = []
told_up_to p rows (suc most) number spot =
    elim (nat_lt number (length rows)) as (λ _. List Gone) [
      | true ↦ (
          let here = ended number spot in
          row_told p rows here number
          ++ told_up_to p rows most (next_row p rows here number)
          (behind_row p rows here number))
      | false ↦ []
    ]

abbrev pub told_from : ListedWords → List Row → ℕ → Spot → List Gone
told_from p rows number spot = told_up_to p rows (length rows - number) number spot

abbrev pub told : ListedWords → List Row → List Gone
told p rows = told_from p rows 0 begin
