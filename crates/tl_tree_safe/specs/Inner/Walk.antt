-- What is written of rows, one after the other, with the elements that are open.
use Rattle.std.specs.List.{filter}
use Rattle.std.specs.Option.{option_and_then, option_map, unwrap_or}
use Rattle.std.specs.Prelude.{Bool, List, Option, [], codes, false, if◌then◌else◌, length, max, nat_le, nat_lt, not, reverse, suc, true, zero, ℕ, ◌+◌, ◌-◌, ◌&&◌, ◌++◌, ◌∷◌}
use Rattle.tl_dom_spec.specs.Tags.{Tag, is_html}
use Rattle.tl_html_print.specs.Inner.Printed.{html_name_at, tag_at}
use Rattle.tl_html_print.specs.Serialized.{escaped, start_tag}
use Rattle.tl_safe_fit.specs.Kinds.{is_preformatted, is_void_kind, kind_of}
use Rattle.tl_safe_fit.specs.Levels.{has_room, level_inside, outermost_level}
use Rattle.tl_safe_fit.specs.Words.{is_among}
use Rattle.tl_safe_fit.specs.declared.kinds.Kind.{Kind}
use Rattle.tl_safe_fit.specs.declared.levels.Level.{Level}
use Rattle.tl_tree.specs.Asked.{end_at, name_of, node_at, text_of}
use Rattle.tl_tree.specs.Rows.{Node, Row, a_text, an_element}
use Rattle.tl_tree_safe.specs.Inner.Levels.{no_parts}
use Rattle.tl_tree_safe.specs.Inner.Pass.{first_said}
use Rattle.tl_tree_safe.specs.Characters.{cleaned}
use Rattle.tl_tree_safe.specs.Kept.{kept_tag}
use Rattle.tl_tree_safe.specs.Lists.{ListedWords, opaque_names}
use Rattle.tl_tree_spec.specs.HtmlForest.{is_empty}
use Rattle.tl_tree_spec.specs.Stays.{may_be_read}
use Rattle.tl_tree_safe.specs.declared.fate.Fate.{Fate}
use Rattle.tl_tree_safe.specs.declared.fate.Fate.TheVariants.{Goes, Stays, Unwrapped}
use Rattle.tl_tree_safe.specs.declared.writer.Open.{Open}
use Rattle.tl_tree_safe.specs.declared.writer.Writer.{Writer}

-- where a walk has come to: what there is room for, whether the innermost open element is one that
-- drops a line feed first and has nothing in it yet, and the open elements, the innermost first
pub record Spot : Type 0 where
  pub level : Level
  pub fresh : Bool
  pub opens : List Open

abbrev pub begin : Spot
begin = record { level = outermost_level no_parts; fresh = false; opens = [] }

-- what a writer says
abbrev pub spot_of : Writer → Spot
spot_of w = record { level = w.level; fresh = w.fresh; opens = reverse w.opens.items }

-- Elements that end

abbrev pub name_end : List ℕ → List ℕ
name_end name = codes "</" ++ (name ++ codes ">")

abbrev pub name_at : List Row → ℕ → Option (List ℕ)
name_at rows number = option_and_then name_of (node_at rows number)

-- the end tag of an element
abbrev pub end_written : List Row → ℕ → List ℕ
end_written rows number = unwrap_or (option_map name_end (name_at rows number)) []

-- those of the open elements that end before a row
abbrev pub ends_written : List Row → ℕ → List Open → List ℕ
ends_written rows number [] = []
ends_written rows number (o ∷ opens) =
    if nat_le o.end number
    then end_written rows o.number ++ ends_written rows number opens
    else []

-- where they have ended
abbrev pub outside : ℕ → Level → Bool → List Open → Spot
outside number level fresh [] = record { level = level; fresh = fresh; opens = [] }
outside number level fresh (o ∷ opens) =
    if nat_le o.end number
    then outside number o.outer false opens
    else record { level = level; fresh = fresh; opens = o ∷ opens }

abbrev pub ended : ℕ → Spot → Spot
ended number spot = outside number spot.level spot.fresh spot.opens

-- whether the innermost one ends before a row
abbrev pub ends_before : ℕ → List Open → Bool
ends_before number [] = false
ends_before number (o ∷ opens) = nat_le o.end number

abbrev pub innermost_end : List Row → List Open → List ℕ
innermost_end rows [] = []
innermost_end rows (o ∷ opens) = end_written rows o.number

-- where it has ended
abbrev pub outside_one : Level → List Open → Spot
outside_one level [] = record { level = level; fresh = false; opens = [] }
outside_one level (o ∷ opens) = record { level = o.outer; fresh = false; opens = opens }

-- Texts

-- what stays of a text, where the rules are those of "in body" and where they are not
abbrev pub said_where : Bool → List ℕ → List ℕ
said_where in_flow bytes = filter (may_be_read in_flow) (cleaned bytes)

abbrev pub said_at : Spot → List ℕ → List ℕ
said_at spot bytes = first_said spot.fresh (said_where spot.level.path.flow bytes)

abbrev pub text_written : Spot → List ℕ → List ℕ
text_written spot bytes = escaped false (said_at spot bytes)

abbrev pub behind_text : Spot → List ℕ → Spot
behind_text spot bytes =
    record spot { fresh = spot.fresh && is_empty (said_at spot bytes) }

abbrev pub text_at : List Row → ℕ → Option (List ℕ)
text_at rows number = option_and_then text_of (node_at rows number)

-- Elements

-- what becomes of a listed one, by its kind
abbrev pub listed_fate : Level → Kind → Fate
listed_fate level k =
    if has_room level.here k then Stays k
    else if is_void_kind k then Goes
    else Unwrapped

-- of an element of HTML of a name
abbrev pub named_fate : ListedWords → Level → List ℕ → Fate
named_fate p level name =
    if is_among p.tags name then listed_fate level (kind_of name)
    else if is_among opaque_names name then Goes
    else Unwrapped

abbrev pub fate_of : ListedWords → Level → Tag → Fate
fate_of p level tag = if not (is_html tag) then Goes else named_fate p level tag.name

abbrev pub fate_at : ListedWords → List Row → Level → ℕ → Fate
fate_at p rows level number =
    unwrap_or (option_map (named_fate p level) (html_name_at rows number)) Goes

-- the start tag of one that stays
abbrev pub fate_written : List ℕ → Fate → List ℕ
fate_written start (Stays k) = start
fate_written start _ = []

abbrev pub start_at : ListedWords → List Row → ℕ → List ℕ
start_at p rows number =
    unwrap_or (option_map (λ tag. start_tag (kept_tag p tag)) (tag_at rows number)) []

-- inside of an element that is written
abbrev pub inside : ℕ → ℕ → Kind → Spot → Spot
inside number end k spot = record {
  level = level_inside no_parts spot.level k;
  fresh = is_preformatted k;
  opens = record { number = number; end = end; outer = spot.level } ∷ spot.opens;
}

abbrev pub behind_element : ℕ → ℕ → Fate → Spot → Spot
behind_element number end (Stays k) spot =
    if is_void_kind k then record spot { fresh = false } else inside number end k spot
behind_element number end _ spot = spot

-- whether nothing is written of what is below it
abbrev pub is_passed : Fate → Bool
is_passed (Stays k) = is_void_kind k
is_passed Unwrapped = false
is_passed _ = true

-- Rows

abbrev pub node_written : ListedWords → Spot → Node → List ℕ
node_written p spot (an_element tag) =
    fate_written (start_tag (kept_tag p tag)) (fate_of p spot.level tag)
node_written p spot (a_text own) = text_written spot own.said
node_written p spot _ = []

abbrev pub behind_node : ListedWords → ℕ → ℕ → Spot → Node → Spot
behind_node p number end spot (an_element tag) =
    behind_element number end (fate_of p spot.level tag) spot
behind_node p number end spot (a_text own) = behind_text spot own.said
behind_node p number end spot _ = spot

abbrev pub is_passed_node : ListedWords → Spot → Node → Bool
is_passed_node p spot (an_element tag) = is_passed (fate_of p spot.level tag)
is_passed_node p spot _ = false

abbrev pub row_written : ListedWords → List Row → Spot → ℕ → List ℕ
row_written p rows spot number =
    unwrap_or (option_map (node_written p spot) (node_at rows number)) []

abbrev pub end_or_none : List Row → ℕ → ℕ
end_or_none rows number = unwrap_or (end_at rows number) 0

abbrev pub behind_row : ListedWords → List Row → Spot → ℕ → Spot
behind_row p rows spot number =
    unwrap_or
    (option_map
    (behind_node p number (end_or_none rows number) spot)
    (node_at rows number))
    spot

-- whether what is below a row is passed
abbrev pub is_passed_at : ListedWords → List Row → Spot → ℕ → Bool
is_passed_at p rows spot number =
    unwrap_or (option_map (is_passed_node p spot) (node_at rows number)) false

-- the row that comes next: the one behind, or behind what is below
abbrev pub next_by : List Row → ℕ → Bool → ℕ
next_by rows number is_passed =
    if is_passed then max (number + 1) (end_or_none rows number) else number + 1

abbrev pub next_row : ListedWords → List Row → Spot → ℕ → ℕ
next_row p rows spot number = next_by rows number (is_passed_at p rows spot number)

-- so many rows at most, from one on
abbrev pub walked_up_to : ListedWords → List Row → ℕ → ℕ → Spot → List ℕ
walked_up_to p rows zero number spot = ends_written rows number spot.opens
walked_up_to p rows (suc most) number spot =
    elim (nat_lt number (length rows)) as (λ _. List ℕ) [
      | true ↦ (
          let here = ended number spot in
          ends_written rows number spot.opens
          ++ (row_written p rows here number
          ++ walked_up_to p rows most (next_row p rows here number)
          (behind_row p rows here number)))
      | false ↦ ends_written rows number spot.opens
    ]

abbrev pub walked_from : ListedWords → List Row → ℕ → Spot → List ℕ
walked_from p rows number spot = walked_up_to p rows (length rows - number) number spot

abbrev pub walked : ListedWords → List Row → List ℕ
walked p rows = walked_from p rows 0 begin
