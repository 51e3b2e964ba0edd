-- Which numbers of a store are in range: each is one of something that was put in earlier.
use Rattle.std.specs.Prelude.{Bool, List, None, Option, Some, [], nat_le, nat_lt, drop, suc, take, true, ℕ, ◌&&◌, ◌+◌, ◌||◌, ◌∷◌}
use Rattle.tl_names.specs.ElementNames.{name_of}
use Rattle.tl_names.specs.declared.element_name.ElementName.{ElementName}
use Rattle.tl_tree.specs.declared.cell.Cell.{Cell}
use Rattle.tl_tree.specs.declared.cell.Node.{Node}
use Rattle.tl_tree.specs.declared.cell.Node.TheVariants.{Comment, Doctype, Element, Joined, Text}
use Rattle.tl_tree.specs.declared.entries.AttributeEntry.{AttributeEntry}
use Rattle.tl_tree.specs.declared.entries.AttributeList.{AttributeList}
use Rattle.tl_tree.specs.declared.entries.DoctypeEntry.{DoctypeEntry}
use Rattle.tl_tree.specs.declared.entries.TagEntry.{TagEntry}
use Rattle.tl_tree.specs.Inner.MetNames.{number_in}
use Rattle.tl_tree.specs.declared.met_names.MetNames.{MetNames}
use Rattle.tl_tree.specs.declared.span.Span.{Span}

-- how much there is of each
pub record Sizes : Type 0 where
  pub page : ℕ
  pub side : ℕ
  pub tags : ℕ
  pub doctypes : ℕ

-- bytes lie in the page, or behind it in the side buffer
abbrev pub span_is_within : ℕ → ℕ → Span → Bool
span_is_within page side s =
    nat_le (s.start + s.len) page
    || (nat_le page s.start && nat_le (s.start + s.len) (page + side))

abbrev pub id_is_within : ℕ → ℕ → Option Span → Bool
id_is_within page side None = true
id_is_within page side (Some s) = span_is_within page side s

abbrev pub attribute_is_within : ℕ → ℕ → AttributeEntry → Bool
attribute_is_within page side a =
    span_is_within page side a.key && span_is_within page side a.value

-- where there are so many attributes in each list
abbrev pub tag_is_within : ℕ → ℕ → (AttributeList → ℕ) → TagEntry → Bool
tag_is_within page side many t =
    span_is_within page side t.name
    && nat_le (t.first_attribute + t.attribute_count) (many t.list)

abbrev pub doctype_is_within : ℕ → ℕ → DoctypeEntry → Bool
doctype_is_within page side d =
    span_is_within page side d.name
    && (id_is_within page side d.public_id && id_is_within page side d.system_id)

-- where there are so many rows
abbrev pub node_is_within : Sizes → ℕ → Node → Bool
node_is_within sizes rows (Text own) = span_is_within sizes.page sizes.side own.span
node_is_within sizes rows (Comment own) = span_is_within sizes.page sizes.side own.span
node_is_within sizes rows (Doctype n source) = nat_lt n sizes.doctypes
node_is_within sizes rows (Element tag below) = nat_lt tag sizes.tags && nat_le below rows
node_is_within sizes rows (Joined second) = nat_le second rows

abbrev pub cell_is_within : Sizes → ℕ → Cell → Bool
cell_is_within sizes rows c = nat_le c.before rows && node_is_within sizes rows c.node

-- cells that stand behind so many others
abbrev pub cells_are_within : Sizes → ℕ → List Cell → Bool
cells_are_within sizes rows [] = true
cells_are_within sizes rows (c ∷ cells) =
    cell_is_within sizes rows c && cells_are_within sizes (suc rows) cells

-- the number that a tag has for its name, and the one that its bytes have in a text
abbrev pub known_of : TagEntry → ElementName
known_of t = t.known

abbrev pub known_in : List ℕ → TagEntry → ElementName
known_in text t = name_of (take t.name.len (drop t.name.start text))

-- the number that a tag has for its name in any case, and the one that its bytes have
abbrev pub number_of : TagEntry → Option ℕ
number_of t = Some t.number

abbrev pub numbered_in : MetNames → List ℕ → TagEntry → Option ℕ
numbered_in names text t = number_in names (take t.name.len (drop t.name.start text))

-- the key that an attribute has in a text
abbrev pub key_in : List ℕ → AttributeEntry → List ℕ
key_in text a = take a.key.len (drop a.key.start text)
