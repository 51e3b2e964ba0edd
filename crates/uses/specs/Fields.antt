-- Fields in the place of their names: in texts, in values, in trees, in documents.
use Rattle.std.specs.Prelude.{ℕ, ◌+◌, List, [], ◌∷◌, ◌++◌, Option, Some, None, codes, drop, take, map, flat_map, position, if◌then◌else◌, ◌==◌}
use Rattle.std.specs.Map.{lookup}
use Rattle.std.specs.Option.{option_map}
use Rattle.std.specs.Str.{bytes_eq}
use Rattle.tl_spec.specs.Lex.AttributeList.{Attributes, PlainAttributes, attributes_image}
use Rattle.tl_spec.specs.Lex.ByteClass.{less, quote}
use Rattle.tl_spec.specs.Tree.Document.{Document, Node, Tag, Raw, Comment}
use Rattle.tl_spec.specs.Tree.Forest.{Forest, none, text, comment, tag, PlainTag}
use Rattle.tl_spec.specs.Tree.Inline.{pair_image, map_image}
use Rattle.uses.specs.Split.{pieces}
use Rattle.uses.specs.declared.field.Field.{Field}

-- names with their values
abbrev pub Fields : Type 0
Fields = List (List ℕ × List ℕ)

-- those that a slice of fields holds
abbrev pub fields_of : List Field → Fields
fields_of fields = map (λ (field : Field). (field.name.now, field.value.now)) fields

-- the value of the first field of a name
abbrev pub value_of : Fields → List ℕ → Option (List ℕ)
value_of fields name = lookup (λ own. bytes_eq own name) fields

-- the bytes { } &
abbrev pub opening : ℕ
opening = 0x7B

abbrev pub closing : ℕ
closing = 0x7D

abbrev pub ampersand : ℕ
ampersand = 0x26

-- a byte of a value, as it may stand in a text and between double quotes
abbrev pub escape_of : ℕ → List ℕ
escape_of byte =
    if byte == ampersand then codes "&amp;"
    else if byte == less then codes "&lt;"
    else if byte == quote then codes "&quot;"
    else byte ∷ []

abbrev pub escape : List ℕ → List ℕ
escape = flat_map escape_of

-- what a value puts in the place of a part's name, where one is there; a part stands after a `{`
abbrev pub part_from : List ℕ → ℕ → Option (List ℕ) → List ℕ
part_from part end None = opening ∷ part
part_from part end (Some value) = escape value ++ drop (end + 1) part

-- a part whose name has this end, or none
abbrev pub part_to : Fields → List ℕ → Option ℕ → List ℕ
part_to fields part None = opening ∷ part
part_to fields part (Some end) = part_from part end (value_of fields (take end part))

-- a part whose name ends before its first `}`
abbrev pub part_with : Fields → List ℕ → List ℕ
part_with fields part = part_to fields part (position (λ byte. byte == closing) part)

-- the first of some parts, and those after it with fields
abbrev pub parts_with : Fields → List (List ℕ) → List ℕ
parts_with fields [] = []
parts_with fields (first ∷ later) = first ++ flat_map (part_with fields) later

-- a text with the escaped value in the place of each `{name}` of a field: it is cut at each `{`
abbrev pub text_with : Fields → List ℕ → List ℕ
text_with fields bytes = parts_with fields (pieces opening bytes)

-- the values of attributes with fields; keys stay
abbrev pub plain_attributes_with : Fields → PlainAttributes → PlainAttributes
plain_attributes_with fields a =
    attributes_image (text_with fields) (map
    (pair_image (λ key. key) (option_map (text_with fields)))) a

-- trees with fields in their texts and values; names, keys and comments stay
abbrev pub trees_with : Fields → Forest PlainTag → Forest PlainTag
trees_with fields none = none
trees_with fields (text bytes more) = text (text_with fields bytes) (trees_with fields more)
trees_with fields (comment bytes more) = comment bytes (trees_with fields more)
trees_with fields (tag own children more) =
    tag (record own { attributes = plain_attributes_with fields own.attributes })
    (trees_with fields children) (trees_with fields more)

-- with fields: the attributes in a table, a node, and a document
abbrev pub attributes_with : Fields → Attributes (List ℕ) → Attributes (List ℕ)
attributes_with fields a =
    attributes_image (text_with fields) (map_image (λ key. key) (option_map (text_with fields))) a

abbrev pub node_with : Fields → Node → Node
node_with fields (Tag own) = Tag (record own { attributes = attributes_with fields own.attributes })
node_with fields (Raw bytes) = Raw (text_with fields bytes)
node_with fields (Comment bytes) = Comment bytes

abbrev pub document_with : Fields → Document → Document
document_with fields d = record d { nodes = map (node_with fields) d.nodes }
