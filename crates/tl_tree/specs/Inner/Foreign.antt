-- Tags of `svg` and `math`, in words of `tl_dom_spec`.
use Rattle.std.specs.Prelude.{Bool, List, codes, drop, false, true, ℕ}
use Rattle.tl_dom_spec.specs.Adjusted.{foreign_name}
use Rattle.tl_dom_spec.specs.Tags.{Attribute, AttributeSpace, Namespace, Tag}

-- a name as its namespace has it, or as it is
abbrev pub own_name : Bool → Namespace → List ℕ → List ℕ
own_name true space name = foreign_name space name
own_name false space name = name

abbrev pub renamed : Bool → Namespace → Tag → Tag
renamed is_renamed space t = record t { name = own_name is_renamed space t.name }

-- an attribute with what is behind so many bytes of a key
abbrev pub spaced : AttributeSpace → ℕ → List ℕ → List ℕ → Attribute
spaced space len key value = record { space = space; key = drop len key; value = value }

abbrev pub link_keys : List ℕ
link_keys =
    codes "xlink:actuate xlink:arcrole xlink:href xlink:role xlink:show xlink:title xlink:type"
