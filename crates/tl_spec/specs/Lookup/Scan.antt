-- Where the tags with an id stand in a table, and where those of a class.
use Rattle.std.specs.Prelude.{◌≡◌, ◌↔◌, ◌<◌, ◌≤◌, ℕ, ◌+◌, Bool, true, false, List, [], ◌∷◌, Option, None, Some, option_map, slice_get, if◌then◌else◌}
use Rattle.std.specs.List.{AllPairs, Contains, position_from}
use Rattle.std.specs.Str.{bytes_eq}
use Rattle.tl_spec.specs.Lex.Token.{Token, PlacedToken, Start}
use Rattle.tl_spec.specs.Lookup.ClassMember.{has_member}
use Rattle.tl_spec.specs.Tree.Document.{Node, Tag, Raw, Comment}
use Rattle.tl_spec.specs.Tree.Builder.{start_node}

-- the id of a node, if it is a tag that has one
abbrev pub id_of : Node → Option (List ℕ)
id_of (Tag own) = own.attributes.id
id_of (Raw bytes) = None
id_of (Comment bytes) = None

-- the class of a node, if it is a tag that has one
abbrev pub class_of : Node → Option (List ℕ)
class_of (Tag own) = own.attributes.class
class_of (Raw bytes) = None
class_of (Comment bytes) = None

-- whether there is a value, and it is v
abbrev pub is_value : List ℕ → Option (List ℕ) → Bool
is_value v None = false
is_value v (Some value) = bytes_eq v value

-- whether a node has the id i
abbrev pub has_id : List ℕ → Node → Bool
has_id i node = is_value i (id_of node)

-- whether a node has the class member c
abbrev pub is_in_class : List ℕ → Node → Bool
is_in_class c node = has_member (class_of node) c

module _ {A : Type 0} (p : A → Bool) where
  -- the places of the items that pass, in order, where the first item has the place n
  abbrev pub places_from : ℕ → List A → List ℕ
  places_from n [] = []
  places_from n (x ∷ xs) = if p x then n ∷ places_from (n + 1) xs else places_from (n + 1) xs

  -- the item at a place passes
  abbrev pub PassesAt : List A → ℕ → Type 0
  PassesAt xs n = option_map p (slice_get xs n) ≡ Some true

  -- the first place at which an item passes, or none where none does
  abbrev pub IsFirstPlace : List A → Option ℕ → Type 0
  IsFirstPlace xs None = (m : ℕ) → PassesAt xs m → ⊥
  IsFirstPlace xs (Some n) = PassesAt xs n × ((m : ℕ) → PassesAt xs m → n ≤ m)

  -- all places at which an item passes, rising
  pub record ArePlaces (xs : List A) (ns : List ℕ) : Type 0 where
    pub rising : AllPairs (λ m n. m < n) ns
    pub passing : (n : ℕ) → Contains ns n ↔ PassesAt xs n

-- the least number whose node has the id i
abbrev pub id_scan : List Node → List ℕ → Option ℕ
id_scan nodes i = position_from (has_id i) 0 nodes

-- the numbers whose nodes have the class member c
abbrev pub class_scan : List Node → List ℕ → List ℕ
class_scan nodes c = places_from (is_in_class c) 0 nodes

-- the tag that a token of the text t adds, if it is a start tag
abbrev pub tags_of : List ℕ → PlacedToken → Token → List Node
tags_of t k (Start name pairs alone) = start_node t k name pairs ∷ []
tags_of t k _ = []
