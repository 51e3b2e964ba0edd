-- Where a selector holds.
use Rattle.std.specs.Prelude.{◌≡◌, ◌↔◌, ◌<◌, ◌≤◌, ℕ, zero, suc, ◌⊎◌, ⊤, Bool, true, false, ◌||◌, List, length, Option, None, Some, slice_get}
use Rattle.std.specs.List.{AllPairs, Contains}
use Rattle.std.specs.Option.{IsSome, IsSomeAnd}
use Rattle.tl_spec.specs.Tree.Document.{Node}
use Rattle.tl_spec.specs.Tree.Element.{name_of, attribute_of, children_of}
use Rattle.tl_spec.specs.Select.LossyText.{IsSameText, BeginsWith, EndsWith, HasPart, HasWord}
use Rattle.tl_spec.specs.Lookup.Scan.{id_of, is_in_class}
use Rattle.tl_spec.specs.Select.Selector.{Selector, Tag, Id, Class, All, And, Or, Descendant, Parent, Attribute, AttributeValue, AttributeValueWhitespacedContains, AttributeValueStartsWith, AttributeValueEndsWith, AttributeValueSubstring}

-- there is a key with a value, and the value passes
abbrev pub HasValue : (List ℕ → Type 0) → Option (Option (List ℕ)) → Type 0
HasValue Passes None = ⊥
HasValue Passes (Some value) = IsSomeAnd value Passes

-- a selector holds at a node alone, where no ancestors are known
abbrev pub HoldsAlone : Selector → Node → Type 0
HoldsAlone (Tag name) node = name_of node ≡ Some name
HoldsAlone (Id id) node = id_of node ≡ Some id
HoldsAlone (Class member) node = is_in_class member node ≡ true
HoldsAlone All node = ⊤
HoldsAlone (And a b) node = HoldsAlone a node × HoldsAlone b node
HoldsAlone (Or a b) node = HoldsAlone a node ⊎ HoldsAlone b node
HoldsAlone (Descendant a b) node = ⊥
HoldsAlone (Parent a b) node = ⊥
HoldsAlone (Attribute key) node = IsSome (attribute_of key node)
HoldsAlone (AttributeValue key value) node =
    HasValue (λ own. IsSameText own value) (attribute_of key node)
HoldsAlone (AttributeValueWhitespacedContains key value) node =
    HasValue (λ own. HasWord own value) (attribute_of key node)
HoldsAlone (AttributeValueStartsWith key value) node =
    HasValue (λ own. BeginsWith own value) (attribute_of key node)
HoldsAlone (AttributeValueEndsWith key value) node =
    HasValue (λ own. EndsWith own value) (attribute_of key node)
HoldsAlone (AttributeValueSubstring key value) node =
    HasValue (λ own. HasPart own value) (attribute_of key node)

-- whether a selector asks for ancestors
abbrev pub has_combinator : Selector → Bool
has_combinator (And a b) = has_combinator a || has_combinator b
has_combinator (Or a b) = has_combinator a || has_combinator b
has_combinator (Descendant a b) = true
has_combinator (Parent a b) = true
has_combinator _ = false

module _ (nodes : List Node) where
  -- the node n of the table stands among the children of m
  pub record IsChild (m n : ℕ) : Type 0 where
    pub within : n < length nodes
    pub listed : IsSomeAnd (slice_get nodes m) (λ node. Contains (children_of node) n)

  -- k steps and one more, each from a node to one of its children, lead from m down to n
  abbrev pub IsChain : ℕ → ℕ → ℕ → Type 0
  IsChain zero m n = IsChild m n
  IsChain (suc k) m n = (l : ℕ) × IsChain k m l × IsChild l n

  -- one or more steps lead from m down to n
  abbrev pub IsBelow : ℕ → ℕ → Type 0
  IsBelow m n = (k : ℕ) × IsChain k m n

  -- a selector holds at the node n of the table, whose other nodes count as ancestors
  abbrev pub Holds : Selector → ℕ → Type 0
  Holds (And a b) n = Holds a n × Holds b n
  Holds (Or a b) n = Holds a n ⊎ Holds b n
  Holds (Descendant a b) n = Holds b n × (m : ℕ) × Holds a m × IsBelow m n
  Holds (Parent a b) n = Holds b n × (m : ℕ) × Holds a m × IsChild m n
  Holds e n = IsSomeAnd (slice_get nodes n) (HoldsAlone e)

  -- the numbers from one on, and below another, of the nodes where a selector holds: each once,
  -- rising
  pub record AreMatches (e : Selector) (from to : ℕ) (ns : List ℕ) : Type 0 where
    pub rising : AllPairs (λ m n. m < n) ns
    pub each : (n : ℕ) → Contains ns n ↔ (from ≤ n) × (n < to) × Holds e n
