-- Selectors: what a selector text stands for.
use Rattle.std.specs.Prelude.{ℕ, List}

-- a test of a name, an id, a class or an attribute, or two tests joined
pub data Selector : Type 0 where
  Tag : List ℕ → Selector
  Id : List ℕ → Selector
  Class : List ℕ → Selector
  All : Selector
  And : Selector → Selector → Selector
  Or : Selector → Selector → Selector
  Descendant : Selector → Selector → Selector
  Parent : Selector → Selector → Selector
  Attribute : List ℕ → Selector
  AttributeValue : List ℕ → List ℕ → Selector
  AttributeValueWhitespacedContains : List ℕ → List ℕ → Selector
  AttributeValueStartsWith : List ℕ → List ℕ → Selector
  AttributeValueEndsWith : List ℕ → List ℕ → Selector
  AttributeValueSubstring : List ℕ → List ℕ → Selector
