-- Selector texts by cases, one for each row of the grammar, in the words of bytes and what stands
-- after them.
use Rattle.std.specs.Prelude.{◌≡◌, ◌≢◌, ℕ, true, List, [], ◌∷◌, ◌++◌, codes}
use Rattle.std.specs.Str.{byte}
use Rattle.tl_spec.specs.Lex.ByteClass.{space, is_ident, is_quote}
use Rattle.tl_spec.specs.Lex.Grammar.{IsRun}
use Rattle.tl_spec.specs.Select.Selector.{Selector, Tag, Id, Class, All, And, Or, Descendant, Parent, Attribute, AttributeValue, AttributeValueWhitespacedContains, AttributeValueStartsWith, AttributeValueEndsWith, AttributeValueSubstring}

-- none or more spaces; no other blank is one
pub data AreSpaces : List ℕ → Type 0 where
  no_space : AreSpaces []
  one_space : {s : List ℕ} → AreSpaces s → AreSpaces (space ∷ s)

-- an op, and the selector that it gives of a key and a value
pub data OpGives : List ℕ → (List ℕ → List ℕ → Selector) → Type 0 where
  equal : OpGives (codes "=") AttributeValue
  has_part : OpGives (codes "~=") AttributeValueWhitespacedContains
  starts : OpGives (codes "^=") AttributeValueStartsWith
  ends : OpGives (codes "$=") AttributeValueEndsWith
  contains : OpGives (codes "*=") AttributeValueSubstring

-- the value v at the front of s, and what stands after it
pub data ValueStands : List ℕ → List ℕ → List ℕ → Type 0 where
  bare : {s v rest : List ℕ} → IsRun is_ident s v rest → ValueStands s v rest
  quoted : {s v rest : List ℕ} {q : ℕ} → is_quote q ≡ true → IsRun is_ident s v (q ∷ rest) →
      ValueStands (q ∷ s) v rest

-- the simple part at the front of s, and what stands after it; runs are as long as can be, and
-- empty ones count but for a tag's name
pub data SimpleStands : List ℕ → Selector → List ℕ → Type 0 where
  id_part : {s i rest : List ℕ} → IsRun is_ident s i rest → SimpleStands (byte "#" ∷ s) (Id i) rest
  class_part : {s i rest : List ℕ} → IsRun is_ident s i rest →
      SimpleStands (byte "." ∷ s) (Class i) rest
  all_part : {rest : List ℕ} → SimpleStands (byte "*" ∷ rest) All rest
  tag_part : {s i rest : List ℕ} → i ≢ [] → IsRun is_ident s i rest → SimpleStands s (Tag i) rest
  key_part : {s k rest : List ℕ} → IsRun is_ident s k (byte "]" ∷ rest) →
      SimpleStands (byte "[" ∷ s) (Attribute k) rest
  value_part : {s k op u v rest : List ℕ} {gives : List ℕ → List ℕ → Selector} →
      IsRun is_ident s k (op ++ u) → OpGives op gives → ValueStands u v (byte "]" ∷ rest) →
      SimpleStands (byte "[" ∷ s) (gives k v) rest

-- the joint at the front of s, as what it gives of two selectors, and what stands after it:
-- nothing, at least one space, or `>`
pub data JointStands : List ℕ → (Selector → Selector → Selector) → List ℕ → Type 0 where
  touching : {rest : List ℕ} → JointStands rest And rest
  spaced : {spaces rest : List ℕ} → AreSpaces spaces →
      JointStands (space ∷ spaces ++ rest) Descendant rest
  stepped : {before after rest : List ℕ} → AreSpaces before → AreSpaces after →
      JointStands (before ++ byte ">" ∷ (after ++ rest)) Parent rest

-- the chain at the front of s, and what stands after it: simple parts with a joint between each
-- two, from the left
pub data ChainStands : List ℕ → Selector → List ℕ → Type 0 where
  first_part : {s rest : List ℕ} {e : Selector} → SimpleStands s e rest → ChainStands s e rest
  next_part : {s m n rest : List ℕ} {a b : Selector} {gives : Selector → Selector → Selector} →
      ChainStands s a m → JointStands m gives n → SimpleStands n b rest →
      ChainStands s (gives a b) rest

-- a chain, and the spaces before and after it
pub data SpacedChainStands : List ℕ → Selector → List ℕ → Type 0 where
  spaced_chain : {before s after rest : List ℕ} {e : Selector} →
      AreSpaces before → ChainStands s e (after ++ rest) → AreSpaces after →
      SpacedChainStands (before ++ s) e rest

-- the chains at the front of s with a `,` between each two, from the left, and what stands after
-- them
pub data ChainsStand : List ℕ → Selector → List ℕ → Type 0 where
  first_chain : {s rest : List ℕ} {e : Selector} → SpacedChainStands s e rest → ChainsStand s e rest
  next_chain : {s m rest : List ℕ} {a b : Selector} → ChainsStand s a (byte "," ∷ m) →
      SpacedChainStands m b rest → ChainsStand s (Or a b) rest

-- the text is derived as this selector: its chains end where it does
abbrev pub IsSelectorText : List ℕ → Selector → Type 0
IsSelectorText s e = ChainsStand s e []

-- the text is one simple part, with spaces around it
pub data StandsAlone : List ℕ → Type 0 where
  alone : {before s after : List ℕ} {e : Selector} →
      AreSpaces before → SimpleStands s e after → AreSpaces after → StandsAlone (before ++ s)
