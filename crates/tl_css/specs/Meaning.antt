-- Where a selector of CSS holds: at tags.
use Rattle.std.specs.Prelude.{◌≡◌, ◌≢◌, ◌↔◌, ◌⊎◌, ◌<◌, ◌≤◌, ◌+ℤ◌, ◌*ℤ◌, ℕ, zero, suc, pos, Bool, true, false, if◌then◌else◌, List, [], ◌∷◌, ◌++◌, length, Some, slice_get, ⊤}
use Rattle.std.specs.List.{All, AllPairs, Contains, slice_split}
use Rattle.std.specs.Option.{IsSome, IsSomeAnd, unwrap_or}
use Rattle.std.specs.Str.{byte, str_to_ascii_lowercase}
use Rattle.tl_spec.specs.Lex.Attribute.{Pair}
use Rattle.tl_spec.specs.Lex.AttributeList.{pairs_in_order}
use Rattle.tl_spec.specs.Tree.Document.{Node, Tag, Raw, Comment, TagNode}
use Rattle.tl_spec.specs.Tree.Element.{name_of, children_of}
use Rattle.tl_spec.specs.Lookup.Scan.{has_id, is_in_class}
use Rattle.tl_spec.specs.Select.Meaning.{IsChild}
use Rattle.tl_css.specs.declared.selector.Op.{Op}
use Rattle.tl_css.specs.declared.selector.Op.TheVariants.{Equals, Word, Dashed, Starts, Ends, Inside}
use Rattle.tl_css.specs.declared.selector.Link.{Link}
use Rattle.tl_css.specs.declared.selector.Link.TheVariants.{Parent, Sibling, Twin}
use Rattle.tl_css.specs.declared.selector.Reach.{Reach}
use Rattle.tl_css.specs.declared.selector.Reach.TheVariants.{Once, Often}
use Rattle.tl_css.specs.declared.selector.Way.{Way}
use Rattle.tl_css.specs.declared.selector.Way.TheVariants.{From, To}
use Rattle.tl_css.specs.declared.selector.Formula.{Formula}
use Rattle.tl_css.specs.Selector.{folds_by, Test, Any, Name, Id, Class, Key, Value, Empty, May, Css, Is, Not, Both, Either, At, Nth}
use Rattle.tl_css.specs.Bytes.{is_white}

-- the pairs of a tag, `id` and `class` too
abbrev pub pairs_of : Node → List Pair
pairs_of (Tag own) =
    pairs_in_order (λ key. key) own.attributes.others.entries own.attributes.id own.attributes.class
pairs_of (Raw bytes) = []
pairs_of (Comment bytes) = []

-- bytes as they are, or in lower case
abbrev pub folded : Bool → List ℕ → List ℕ
folded folds bytes = if folds then str_to_ascii_lowercase bytes else bytes

-- a value passes an op with another; the empty value begins, ends and is inside of nothing
abbrev pub Passes : Op → List ℕ → List ℕ → Type 0
Passes Equals value own = own ≡ value
Passes Word value own = (value ≢ []) × Contains (slice_split is_white own) value
Passes Dashed value own = (own ≡ value) ⊎ ((rest : List ℕ) × (own ≡ value ++ byte "-" ∷ rest))
Passes Starts value own = (value ≢ []) × (rest : List ℕ) × (own ≡ value ++ rest)
Passes Ends value own = (value ≢ []) × (before : List ℕ) × (own ≡ before ++ value)
Passes Inside value own =
    (value ≢ []) × (before : List ℕ) × (behind : List ℕ) × (own ≡ before ++ value ++ behind)

-- the same in any case, where `folds`
abbrev pub PassesBy : Bool → Op → List ℕ → List ℕ → Type 0
PassesBy folds op value own = Passes op (folded folds value) (folded folds own)

-- there is a key that is this one in lower case, and what stands there passes: nothing stands for
-- the empty value. No key has a namespace
abbrev pub HasKey : (List ℕ → Type 0) → List ℕ → Node → Type 0
HasKey P key node = (pair : Pair) × Contains (pairs_of node) pair
    × (str_to_ascii_lowercase pair.0 ≡ key) × P (unwrap_or pair.1 [])

-- count is a k + b for some k
abbrev pub IsTerm : Formula → ℕ → Type 0
IsTerm formula count = (k : ℕ) × (pos count ≡ (formula.a *ℤ pos k) +ℤ formula.b)

-- so many numbers have the property
pub record IsCount (P : ℕ → Type 0) (count : ℕ) : Type 0 where
  pub numbers : List ℕ
  pub rising : AllPairs (λ m n. m < n) numbers
  pub each : (n : ℕ) → Contains numbers n ↔ P n
  pub many : length numbers ≡ count

module _ (nodes : List Node) where
  -- the number of a tag
  abbrev pub IsTag : ℕ → Type 0
  IsTag n = IsSomeAnd (slice_get nodes n) (λ node. IsSome (name_of node))

  -- a child is no text with a byte, and no tag
  abbrev pub IsNothing : ℕ → Type 0
  IsNothing n = (slice_get nodes n ≡ Some (Raw []))
      ⊎ ((bytes : List ℕ) × (slice_get nodes n ≡ Some (Comment bytes)))

  -- a name is this one in lower case
  abbrev pub IsNamed : List ℕ → Node → Type 0
  IsNamed name node = IsSomeAnd (name_of node) (λ own. str_to_ascii_lowercase own ≡ name)

  -- a test passes at a tag; the keys `id` and `class` are these in exact case. No anchor is given,
  -- so any tag may be one, and the outermost stands in none
  abbrev pub IsMet : Test → Node → Type 0
  IsMet Any node = ⊤
  IsMet (Name name) node = IsNamed name.lower node
  IsMet (Id id) node = has_id id node ≡ true
  IsMet (Class class) node = is_in_class class node ≡ true
  IsMet (Key space key) node = HasKey (λ own. ⊤) key.lower node
  IsMet (Value space key op value case) node =
      HasKey (PassesBy (folds_by case false) op value) key.lower node
  IsMet Empty node = All IsNothing (children_of node)
  IsMet (May anchor) node = ⊤

  -- both are tags, and children of the same node or of none
  pub record AreSiblings (m n : ℕ) : Type 0 where
    pub first : IsTag m
    pub second : IsTag n
    pub parents : (p : ℕ) → IsChild nodes p m ↔ IsChild nodes p n

  -- both are tags of one name, in any case
  abbrev pub AreNamesakes : ℕ → ℕ → Type 0
  AreNamesakes m n = (name : List ℕ) × IsSomeAnd (slice_get nodes m) (IsNamed name)
      × IsSomeAnd (slice_get nodes n) (IsNamed name)

  -- m is among the tags that links of this kind lead to from n, and stands before it
  abbrev pub IsBefore : Link → ℕ → ℕ → Type 0
  IsBefore Parent m n = IsChild nodes m n
  IsBefore Sibling m n = (m < n) × AreSiblings m n
  IsBefore Twin m n = (m < n) × AreSiblings m n × AreNamesakes m n

  -- m is the last of them: where one link leads
  abbrev pub IsLink : Link → ℕ → ℕ → Type 0
  IsLink l m n = IsBefore l m n × ((k : ℕ) → IsBefore l k n → k ≤ m)

  -- k links and one more lead from n to m
  abbrev pub AreLinks : Link → ℕ → ℕ → ℕ → Type 0
  AreLinks l zero m n = IsLink l m n
  AreLinks l (suc k) m n = (j : ℕ) × IsLink l j n × AreLinks l k m j

  abbrev pub IsReached : Link → Reach → ℕ → ℕ → Type 0
  IsReached l Once m n = IsLink l m n
  IsReached l Often m n = (k : ℕ) × AreLinks l k m n

  -- m stands there, seen from n
  abbrev pub StandsThere : Way → Link → Reach → ℕ → ℕ → Type 0
  StandsThere From l r m n = IsReached l r m n
  StandsThere To l r m n = IsReached l r n m

  -- m is n, or stands at any distance there
  abbrev pub IsUpTo : Way → Link → ℕ → ℕ → Type 0
  IsUpTo y l m n = (m ≡ n) ⊎ StandsThere y l Often m n

  -- a selector holds at the node n of the table
  abbrev pub Holds : Css → ℕ → Type 0
  Holds (Is test) n = IsTag n × IsSomeAnd (slice_get nodes n) (IsMet test)
  Holds (Not e) n = IsTag n × (Holds e n → ⊥)
  Holds (Both a b) n = Holds a n × Holds b n
  Holds (Either a b) n = Holds a n ⊎ Holds b n
  Holds (At y l r e) n = IsTag n × (m : ℕ) × StandsThere y l r m n × Holds e m
  Holds (Nth y l formula e) n = Holds e n × (count : ℕ)
      × IsCount (λ m. IsUpTo y l m n × Holds e m) count × IsTerm formula count

  -- the numbers of the tags where a selector holds: each once, rising
  pub record AreFound (e : Css) (ns : List ℕ) : Type 0 where
    pub rising : AllPairs (λ m n. m < n) ns
    pub each : (n : ℕ) → Contains ns n ↔ Holds e n

  -- children rise, above their parent and in the table
  abbrev pub AreChildrenRising : Type 0
  AreChildrenRising = (n : ℕ) (own : TagNode) → slice_get nodes n ≡ Some (Tag own)
      → AllPairs (λ a b. a < b) (n ∷ own.children.items)
      × All (λ c. c < length nodes) own.children.items

  -- each node is the child of one at most, and children rise
  pub record IsForest : Type 0 where
    pub rising : AreChildrenRising
    pub once : (l m n : ℕ) → IsChild nodes l n → IsChild nodes m n → l ≡ m
