-- Where a selector of CSS holds in a page: at elements.
use Rattle.std.specs.Prelude.{◌≡◌, ◌≢◌, ◌↔◌, ◌⊎◌, ◌<◌, ◌≤◌, ◌+ℤ◌, ◌*ℤ◌, ◌&&◌, ℕ, zero, suc, pos, Bool, true, false, if◌then◌else◌, List, [], ◌∷◌, ◌++◌, codes, length, slice_get, Option, Some, None, ⊤}
use Rattle.std.specs.List.{All, AllPairs, Any as AnyOf, Contains, slice_split}
use Rattle.std.specs.Option.{IsSome, IsSomeAnd, is_some, option_and_then, option_map_or}
use Rattle.std.specs.Str.{byte, str_to_ascii_lowercase}
use Rattle.tl_css.specs.declared.selector.Anchor.{Anchor}
use Rattle.tl_css.specs.declared.selector.Anchor.TheVariants.{Root, Scope}
use Rattle.tl_css.specs.declared.selector.Op.{Op}
use Rattle.tl_css.specs.declared.selector.Op.TheVariants.{Equals, Word, Dashed, Starts, Ends, Inside}
use Rattle.tl_css.specs.declared.selector.Link.{Link}
use Rattle.tl_css.specs.declared.selector.Link.TheVariants.{Parent, Sibling, Twin}
use Rattle.tl_css.specs.declared.selector.Reach.{Reach}
use Rattle.tl_css.specs.declared.selector.Reach.TheVariants.{Once, Often}
use Rattle.tl_css.specs.declared.selector.Way.{Way}
use Rattle.tl_css.specs.declared.selector.Way.TheVariants.{From, To}
use Rattle.tl_css.specs.declared.selector.Formula.{Formula}
use Rattle.tl_css.specs.declared.selector.Space.{Space}
use Rattle.tl_css.specs.declared.selector.Space.TheVariants.{Bare, Every}
use Rattle.tl_css.specs.Selector.{folds_by, Ident, Test, Any, Name, Id, Class, Key, Value, Empty, May, Css, Is, Not, Both, Either, At, Nth}
use Rattle.tl_css.specs.Bytes.{is_white}
use Rattle.tl_dom_spec.specs.Tables.{no_bytes}
use Rattle.tl_dom_spec.specs.Tags as dom
use Rattle.tl_dom_spec.specs.Tags.{is_html}
use Rattle.tl_names.specs.Elements.{is_among}
use Rattle.tl_tree.specs.Asked.{attributes_at, children_at, end_at, name_of, node_at, outer_end, parent_at, value_of}
use Rattle.tl_tree.specs.Rows.{IsInRange, Node, Row, a_comment, a_doctype, a_text, an_element, contents}
use Rattle.tl_tree_select.specs.Page.{Page}
use Rattle.tl_tree_select.specs.AnyCase.{any_case_keys}

-- Values

-- bytes as they are, or in lower case
abbrev pub folded : Bool → List ℕ → List ℕ
folded folds bytes = if folds then str_to_ascii_lowercase bytes else bytes

-- a value passes an op with another; the empty value begins, ends and is inside of nothing
abbrev pub Passes : Op → List ℕ → List ℕ → Type 0
Passes Equals value own = own ≡ value
Passes Word value own = (value ≢ []) × Contains (slice_split is_white own) value
Passes Dashed value own = (own ≡ value) ⊎ ((rest : List ℕ) × (own ≡ value ++ byte "-" ∷ rest))
Passes Starts value own = (value ≢ []) × (rest : List ℕ) × (own ≡ value ++ rest)
Passes Ends value own = (value ≢ []) × (before : List ℕ) × (own ≡ before ++ value)
Passes Inside value own =
    (value ≢ []) × (before : List ℕ) × (behind : List ℕ) × (own ≡ before ++ value ++ behind)

-- the same in any case, where `folds`
abbrev pub PassesBy : Bool → Op → List ℕ → List ℕ → Type 0
PassesBy folds op value own = Passes op (folded folds value) (folded folds own)

-- Nodes

abbrev pub is_element : Node → Bool
is_element node = is_some (name_of node)

-- what counts for nothing where an element is asked whether it is empty: it has no byte of text,
-- and is no element; the contents of a `template` are no children
abbrev pub is_nothing : Node → Bool
is_nothing (an_element tag) = false
is_nothing contents = true
is_nothing (a_text own) = no_bytes own.said
is_nothing (a_comment own) = true
is_nothing (a_doctype own) = true

abbrev pub is_html_element : Node → Bool
is_html_element (an_element tag) = is_html tag
is_html_element _ = false

-- the namespace and the name of an element
abbrev pub expanded_name : Node → Option (dom.Namespace × List ℕ)
expanded_name (an_element tag) = Some (tag.space, tag.name)
expanded_name _ = None

-- a name or a key as it is asked for: of an HTML element in lower case, of another as it is written
abbrev pub spelled : Bool → Ident → List ℕ
spelled is_html own = if is_html then own.lower else own.written

-- Counting

-- count is a k + b for some k
abbrev pub IsTerm : Formula → ℕ → Type 0
IsTerm formula count = (k : ℕ) × (pos count ≡ (formula.a *ℤ pos k) +ℤ formula.b)

-- so many numbers have the property
pub record IsCount (P : ℕ → Type 0) (count : ℕ) : Type 0 where
  pub numbers : List ℕ
  pub rising : AllPairs (λ m n. m < n) numbers
  pub each : (n : ℕ) → Contains numbers n ↔ P n
  pub many : length numbers ≡ count

-- where what a row stands in ends, or all rows do
abbrev pub outer_end_at : List Row → ℕ → Option ℕ
outer_end_at rows number =
    option_and_then (λ (row : Row). outer_end rows row.parent) (slice_get rows number)

module _ (page : Page) where
  -- the number of an element
  abbrev pub IsElement : ℕ → Type 0
  IsElement n = IsSomeAnd (node_at page.rows n) (λ node. IsSome (name_of node))

  abbrev pub IsNothing : ℕ → Type 0
  IsNothing n = option_map_or is_nothing (node_at page.rows n) false ≡ true

  abbrev pub is_html_at : ℕ → Bool
  is_html_at n = option_map_or is_html_element (node_at page.rows n) false

  -- Tests

  abbrev pub IsNamed : Ident → ℕ → Type 0
  IsNamed name n =
      option_and_then name_of (node_at page.rows n) ≡ Some (spelled (is_html_at n) name)

  -- an element has an attribute of a key without a namespace, and its value passes
  abbrev pub HasValue : (List ℕ → Type 0) → List ℕ → ℕ → Type 0
  HasValue P key n = IsSomeAnd (value_of key (attributes_at page.rows n)) P

  -- the same of an attribute of a key in one of these namespaces
  abbrev pub HasAttribute : (List ℕ → Type 0) → Space → List ℕ → ℕ → Type 0
  HasAttribute P Bare key n = HasValue P key n
  HasAttribute P Every key n = AnyOf
      (λ (a : dom.Attribute). (a.key ≡ key) × P a.value) (attributes_at page.rows n)

  -- whether the case of a value is folded though no flag says so
  abbrev pub folds_at : List ℕ → ℕ → Bool
  folds_at key n = is_html_at n && is_among any_case_keys key

  -- the root of a document: in a fragment no `html` stands in no row
  abbrev pub IsRoot : ℕ → Type 0
  IsRoot n = (parent_at page.rows n ≡ None) × (is_html_at n ≡ true)
      × (option_and_then name_of (node_at page.rows n) ≡ Some (codes "html"))

  -- what a page is searched from
  abbrev pub IsScope : Option ℕ → ℕ → Type 0
  IsScope None n = IsRoot n
  IsScope (Some m) n = m ≡ n

  abbrev pub IsAnchor : Anchor → ℕ → Type 0
  IsAnchor Root n = IsRoot n
  IsAnchor Scope n = IsScope page.scope n

  -- a test passes at an element
  abbrev pub IsMet : Test → ℕ → Type 0
  IsMet Any n = ⊤
  IsMet (Name name) n = IsNamed name n
  IsMet (Id id) n = HasValue (PassesBy page.is_quirks Equals id) (codes "id") n
  IsMet (Class class) n = HasValue (PassesBy page.is_quirks Word class) (codes "class") n
  IsMet (Key space key) n = HasAttribute (λ own. ⊤) space (spelled (is_html_at n) key) n
  IsMet (Value space key op value case) n =
      HasAttribute (PassesBy (folds_by case (folds_at key.lower n)) op value) space
      (spelled (is_html_at n) key) n
  IsMet Empty n = All IsNothing (children_at page.rows n)
  IsMet (May anchor) n = IsAnchor anchor n

  -- Links

  -- both are elements that stand in the same row, or in none
  pub record AreSiblings (m n : ℕ) : Type 0 where
    pub first : IsElement m
    pub second : IsElement n
    pub parents : parent_at page.rows m ≡ parent_at page.rows n

  -- both are elements of one namespace and name
  abbrev pub AreNamesakes : ℕ → ℕ → Type 0
  AreNamesakes m n = (name : dom.Namespace × List ℕ)
      × (option_and_then expanded_name (node_at page.rows m) ≡ Some name)
      × (option_and_then expanded_name (node_at page.rows n) ≡ Some name)

  -- m is among the elements that links of this kind lead to from n, and stands before it: what the
  -- contents of a `template` stand in is no parent of what stands in them
  abbrev pub IsBefore : Link → ℕ → ℕ → Type 0
  IsBefore Parent m n = IsElement m × (parent_at page.rows n ≡ Some m)
  IsBefore Sibling m n = (m < n) × AreSiblings m n
  IsBefore Twin m n = (m < n) × AreSiblings m n × AreNamesakes m n

  -- m is the last of them: where one link leads
  abbrev pub IsLink : Link → ℕ → ℕ → Type 0
  IsLink l m n = IsBefore l m n × ((k : ℕ) → IsBefore l k n → k ≤ m)

  -- k links and one more lead from n to m
  abbrev pub AreLinks : Link → ℕ → ℕ → ℕ → Type 0
  AreLinks l zero m n = IsLink l m n
  AreLinks l (suc k) m n = (j : ℕ) × IsLink l j n × AreLinks l k m j

  abbrev pub IsReached : Link → Reach → ℕ → ℕ → Type 0
  IsReached l Once m n = IsLink l m n
  IsReached l Often m n = (k : ℕ) × AreLinks l k m n

  -- m stands there, seen from n
  abbrev pub StandsThere : Way → Link → Reach → ℕ → ℕ → Type 0
  StandsThere From l r m n = IsReached l r m n
  StandsThere To l r m n = IsReached l r n m

  -- m is n, or stands at any distance there
  abbrev pub IsUpTo : Way → Link → ℕ → ℕ → Type 0
  IsUpTo y l m n = (m ≡ n) ⊎ StandsThere y l Often m n

  -- Selectors

  -- a selector holds at the row n of the page
  abbrev pub Holds : Css → ℕ → Type 0
  Holds (Is test) n = IsElement n × IsMet test n
  Holds (Not e) n = IsElement n × (Holds e n → ⊥)
  Holds (Both a b) n = Holds a n × Holds b n
  Holds (Either a b) n = Holds a n ⊎ Holds b n
  Holds (At y l r e) n = IsElement n × (m : ℕ) × StandsThere y l r m n × Holds e m
  Holds (Nth y l formula e) n = Holds e n × (count : ℕ)
      × IsCount (λ m. IsUpTo y l m n × Holds e m) count × IsTerm formula count

  -- a row stands in the contents of a `template`, at any depth
  abbrev pub IsInContents : ℕ → Type 0
  IsInContents n = (m : ℕ) × (node_at page.rows m ≡ Some contents) × IsInRange page.rows m n

  -- a selector holds at an element of the document
  abbrev pub IsFound : Css → ℕ → Type 0
  IsFound e n = Holds e n × (IsInContents n → ⊥)

  -- the numbers of the elements of the document where a selector holds: each once, rising
  pub record AreFound (e : Css) (ns : List ℕ) : Type 0 where
    pub rising : AllPairs (λ m n. m < n) ns
    pub each : (n : ℕ) → Contains ns n ↔ IsFound e n

  -- the first element of the document where a selector holds
  pub record IsFirst (e : Css) (n : ℕ) : Type 0 where
    pub found : IsFound e n
    pub first : (m : ℕ) → IsFound e m → n ≤ m

  -- a selector holds at an element below a row, outside of contents below that
  abbrev pub IsFoundBelow : Css → ℕ → ℕ → Type 0
  IsFoundBelow e outer n = Holds e n × IsInRange page.rows outer n
      × ((m : ℕ) → node_at page.rows m ≡ Some contents → IsInRange page.rows outer m
      → IsInRange page.rows m n → ⊥)

  -- the numbers of the elements below a row where a selector holds: each once, rising
  pub record AreFoundBelow (e : Css) (outer : ℕ) (ns : List ℕ) : Type 0 where
    pub rising : AllPairs (λ m n. m < n) ns
    pub each : (n : ℕ) → Contains ns n ↔ IsFoundBelow e outer n

  -- a row stands behind another one in what that stands in: a sibling after it, or below one
  abbrev pub IsBehind : ℕ → ℕ → Type 0
  IsBehind before n = IsSomeAnd (end_at page.rows before) (λ start. start ≤ n)
      × IsSomeAnd (outer_end_at page.rows before) (λ end. n < end)

  -- a selector holds at an element behind a row, outside of contents behind that
  abbrev pub IsFoundBehind : Css → ℕ → ℕ → Type 0
  IsFoundBehind e before n = Holds e n × IsBehind before n
      × ((m : ℕ) → node_at page.rows m ≡ Some contents → IsBehind before m
      → IsInRange page.rows m n → ⊥)

  -- the numbers of the elements behind a row where a selector holds: each once, rising
  pub record AreFoundBehind (e : Css) (before : ℕ) (ns : List ℕ) : Type 0 where
    pub rising : AllPairs (λ m n. m < n) ns
    pub each : (n : ℕ) → Contains ns n ↔ IsFoundBehind e before n

  -- of a row and the elements that it stands in the innermost one where a selector holds: each
  -- other one stands around it
  pub record IsClosest (e : Css) (n m : ℕ) : Type 0 where
    pub around : IsUpTo From Parent m n
    pub holds : Holds e m
    pub innermost : (k : ℕ) → IsUpTo From Parent k n → Holds e k → IsUpTo From Parent k m
