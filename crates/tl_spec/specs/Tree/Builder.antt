-- The document written token by token, with the open tags at hand.
use Rattle.std.specs.Prelude.{◌≡◌, ◌≤◌, ℕ, zero, suc, Bool, true, false, ◌||◌, All, List, [], ◌∷◌, ◌++◌, length, Option, None, Some, slice_get, fold}
use Rattle.std.specs.List.{between}
use Rattle.tl_spec.specs.Lex.ByteClass.{is_void}
use Rattle.tl_spec.specs.Lex.Attribute.{Pair}
use Rattle.tl_spec.specs.Lex.Token.{Token, PlacedToken, Text, End, Comment, Doctype, Start, Nothing, tokens}
use Rattle.tl_spec.specs.Lex.Grammar.{StandFrom}
use Rattle.tl_spec.specs.Tree.Inline.{room, with_last}
use Rattle.tl_spec.specs.Tree.Forest.{closes, source_tag}
use Rattle.tl_spec.specs.Tree.Document.{Node, TagNode, Tag, Raw, Comment as CommentNode, tag_node}

-- what has been written: the nodes, the numbers of the open tags (innermost first), the top list,
-- and whether a doctype was that of HTML5
pub record State : Type 0 where
  pub nodes : List Node
  pub open_tags : List ℕ
  pub top : List ℕ
  pub is_html5 : Bool

-- before the first token
abbrev pub start : State
start = record { nodes = []; open_tags = []; top = []; is_html5 = false }

-- the list with the item at a place changed
abbrev pub map_at : {A : Type 0} → (A → A) → ℕ → List A → List A
map_at f i [] = []
map_at f zero (x ∷ xs) = f x ∷ xs
map_at f (suc i) (x ∷ xs) = x ∷ map_at f i xs

-- a node with one more child
abbrev pub with_child : ℕ → Node → Node
with_child n (Tag own) = Tag (record own { children = with_last room own.children n })
with_child n (Raw bytes) = Raw bytes
with_child n (CommentNode bytes) = CommentNode bytes

-- a node whose raw ends at a place of the text
abbrev pub with_raw_to : List ℕ → ℕ → Node → Node
with_raw_to t to (Tag own) = Tag (record own { raw = between own.start to t })
with_raw_to t to (Raw bytes) = Raw bytes
with_raw_to t to (CommentNode bytes) = CommentNode bytes

-- the name of a node that is a tag
abbrev pub name_if_tag : Option Node → Option (List ℕ)
name_if_tag None = None
name_if_tag (Some (Tag own)) = Some own.name
name_if_tag (Some (Raw bytes)) = None
name_if_tag (Some (CommentNode bytes)) = None

-- the name of the innermost open tag
abbrev pub enclosing_name : List Node → List ℕ → Option (List ℕ)
enclosing_name nodes [] = None
enclosing_name nodes (p ∷ ps) = name_if_tag (slice_get nodes p)

-- a number becomes the last child of the first of these tags, or the last of the top list where
-- there is none
abbrev pub with_child_of_first : ℕ → State → List ℕ → State
with_child_of_first n s [] = record s { top = s.top ++ n ∷ [] }
with_child_of_first n s (p ∷ ps) = record s { nodes = map_at (with_child n) p s.nodes }

-- a number becomes the last child of the innermost open tag, or the last of the top list
abbrev pub with_child_of_innermost : ℕ → State → State
with_child_of_innermost n s = with_child_of_first n s s.open_tags

-- one more node, as the last child of the innermost open tag
abbrev pub with_next_node : Node → State → State
with_next_node node s = let adopting = with_child_of_innermost (length s.nodes) s in
    record adopting { nodes = adopting.nodes ++ node ∷ [] }

-- one more tag, which opens
abbrev pub with_open_tag : Node → State → State
with_open_tag node s =
    let adding = with_next_node node s in record adding { open_tags = length s.nodes ∷ s.open_tags }

-- the first of these tags closed, its raw up to a place of the text
abbrev pub with_first_closed : List ℕ → ℕ → State → List ℕ → State
with_first_closed t to s [] = s
with_first_closed t to s (p ∷ ps) =
    record s { nodes = map_at (with_raw_to t to) p s.nodes; open_tags = ps }

-- the innermost open tag closed
abbrev pub with_innermost_closed : List ℕ → ℕ → State → State
with_innermost_closed t to s = with_first_closed t to s s.open_tags

-- a start tag as a node, without children yet
abbrev pub start_node : List ℕ → PlacedToken → List ℕ → List Pair → Node
start_node t k name pairs = Tag (tag_node t (source_tag k name pairs) [])

module _ (t : List ℕ) where
  -- a start tag, and whether it stands alone
  abbrev pub after_start : Node → State → Bool → State
  after_start node s true = with_next_node node s
  after_start node s false = with_open_tag node s

  -- an end tag that ends at a place, and whether it closes the innermost open tag
  abbrev pub after_end : ℕ → State → Bool → State
  after_end to s true = with_innermost_closed t to s
  after_end to s false = s

  -- one token, which stands where k does
  abbrev pub after_token : PlacedToken → State → Token → State
  after_token k s (Text bytes) = with_next_node (Raw bytes) s
  after_token k s (Comment bytes) = with_next_node (CommentNode bytes) s
  after_token k s (Start name pairs alone) =
      after_start (start_node t k name pairs) s (alone || is_void name)
  after_token k s (End name) = after_end k.to s (closes name (enclosing_name s.nodes s.open_tags))
  after_token k s (Doctype html) = record s { is_html5 = s.is_html5 || html }
  after_token k s Nothing = s

  -- one token of the text t
  abbrev pub step : State → PlacedToken → State
  step s k = after_token k s k.token

  -- tokens of the text t in order
  abbrev pub run : State → List PlacedToken → State
  run s ks = fold step s ks

-- the number of a tag of the table that begins at this place of the text or before it
pub record IsOpen (place : ℕ) (nodes : List Node) (p : ℕ) : Type 0 where
  pub own : TagNode
  pub found : slice_get nodes p ≡ Some (Tag own)
  pub begun : own.start ≤ place

-- each open tag is one
abbrev pub AreOpen : ℕ → State → Type 0
AreOpen place s = All (IsOpen place s.nodes) s.open_tags

-- a state that the tokens of t up to this place lead to: those after it lead on to where all tokens
-- do
pub record IsReached (t : List ℕ) (place : ℕ) (s : State) : Type 0 where
  pub within : place ≤ length t
  pub leads_on : (ks : List PlacedToken) → StandFrom t place ks →
      run t s ks ≡ run t start (tokens t)
  pub are_open : AreOpen place s
  pub few : length s.nodes ≤ place
