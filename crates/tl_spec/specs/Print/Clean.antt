-- Which trees and tables are clean: their print says all that they hold.
use Rattle.std.specs.Prelude.{◌≡◌, ◌≢◌, ℕ, IsTrue, not, ◌==◌, List, [], ◌∷◌, ◌++◌, Option, Some, None, codes, ⊤}
use Rattle.std.specs.List.{list_all, starts_with}
use Rattle.tl_spec.specs.Lex.ByteClass.{is_blank, is_name, is_void, less, bang, quote}
use Rattle.tl_spec.specs.Lex.Runs.{after_needle}
use Rattle.tl_spec.specs.Lex.Attribute.{Pair}
use Rattle.tl_spec.specs.Lex.AttributeList.{printed_pairs, HasOwnKeys}
use Rattle.tl_spec.specs.Tree.Forest.{Forest, none, text, comment, tag, PlainTag}
use Rattle.tl_spec.specs.Tree.Document.{Node, Tag, Raw, Comment}
use Rattle.tl_spec.specs.Walk.{Walk, end, meets_text, meets_comment, meets_tag, passes_tag, meets_fault, Event, meets, leaves, faulty, prints_children, walk, walk_of, plain_node, plain_attributes}

-- a nonempty run of name bytes
abbrev pub IsName : List ℕ → Type 0
IsName [] = ⊥
IsName (b ∷ name) = IsTrue (list_all is_name (b ∷ name))

-- no `"` stands in it
abbrev pub IsCleanValue : Option (List ℕ) → Type 0
IsCleanValue None = ⊤
IsCleanValue (Some v) = IsTrue (list_all (λ b. not (b == quote)) v)

-- keys that are names, with clean values
abbrev pub AreCleanPairs : List Pair → Type 0
AreCleanPairs [] = ⊤
AreCleanPairs (p ∷ ps) = IsName p.0 × IsCleanValue p.1 × AreCleanPairs ps

-- a tag's name and attributes: only a tag without attributes may have the empty name
abbrev pub IsCleanStart : List ℕ → List Pair → Type 0
IsCleanStart [] pairs = pairs ≡ []
IsCleanStart (b ∷ name) pairs = IsName (b ∷ name) × AreCleanPairs pairs

-- no `<` stands in it
abbrev pub IsCleanText : List ℕ → Type 0
IsCleanText bytes = IsTrue (list_all (λ b. not (b == less)) bytes)

-- `<`, blanks, `!`, and a text that begins with `--` and whose first `-->` is its end
pub record HasCommentForm (bytes : List ℕ) : Type 0 where
  pub blanks : List ℕ
  pub inside : List ℕ
  pub whole : bytes ≡ less ∷ blanks ++ bang ∷ inside
  pub all_blank : IsTrue (list_all is_blank blanks)
  pub opens : IsTrue (starts_with ◌==◌ inside (codes "--"))
  pub ends : after_needle (codes "-->") inside ≡ Some []

-- empty, or of that form
abbrev pub IsCleanComment : List ℕ → Type 0
IsCleanComment [] = ⊤
IsCleanComment (b ∷ bytes) = HasCommentForm (b ∷ bytes)

-- a tag's own part
pub record IsCleanTag (own : PlainTag) : Type 0 where
  pub start : IsCleanStart own.name (printed_pairs own.attributes)
  pub no_command : own.name ≢ codes "command"

-- trees that are clean
abbrev pub IsClean : Forest PlainTag → Type 0
IsClean none = ⊤
IsClean (text bytes more) = IsCleanText bytes × IsClean more
IsClean (comment bytes more) = IsCleanComment bytes × IsClean more
IsClean (tag own children more) =
    IsCleanTag own × (IsTrue (is_void own.name) → children ≡ none) × IsClean children × IsClean more

-- a walk that meets no fault, and only what is clean
abbrev pub IsCleanWalk : Walk → Type 0
IsCleanWalk end = ⊤
IsCleanWalk (meets_text h bytes more) = IsCleanText bytes × IsCleanWalk more
IsCleanWalk (meets_comment h bytes more) = IsCleanComment bytes × IsCleanWalk more
IsCleanWalk (meets_tag h own children more) =
    IsCleanTag (plain_node own) × (IsTrue (is_void own.name) → own.children.items ≡ [])
    × IsCleanWalk children × IsCleanWalk more
IsCleanWalk (passes_tag h own more) =
    IsCleanTag (plain_node own) × (IsTrue (is_void own.name) → own.children.items ≡ [])
    × IsCleanWalk more
IsCleanWalk (meets_fault e more) = ⊥

-- a table whose print's walk of the top list is clean
abbrev pub IsCleanTable : List Node → List ℕ → Type 0
IsCleanTable nodes top = IsCleanWalk (walk prints_children nodes [] top)

-- a node whose print's walk over a table is clean
abbrev pub IsCleanNode : List Node → Node → Type 0
IsCleanNode nodes node = IsCleanWalk (walk_of prints_children nodes node)

-- what the type of attributes keeps, for each tag of trees
abbrev pub HaveOwnKeys : Forest PlainTag → Type 0
HaveOwnKeys none = ⊤
HaveOwnKeys (text bytes more) = HaveOwnKeys more
HaveOwnKeys (comment bytes more) = HaveOwnKeys more
HaveOwnKeys (tag own children more) =
    HasOwnKeys own.attributes × HaveOwnKeys children × HaveOwnKeys more

-- a node keeps what the type of attributes keeps
abbrev pub NodeHasOwnKeys : Node → Type 0
NodeHasOwnKeys (Tag own) = HasOwnKeys (plain_attributes own.attributes)
NodeHasOwnKeys (Raw bytes) = ⊤
NodeHasOwnKeys (Comment bytes) = ⊤

-- the node that is met, if one is, keeps it too
abbrev pub MeetsOwnKeys : Event → Type 0
MeetsOwnKeys (meets h node) = NodeHasOwnKeys node
MeetsOwnKeys (leaves own) = ⊤
MeetsOwnKeys (faulty e) = ⊤

-- no attribute has the empty key, no value holds a `"`
abbrev pub AreTamePairs : List Pair → Type 0
AreTamePairs [] = ⊤
AreTamePairs (p ∷ ps) = (p.0 ≢ []) × IsCleanValue p.1 × AreTamePairs ps

-- that holds of each tag, and none is a `command`
abbrev pub IsTame : Forest PlainTag → Type 0
IsTame none = ⊤
IsTame (text bytes more) = IsTame more
IsTame (comment bytes more) = IsTame more
IsTame (tag own children more) =
    AreTamePairs (printed_pairs own.attributes) × (own.name ≢ codes "command") × IsTame children
    × IsTame more
