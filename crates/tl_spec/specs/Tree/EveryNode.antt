-- What holds of each node that a walk meets, and of each of some trees.
use Rattle.std.specs.Prelude.{◌≡◌, ℕ, Bool, IsTrue, List, [], ◌++◌, ⊤}
use Rattle.std.specs.Str.Lossy.{utf8_lossy}
use Rattle.tl_spec.specs.Lex.ByteClass.{is_void}
use Rattle.tl_spec.specs.Print.Clean.{IsCleanComment, IsCleanTag, IsCleanText}
use Rattle.tl_spec.specs.Tree.Forest.{Forest, none, text, comment, tag, PlainTag}
use Rattle.tl_spec.specs.Tree.Document.{Node, Tag, Raw, Comment}
use Rattle.tl_spec.specs.Print.Normal.{lossy_tag}
use Rattle.tl_spec.specs.Walk.{Walk, end, meets_text, meets_comment, meets_tag, passes_tag, meets_fault, plain_node}

-- a node that is clean by itself, whatever hangs below it
abbrev pub IsCleanAlone : Node → Type 0
IsCleanAlone (Raw bytes) = IsCleanText bytes
IsCleanAlone (Comment bytes) = IsCleanComment bytes
IsCleanAlone (Tag own) =
    IsCleanTag (plain_node own) × (IsTrue (is_void own.name) → own.children.items ≡ [])

-- P holds of each node that a walk meets
abbrev pub EachNode : (Node → Type 0) → Walk → Type 0
EachNode P end = ⊤
EachNode P (meets_text h bytes more) = P (Raw bytes) × EachNode P more
EachNode P (meets_comment h bytes more) = P (Comment bytes) × EachNode P more
EachNode P (meets_tag h own children more) = P (Tag own) × EachNode P children × EachNode P more
EachNode P (passes_tag h own more) = P (Tag own) × EachNode P more
EachNode P (meets_fault e more) = EachNode P more

-- a test of tags without their children and places, one of texts and one of comments
pub record Tests : Type 0 where
  pub of_tag : PlainTag → Bool
  pub of_text : List ℕ → Bool
  pub of_comment : List ℕ → Bool

-- they hold of each of some trees
abbrev pub HoldOfTrees : Tests → Forest PlainTag → Type 0
HoldOfTrees t none = ⊤
HoldOfTrees t (text bytes more) = IsTrue (t.of_text bytes) × HoldOfTrees t more
HoldOfTrees t (comment bytes more) = IsTrue (t.of_comment bytes) × HoldOfTrees t more
HoldOfTrees t (tag own children more) =
    IsTrue (t.of_tag own) × HoldOfTrees t children × HoldOfTrees t more

-- they hold of a node, whatever hangs below it
abbrev pub HoldOfNode : Tests → Node → Type 0
HoldOfNode t (Tag own) = IsTrue (t.of_tag (plain_node own))
HoldOfNode t (Raw bytes) = IsTrue (t.of_text bytes)
HoldOfNode t (Comment bytes) = IsTrue (t.of_comment bytes)

-- they hold of what two texts make that are joined, where they hold of both
abbrev pub HoldOfJoined : Tests → Type 0
HoldOfJoined t =
    (a b : List ℕ) → IsTrue (t.of_text a) → IsTrue (t.of_text b) → IsTrue (t.of_text (a ++ b))

-- tests of pieces after they are made text
abbrev pub of_lossy : Tests → Tests
of_lossy t = record {
  of_tag = λ own. t.of_tag (lossy_tag own);
  of_text = λ bytes. t.of_text (utf8_lossy bytes);
  of_comment = λ bytes. t.of_comment (utf8_lossy bytes);
}
