-- What edits leave of the nodes of a table and of their pieces.
use Rattle.std.specs.Prelude.{ℕ, Bool, IsTrue, Option, Some, None, IfSome}
use Rattle.std.specs.List.{AllByRecursion}
use Rattle.tl_bytes.specs.Held.{Kept}
use Rattle.tl_spec.specs.Lex.AttributeList.{Attributes}
use Rattle.tl_spec.specs.Edit.{Change, Names, Texts, Comments, Sets, Flags, Unsets, Bares, Pushes, Pulls, Roots}
use Rattle.tl.specs.View.{HTMLNode}
use Rattle.tl.specs.declared.parser.tag.node.NodeOf.TheVariants.{Tag, Raw, Comment}

-- the node that an edit names, if it names one
abbrev pub node_of : Change → Option ℕ
node_of (Names n name) = Some n
node_of (Texts n text) = Some n
node_of (Comments n text) = Some n
node_of (Sets n key value) = Some n
node_of (Flags n key) = Some n
node_of (Unsets n key) = Some n
node_of (Bares n key) = Some n
node_of (Pushes n h) = Some n
node_of (Pulls n i) = Some n
node_of (Roots i h) = None

-- where bytes that are held so pass a test
module _ (test : Kept → Bool) where
  abbrev pub Passes : Kept → Type 0
  Passes b = IsTrue (test b)

  -- a key and its value pass
  abbrev pub PairPasses : Kept × Option Kept → Type 0
  PairPasses e = Passes e.0 × IfSome e.1 Passes

  -- each key and value passes
  abbrev pub AttributesPass : Attributes Kept → Type 0
  AttributesPass a =
      AllByRecursion PairPasses a.others.entries × IfSome a.id Passes × IfSome a.class Passes

  -- each piece of a node passes
  abbrev pub NodePasses : HTMLNode → Type 0
  NodePasses (Tag own) = Passes own.name × AttributesPass own.attributes × Passes own.raw
  NodePasses (Raw bytes) = Passes bytes
  NodePasses (Comment bytes) = Passes bytes
