-- Walks of a document with fields are the walks of the document, with fields; and clean where those are.
use Rattle.std.proofs.Common.{◌≡◌, ℕ, zero, suc, Bool, true, false, not, ◌==◌, List, [], ◌∷◌, length, map, Option, Some, None, option_map, refl, sym, ap, ap₂, ◌∙◌, subst}
use Rattle.std.specs.List.{slice_get}
use Rattle.std.proofs.lemmas.List.{length-map}
use Rattle.std.proofs.lemmas.Option.{slice_get-map}
use Rattle.tl_spec.specs.Lex.Attribute.{Pair}
use Rattle.tl_spec.specs.Lex.AttributeList.{PlainAttributes, printed_pairs}
use Rattle.tl_spec.specs.Lex.ByteClass.{less, quote}
use Rattle.tl_spec.specs.Print.Clean.{AreCleanPairs, IsCleanStart, IsCleanTable, IsCleanTag, IsCleanValue, IsCleanWalk}
use Rattle.tl_spec.specs.Tree.Document.{Document, Node, TagNode, Tag, Raw, Comment}
use Rattle.tl_spec.specs.Tree.Forest.{none, text, comment, tag}
use Rattle.tl_spec.specs.Tree.Inline.{pair_image}
use Rattle.tl_spec.specs.Walk.{Walk, end, meets_text, meets_comment, meets_tag, passes_tag, meets_fault, Dangling, Cycle, all_tags, prints_children, handle_walk, node_walk, plain_attributes, plain_node, row_walk, stands_on, tag_walk, trees, walk, walk_within}
use Rattle.tl_spec.proofs.Print.Images.{image-pairs_in_order}
use Rattle.uses.specs.Fields.{Fields, attributes_with, document_with, node_with, plain_attributes_with, text_with, trees_with}
use Rattle.uses.proofs.Texts.{no_less, no_quote, of-text}

module _ (fields : Fields) where
  abbrev tag_with : TagNode → TagNode
  tag_with own = record own { attributes = attributes_with fields own.attributes }

  -- what a walk meets, with fields
  abbrev pub walk_with : Walk → Walk
  walk_with end = end
  walk_with (meets_text h bytes more) = meets_text h (text_with fields bytes) (walk_with more)
  walk_with (meets_comment h bytes more) = meets_comment h bytes (walk_with more)
  walk_with (meets_tag h own children more) = meets_tag h (tag_with own) (walk_with children) (walk_with more)
  walk_with (passes_tag h own more) = passes_tag h (tag_with own) (walk_with more)
  walk_with (meets_fault e more) = meets_fault e (walk_with more)

  module _ (enters : List ℕ → Bool) (nodes : List Node) where
    abbrev new : List Node
    new = map (node_with fields) nodes

    of-tag : (f g : List ℕ → Walk) → ((cs : List ℕ) → g cs ≡ walk_with (f cs)) → (h : ℕ) (m n : Walk) → n ≡ walk_with m → (own : TagNode) (b : Bool) →
        tag_walk enters new g h n (tag_with own) b ≡ walk_with (tag_walk enters nodes f h m own b)
    of-tag f g below h m n more own true = ap₂ (λ x y. meets_tag h (tag_with own) x y) (below own.children.items) more
    of-tag f g below h m n more own false = ap (λ y. passes_tag h (tag_with own) y) more

    of-node : (f g : List ℕ → Walk) → ((cs : List ℕ) → g cs ≡ walk_with (f cs)) → (h : ℕ) (m n : Walk) → n ≡ walk_with m → (x : Node) →
        node_walk enters new g h n (node_with fields x) ≡ walk_with (node_walk enters nodes f h m x)
    of-node f g below h m n more (Raw bytes) = ap (λ y. meets_text h (text_with fields bytes) y) more
    of-node f g below h m n more (Comment bytes) = ap (λ y. meets_comment h bytes y) more
    of-node f g below h m n more (Tag own) = of-tag f g below h m n more own (enters own.name)

    of-handle : (f g : List ℕ → Walk) → ((cs : List ℕ) → g cs ≡ walk_with (f cs)) → (h : ℕ) (m n : Walk) → n ≡ walk_with m → (b : Bool) (o : Option Node) →
        handle_walk enters new g h n b (option_map (node_with fields) o) ≡ walk_with (handle_walk enters nodes f h m b o)
    of-handle f g below h m n more b None = ap (λ y. meets_fault (Dangling h) y) more
    of-handle f g below h m n more true (Some x) = ap (λ y. meets_fault (Cycle h) y) more
    of-handle f g below h m n more false (Some x) = of-node f g below h m n more x

    of-row : (f g : List ℕ → List ℕ → Walk) → ((path cs : List ℕ) → g path cs ≡ walk_with (f path cs)) → (path hs : List ℕ) →
        row_walk enters new g path hs ≡ walk_with (row_walk enters nodes f path hs)
    of-row f g below path [] = refl
    of-row f g below path (h ∷ hs) =
        ap (handle_walk enters new (g (h ∷ path)) h (row_walk enters new g path hs) (stands_on path h)) (slice_get-map (node_with fields) nodes h)
        ∙ of-handle (f (h ∷ path)) (g (h ∷ path)) (below (h ∷ path)) h (row_walk enters nodes f path hs) (row_walk enters new g path hs) (of-row f g below path hs)
        (stands_on path h) (slice_get nodes h)

    of-within : (n : ℕ) (path hs : List ℕ) → walk_within enters new n path hs ≡ walk_with (walk_within enters nodes n path hs)
    of-within zero path hs = of-row (λ _ _. end) (λ _ _. end) (λ _ _. refl) path hs
    of-within (suc n) path hs = of-row (walk_within enters nodes n) (walk_within enters new n) (of-within n) path hs

    of-walk : (path hs : List ℕ) → walk enters new path hs ≡ walk_with (walk enters nodes path hs)
    of-walk path hs = ap (λ n. walk_within enters new n path hs) (length-map nodes (node_with fields)) ∙ of-within (length nodes) path hs

  -- trees

  of-trees : (w : Walk) → trees (walk_with w) ≡ trees_with fields (trees w)
  of-trees end = refl
  of-trees (meets_text h bytes more) = ap (λ f. text (text_with fields bytes) f) (of-trees more)
  of-trees (meets_comment h bytes more) = ap (λ f. comment bytes f) (of-trees more)
  of-trees (meets_tag h own children more) = ap₂ (λ f g. tag (plain_node (tag_with own)) f g) (of-trees children) (of-trees more)
  of-trees (passes_tag h own more) = ap (λ g. tag (plain_node (tag_with own)) none g) (of-trees more)
  of-trees (meets_fault e more) = of-trees more

  pub trees-of-document : (d : Document) → trees (walk all_tags (document_with fields d).nodes [] d.top) ≡ trees_with fields (trees (walk all_tags d.nodes [] d.top))
  trees-of-document d = ap trees (of-walk all_tags d.nodes [] d.top) ∙ of-trees (walk all_tags d.nodes [] d.top)

  -- cleanness

  clean-value : (v : Option (List ℕ)) → IsCleanValue v → IsCleanValue (option_map (text_with fields) v)
  clean-value None h = tt
  clean-value (Some v) h = of-text (λ b. not (b == quote)) fields refl no_quote v h

  abbrev pairs_with : List Pair → List Pair
  pairs_with = map (pair_image (λ key. key) (option_map (text_with fields)))

  clean-pairs : (ps : List Pair) → AreCleanPairs ps → AreCleanPairs (pairs_with ps)
  clean-pairs [] h = tt
  clean-pairs (p ∷ ps) h = (h.0, clean-value p.1 h.1, clean-pairs ps h.2)

  clean-start : (name : List ℕ) (ps : List Pair) → IsCleanStart name ps → IsCleanStart name (pairs_with ps)
  clean-start [] ps h = ap pairs_with h
  clean-start (b ∷ name) ps h = (h.0, clean-pairs ps h.1)

  printed : (a : PlainAttributes) → pairs_with (printed_pairs a) ≡ printed_pairs (plain_attributes_with fields a)
  printed a = image-pairs_in_order (λ key. key) (text_with fields) (λ key. key) a.others a.id a.class

  clean-tag : (own : TagNode) → IsCleanTag (plain_node own) → IsCleanTag (plain_node (tag_with own))
  clean-tag own h = record {
    start = subst (IsCleanStart own.name) (printed (plain_attributes own.attributes)) (clean-start own.name (printed_pairs (plain_attributes own.attributes)) h.start);
    no_command = h.no_command;
  }

  clean-walk : (w : Walk) → IsCleanWalk w → IsCleanWalk (walk_with w)
  clean-walk end h = tt
  clean-walk (meets_text g bytes more) h = (of-text (λ b. not (b == less)) fields refl no_less bytes h.0, clean-walk more h.1)
  clean-walk (meets_comment g bytes more) h = (h.0, clean-walk more h.1)
  clean-walk (meets_tag g own children more) h = (clean-tag own h.0, h.1, clean-walk children h.2, clean-walk more h.3)
  clean-walk (passes_tag g own more) h = (clean-tag own h.0, h.1, clean-walk more h.2)
  clean-walk (meets_fault e more) h = absurd h

  pub clean-document : (d : Document) → IsCleanTable d.nodes d.top → IsCleanTable (document_with fields d).nodes d.top
  clean-document d h = subst IsCleanWalk (sym (of-walk prints_children d.nodes [] d.top)) (clean-walk (walk prints_children d.nodes [] d.top) h)
