-- What a write of all nodes leaves.
use Rattle.std.proofs.Common.{◌≡◌, List, ◌++◌, length, map, take, drop, ap, sym, subst, ◌∙◌}
use Rattle.std.specs.List.{All, refill}
use Rattle.std.proofs.Math.Seq.{take-append_seam}
use Rattle.std.proofs.lemmas.List.Elements.{All-map}
use Rattle.tl_spec.specs.Tree.Document.{Document, Node}
use Rattle.tl.specs.View.{HTMLNode, HTMLTable, document_of, node_view}
use Rattle.tl.specs.Inner.TableLends.{with_nodes}

-- a slice of the same length written over a list is that slice
refill-same : {X : Type 0} (xs ws : List X) → length ws ≡ length xs → refill (length xs) xs ws ≡ ws
refill-same xs ws e = ap (λ n. take n (ws ++ drop (length ws) xs)) (sym e) ∙ take-append_seam ws (drop (length ws) xs)

pub written-document : (d : HTMLTable) (nodes : List HTMLNode) → length nodes ≡ length d.nodes →
    document_of (with_nodes d nodes) ≡ record (document_of d) { nodes = map node_view nodes }
written-document d nodes e = ap (λ (ns : List HTMLNode). record (document_of d) { nodes = map node_view ns }) (refill-same d.nodes nodes e)

-- what holds of each node that was written holds of the document's
pub written-all : (P : Node → Type 0) (d : HTMLTable) (nodes : List HTMLNode) → length nodes ≡ length d.nodes →
    All (λ n. P (node_view n)) nodes → All P (document_of (with_nodes d nodes)).nodes
written-all P d nodes e all = subst (λ (x : Document). All P x.nodes) (sym (written-document d nodes e)) (All-map P node_view nodes all)
