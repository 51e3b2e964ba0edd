-- What is printed and read of a document with fields.
use Rattle.std.proofs.Common.{◌≡◌, ℕ, List, [], length, map, Ok, ap, sym, ◌∙◌, subst}
use Rattle.std.proofs.lemmas.List.{length-map}
use Rattle.tl_spec.specs.Print.Clean.{IsCleanTable}
use Rattle.tl_spec.specs.Tree.Document.{Document, document}
use Rattle.tl_spec.specs.Tree.Forest.{forest, plain}
use Rattle.tl_spec.specs.Print.Normal.{ReadsAs}
use Rattle.tl_spec.specs.Print.{document_print}
use Rattle.tl_spec.specs.Lex.Token.{tokens}
use Rattle.tl_spec.specs.Walk.{all_tags, trees, walk}
use Rattle.tl_spec.proofs.Tree.Order.{document-whole}
use Rattle.tl.specs.View.{HTMLNode, HTMLTable, document_of, node_view}
use Rattle.tl.specs.Inner.TableLends.{with_nodes}
use Rattle.uses.specs.Fields.{Fields, document_with, node_with, trees_with}
use Rattle.uses.proofs.Trees.{clean-document, trees-of-document}

-- what is written through lent nodes is the document's (tl's law)
abbrev pub WritesDocument : Type 0
WritesDocument = (d : HTMLTable) (nodes : List HTMLNode) → length nodes ≡ length d.nodes → document_of (with_nodes d nodes) ≡ record (document_of d) { nodes = map node_view nodes }

-- a document whose nodes were written, each with fields
pub written_with : WritesDocument → (fields : Fields) (d : HTMLTable) (nodes : List HTMLNode) → map node_view nodes ≡ map (node_with fields) (map node_view d.nodes) →
    document_of (with_nodes d nodes) ≡ document_with fields (document_of d)
written_with whole fields d nodes e =
    let long : length nodes ≡ length d.nodes =
    sym (length-map nodes node_view) ∙ ap length e ∙ length-map (map node_view d.nodes) (node_with fields) ∙ length-map d.nodes node_view in
    whole d nodes long ∙ ap (λ ns. record (document_of d) { nodes = ns }) e

-- the document of a text, and that with fields
module _ (fields : Fields) (t : List ℕ) (read filled : Document) (first : read ≡ document t) (then_ : filled ≡ document_with fields read) where
  pub print_read : (s : List ℕ) → document_print filled ≡ Ok s → document_print (document_with fields (document t)) ≡ Ok s
  print_read s e = ap document_print (sym (then_ ∙ ap (document_with fields) first)) ∙ e

  pub clean_read : IsCleanTable read.nodes read.top → IsCleanTable filled.nodes filled.top
  clean_read h = subst (λ (x : Document). IsCleanTable x.nodes x.top) (sym then_) (clean-document fields read h)

  trees_read : trees (walk all_tags filled.nodes [] filled.top) ≡ trees_with fields (plain (forest (tokens t)))
  trees_read =
      ap (λ (x : Document). trees (walk all_tags x.nodes [] x.top)) then_ ∙ trees-of-document fields read
      ∙ ap (λ (x : Document). trees_with fields (trees (walk all_tags x.nodes [] x.top))) first ∙ ap (trees_with fields) (document-whole t)

  pub reads_read : (s : List ℕ) → ReadsAs s (trees (walk all_tags filled.nodes [] filled.top)) → ReadsAs s (trees_with fields (plain (forest (tokens t))))
  reads_read s h = subst (ReadsAs s) trees_read h
