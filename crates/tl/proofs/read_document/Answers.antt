use Rattle.std.proofs.Common.{◌≡◌, ◌≤◌, length, sym, ap, ◌∙◌, subst}
use Rattle.std.specs.Prelude.{sum_by}
use Rattle.tl_spec.specs.Print.Clean.{IsCleanTable}
use Rattle.tl_spec.specs.Tree.Document.{Document, document, node_and_attribute_count}
use Rattle.tl_spec.specs.Tree.Order.{ChildrenFollowParents, DescendantsAreContiguous}
use Rattle.tl_spec.specs.Walk.Range.{AreRangesOfDescendants}
use Rattle.tl_spec.proofs.Lex.Count.{document-weight}
use Rattle.tl_spec.proofs.Tree.Order.{children-above, descendants-interval, fresh_table}
use Rattle.tl_spec.proofs.Walk.Ranges.{ranges-descendants}
use Rattle.tl.specs.View.{document_of}
use Rattle.tl.proofs.read_document.Goals as goal

pub returns-clause-clean : goal.returns-clause-clean
returns-clause-clean g c tame =
    let t = g.S.Source.text c.args.source.now in
    let read : document_of c.from.result ≡ document t = ap document_of (c.from.ensures ∙ c.in_ok-track.ensures.table) ∙ c.in_ok-parser.ensures.document in
    subst (λ (d : Document). IsCleanTable d.nodes d.top) (sym read) (fresh_table t tame)

pub returns-clause-above : goal.returns-clause-above
returns-clause-above g c =
    let t = g.S.Source.text c.args.source.now in
    let read : document_of c.from.result ≡ document t = ap document_of (c.from.ensures ∙ c.in_ok-track.ensures.table) ∙ c.in_ok-parser.ensures.document in
    subst (λ (d : Document). ChildrenFollowParents d.nodes) (sym read) (children-above t)

pub returns-clause-interval : goal.returns-clause-interval
returns-clause-interval g c =
    let t = g.S.Source.text c.args.source.now in
    let read : document_of c.from.result ≡ document t = ap document_of (c.from.ensures ∙ c.in_ok-track.ensures.table) ∙ c.in_ok-parser.ensures.document in
    subst (λ (d : Document). DescendantsAreContiguous d.nodes) (sym read) (descendants-interval t)

pub returns-clause-ranges : goal.returns-clause-ranges
returns-clause-ranges g c =
    let t = g.S.Source.text c.args.source.now in
    let read : document_of c.from.result ≡ document t = ap document_of (c.from.ensures ∙ c.in_ok-track.ensures.table) ∙ c.in_ok-parser.ensures.document in
    subst (λ (d : Document). AreRangesOfDescendants d.nodes) (sym read) (ranges-descendants t)

pub returns-clause-size : goal.returns-clause-size
returns-clause-size g c =
    let t = g.S.Source.text c.args.source.now in
    let read : document_of c.from.result ≡ document t = ap document_of (c.from.ensures ∙ c.in_ok-track.ensures.table) ∙ c.in_ok-parser.ensures.document in
    subst (λ (d : Document). sum_by node_and_attribute_count d.nodes ≤ length t) (sym read) (document-weight t)
