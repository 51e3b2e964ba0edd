use Rattle.std.proofs.Common.{List, [], map, string_bytes, subst, sym}
use Rattle.tl_spec.specs.Print.Text.{text_of}
use Rattle.tl_spec.specs.Walk.{all_tags, first_fault, trees, walk}
use Rattle.tl.specs.Inner.Preorder.{IsInPreorder}
use Rattle.tl.specs.View.{HTMLNode, node_view}
use Rattle.tl.specs.Walker.{events_to_come, Writes}
use Rattle.tl.proofs.Printing.{writes-texts}
use Rattle.tl.proofs.walk.text.write_row_texts.Goals as goal

pub write_texts_in_preorder-requires : goal.write_texts_in_preorder-requires
write_texts_in_preorder-requires c = subst (λ (ns : List HTMLNode). IsInPreorder ns) (sym c.nodes-nodes.ensures.value) (c.is_in_preorder.ensures c.if-is_in_preorder.true)

pub returns-then-is_in_preorder-clause-writes : goal.returns-then-is_in_preorder-clause-writes
returns-then-is_in_preorder-clause-writes c =
    subst (λ (ns : List HTMLNode). Writes (first_fault (walk all_tags (map node_view ns) [] c.args.handles.now)) (text_of (trees (walk all_tags (map node_view ns) [] c.args.handles.now)))
    (string_bytes c.args.out.now) c.write_texts_in_preorder.result (string_bytes c.write_texts_in_preorder.new.out)) c.nodes-nodes.ensures.value c.write_texts_in_preorder.ensures.writes

pub returns-clause-writes : goal.returns-clause-writes
returns-clause-writes c =
    subst (λ (ns : List HTMLNode). Writes (first_fault (walk all_tags (map node_view ns) [] c.args.handles.now)) (text_of (trees (walk all_tags (map node_view ns) [] c.args.handles.now)))
    (string_bytes c.args.out.now) c.write_texts.result (string_bytes c.write_texts.new.out)) c.nodes-nodes.ensures.value
    (writes-texts (map node_view c.nodes-nodes.result.now) c.args.handles.now (events_to_come c.new.result) (string_bytes c.args.out.now) c.write_texts.result (string_bytes c.write_texts.new.out) c.new.ensures.left c.write_texts.ensures.writes)
