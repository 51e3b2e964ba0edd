use Rattle.std.proofs.Common.{◌≡◌, ℕ, ◌++◌, [], drop, map, string_bytes}
use Rattle.tl_spec.specs.Print.Text.{text_of}
use Rattle.tl_spec.specs.Walk.{all_tags, first_fault, trees, walk}
use Rattle.tl_table.specs.TreeFault.{FirstDangles}
use Rattle.tl.specs.View.{node_view}
use Rattle.tl.proofs.walk.text.write_texts_in_preorder.Given as goal

abbrev pub invariant-loop-handle : goal.invariant-loop-handle
invariant-loop-handle l = record {
  bytes : string_bytes l.initial.out ++ text_of (trees (walk all_tags (map node_view l.nodes) [] l.handles)) ≡ string_bytes l.out ++ text_of (trees (walk all_tags (map node_view l.nodes) [] (drop l.handle-index l.handles)));
  faults : first_fault (walk all_tags (map node_view l.nodes) [] l.handles) ≡ first_fault (walk all_tags (map node_view l.nodes) [] (drop l.handle-index l.handles));
  first : (h : ℕ) → FirstDangles l.nodes l.handles h → l.handle-index ≡ 0;
}
