use Rattle.std.proofs.Common.{◌≡◌, ◌++◌, ◌≤◌, length, drop, map}
use Rattle.tl_patch_spec.specs.Splices.{are_ordered, with_splices, with_splices_from}
use Rattle.tl_patch.specs.View.{splice_view}
use Rattle.tl_patch.proofs.splice.with_splices.Given as goal

abbrev pub invariant-loop-splice : goal.invariant-loop-splice
invariant-loop-splice l = record {
  so_far : with_splices l.page (map splice_view l.splices) ≡ l.text.items ++ with_splices_from l.place (drop l.place l.page) (map splice_view (drop l.splice-index l.splices));
  order : are_ordered 0 (length l.page) (map splice_view l.splices) ≡ are_ordered l.place (length l.page) (map splice_view (drop l.splice-index l.splices));
  within : l.place ≤ length l.page;
}
