use Rattle.std.proofs.Common.{List, Option, ap, arith, subst, suc, ℕ, ◌+◌, ◌∙◌, ◌≡◌}
use Rattle.std.specs.Option.{option_copied}
use Rattle.tl_tree.specs.Rows.{Row}
use Rattle.tl_tree.specs.Sources.{source_at}
use Rattle.tl_tree.specs.TreeView.{rows_in}
use Rattle.tl_tree_extract.proofs.Sinks.{three}
use Rattle.tl_tree_extract.specs.Inner.Sinks.{after}
use Rattle.tl_tree_extract.specs.Json.{file_at, opened_at, rows_tokens}
use Rattle.tl_tree_extract.proofs.node_json.write_rows.Goals as goal

pub loop-count-preserved : goal.loop-count-preserved
loop-count-preserved g c =
    let n : ℕ = c.loop-count.count in
    let first : ℕ = c.args.first in
    let rows : List Row = rows_in c.args.tree.now in
    let said : option_copied c.file_at.result ≡ file_at (option_copied c.args.file) n = c.file_at.ensures in
    let more : suc n ≡ n + 1 = omega arith in
    record {
      adds = subst (λ (m : ℕ). g.S.Sink.taken c.close.new.out ≡ after (rows_tokens (option_copied c.args.file) (source_at c.args.tree.now) rows first m) (g.S.Sink.taken c.args.out.now)) more
          (three _ _ _ _ _ _ _ c.loop-count.invariant.adds
          (c.in_ok-open.ensures.adds ∙ ap (λ (file : Option (List ℕ)). after (opened_at file (source_at c.args.tree.now (first + n)) rows (first + n)) (g.S.Sink.taken c.loop-count.out)) said)
          c.in_ok-close.ensures.adds);
      keeps = c.close.ensures.keeps ∙ c.open.ensures.keeps ∙ c.loop-count.invariant.keeps;
    }
