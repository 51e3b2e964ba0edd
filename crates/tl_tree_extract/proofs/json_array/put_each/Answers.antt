use Rattle.std.proofs.Common.{List, None, ap, sym, ℕ, ◌∙◌}
use Rattle.json.specs.Token.{Token}
use Rattle.tl_tree.specs.Sources.{source_at}
use Rattle.tl_tree.specs.TreeView.{rows_in}
use Rattle.tl_tree_extract.proofs.Sinks.{step, two}
use Rattle.tl_tree_extract.specs.Inner.Sinks.{after}
use Rattle.tl_tree_extract.specs.Json.{object_tokens}
use Rattle.tl_tree_extract.proofs.json_array.put_each.Goals as goal

pub loop-number-preserved : goal.loop-number-preserved
loop-number-preserved g c =
    let f : ℕ → List Token = object_tokens c.args.form None (source_at c.args.tree.now) (rows_in c.args.tree.now) in
    record {
      adds = two _ _ _ _ _ c.loop-number.invariant.adds c.in_ok-put_object.ensures.adds
          ∙ ap (λ ts. after ts (g.S.Sink.taken c.args.out.now)) (sym (step f c.args.numbers.now c.loop-number.number-index _ c.loop-number-test.true));
      keeps = c.put_object.ensures.keeps ∙ c.loop-number.invariant.keeps;
    }
