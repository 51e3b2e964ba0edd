use Rattle.std.proofs.Common.{ap, arith, sym, ◌∙◌, ◌++◌, ◌∷◌, [], get_or}
use Rattle.tl_dom_spec.specs.Runs.{with_replacements}
use Rattle.tl_tree.proofs.RunBytes.{replaced-more}
use Rattle.tl_tree.proofs.run_bytes.replaced.Goals as goal

pub loop-at-preserved : goal.loop-at-preserved
loop-at-preserved c =
    let bytes = c.args.bytes.now in
    let at = c.loop-at.at in
    record {
      within = omega arith;
      same =
          c.in_ok-put_replaced.ensures
          ∙ ap (λ own. own ++ with_replacements (get_or bytes at 0 ∷ [])) c.loop-at.invariant.same
          ∙ sym (replaced-more bytes at 0 c.loop-at-test.true);
    }
