use Rattle.std.proofs.Common.{rules, Err, ◌≡◌, List, ◌++◌, sym, subst, inl, refl}
use Rattle.std.proofs.lemmas.List.{drop_all}
use Rattle.tl_patch_edit.specs.Several.{AreMeantAt}
use Rattle.tl_patch_edit.specs.declared.ask.MeantPatch.{MeantPatch}
use Rattle.tl_patch_edit.proofs.Refusals.{err_is, patch_missing, patch_reached}
use Rattle.tl_patch_edit.proofs.Together.{meant_end, meant_more}
use Rattle.tl_patch_edit.proofs.several.meant_at.Goals as goal

pub loop-at-init : goal.loop-at-init
loop-at-init c = record {
  meant = λ rest r. subst (λ (xs : List MeantPatch). AreMeantAt 0 c.args.tokens.now c.args.patches.now (xs ++ rest)) (sym c.in_ok-meant.ensures.items) r;
  reaches = inl refl;
}

pub loop-at-preserved : goal.loop-at-preserved
loop-at-preserved c = record {
  meant = meant_more c.args.tokens.now c.args.patches.now c.loop-at.at c.loop-at.from _ _ c.loop-at.meant.items c.push_meant.new.out.items c.loop-at-test.true
      c.in_ok-start.ensures.order c.in_ok-start.ensures.start refl c.in_ok-push_meant.ensures c.loop-at.invariant.meant;
  reaches = patch_reached c.args.tokens.now c.args.patches.now c.loop-at.at _ c.in_ok-start.start c.loop-at-test.true c.in_ok-start.ensures.start;
}

pub returns-in_err-start-clause-error : goal.returns-in_err-start-clause-error
returns-in_err-start-clause-error c =
    let is : c.from_residual-in_err-start.result ≡ Err c.in_err-start.field-0.0 = search rules in
    err_is _ _ _ is (patch_missing c.args.tokens.now c.args.patches.now c.loop-at.at c.loop-at.from _ _ c.loop-at-test.true c.loop-at.invariant.reaches c.in_err-start.ensures.error)

pub returns-clause-meant : goal.returns-clause-meant
returns-clause-meant c =
    meant_end c.args.tokens.now c.args.patches.now c.loop-at.at c.loop-at.from c.loop-at.meant.items (drop_all c.loop-at.at c.args.patches.now c.loop-at-test.false) c.loop-at.invariant.meant
