use Rattle.std.proofs.Common.{◌≡◌}
use Rattle.tl_page.specs.declared.failure.Failure.TheVariants.{NotUnderstood, Refused}
use Rattle.tl_c.proofs.node_patch.patch_tree.Goals as goal

pub returns-in-Ok-clause-made : goal.returns-in-Ok-clause-made
returns-in-Ok-clause-made c = record {
  places = c.in-Ok.patched.places.items;
  patched = c.in-Ok.ensures.patched;
}

pub returns-in-Err-clause-refused : goal.returns-in-Err-clause-refused
returns-in-Err-clause-refused c = λ is_refused.
    let same : c.report.result ≡ Refused = cc in
    record {
      error = c.in-Err.error;
      refused = c.in-Err.ensures.refused;
      reason = c.report.ensures.refused same;
      stands = c.report.ensures.place;
      why = c.report.ensures.cause;
    }

pub returns-in-Err-clause-understood : goal.returns-in-Err-clause-understood
returns-in-Err-clause-understood c = λ lost.
    let same : c.report.result ≡ NotUnderstood = cc in
    c.report.ensures.understood same
