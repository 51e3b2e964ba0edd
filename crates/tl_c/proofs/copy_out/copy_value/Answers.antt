use Rattle.std.proofs.Common.{refl}
use Rattle.tl_page.specs.Outcome.{refused}
use Rattle.tl_c.proofs.copy_out.copy_value.Goals as goal

pub returns-in-None-clause-put : goal.returns-in-None-clause-put
returns-in-None-clause-put c = rw c.in-None.is (c.report_failure.ensures.put refused refl)
