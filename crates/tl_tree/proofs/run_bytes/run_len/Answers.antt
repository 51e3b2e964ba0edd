use Rattle.std.proofs.Common.{length, take}
use Rattle.tl_dom_spec.specs.Runs.{is_of_run}
use Rattle.tl_tree.proofs.RunBytes.{all-any}
use Rattle.tl_tree.specs.Inner.Modes.{mode_of}
use Rattle.tl_tree.specs.Inner.RunKinds.{kind_view}
use Rattle.tl_tree.proofs.run_bytes.run_len.Goals as goal

pub returns-then-is_any_of_run-clause-same : goal.returns-then-is_any_of_run-clause-same
returns-then-is_any_of_run-clause-same c =
    let rest = c.args.rest.now in
    all-any (is_of_run (mode_of c.args.mode) (kind_view c.args.kind)) c.if-is_any_of_run.ensures (take (length rest) rest)
