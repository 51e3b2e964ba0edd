use Rattle.std.proofs.Common.{◌≡◌, drop}
use Rattle.tl_cli.specs.Reports.{answers_of, no_page, with_answers}
use Rattle.tl_cli.proofs.reports.status_of.Given as goal

-- the pages so far, and those that are left, are all
abbrev pub invariant-loop-report : goal.invariant-loop-report
invariant-loop-report l = with_answers l.tally (answers_of (drop l.report-index l.reports)) ≡ with_answers no_page (answers_of l.reports)
