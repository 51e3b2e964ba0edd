use Rattle.std.proofs.Common.{List, ◌++◌, drop}
use Rattle.tl_safe_fit.specs.Words.{words_of}
use Rattle.tl_cli.specs.Reports.{AreReports}
use Rattle.tl_cli.specs.declared.reports.Report.{Report}
use Rattle.tl_cli.proofs.pages.process_files.Given as goal

-- with the reports of the files that are left, these are those of all
abbrev pub invariant-loop-file : goal.invariant-loop-file
invariant-loop-file l =
    (later : List Report) → AreReports l.is_quiet (words_of (drop l.file-index l.files)) later → AreReports l.is_quiet (words_of l.files) (l.reports.items ++ later)
