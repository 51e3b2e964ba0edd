use Rattle.std.proofs.Common.{◌≤◌, ℕ, Bool, List, [], append-nil, drop, length, refl, subst, sym}
use Rattle.std.proofs.lemmas.List.{drop_all}
use Rattle.std.specs.Borrow.{Bor}
use Rattle.tl_safe_fit.specs.Words.{words_of}
use Rattle.tl_cli.specs.Reports.{AreReports}
use Rattle.tl_cli.specs.declared.reports.Report.{Report}
use Rattle.tl_cli.proofs.pages.process_files.Goals as goal

-- no file is left
none_left : (is_quiet : Bool) (files : List (Bor (List ℕ))) (i : ℕ) → length files ≤ i → AreReports is_quiet (words_of (drop i files)) []
none_left is_quiet files i past = subst (λ (left : List (Bor (List ℕ))). AreReports is_quiet (words_of left) []) (sym (drop_all i files past)) refl

pub returns : goal.returns
returns c =
    let all = c.loop-file.invariant [] (none_left c.args.is_quiet c.args.files.now c.loop-file.file-index c.loop-file-test.false) in
    subst (λ (reports : List Report). AreReports c.args.is_quiet (words_of c.args.files.now) reports) (append-nil c.loop-file.reports.items) all
