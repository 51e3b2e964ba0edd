-- What came of the pages in files.
use Rattle.std.specs.Prelude.{◌≡◌, ℕ, Bool, true, false, ◌&&◌, List, [], ◌∷◌, ◌==◌, map, max, if◌then◌else◌}
use Rattle.tl_page.specs.declared.failure.Failure.{Failure}
use Rattle.tl_page.specs.declared.failure.Failure.TheVariants.{Refused, NotUnderstood, OutOfMemory, Fault}
use Rattle.tl_cli.specs.declared.reports.Answer.{Answer}
use Rattle.tl_cli.specs.declared.reports.Answer.TheVariants.{Found, Nothing, Failed, Unwritten, Unread}
use Rattle.tl_cli.specs.declared.reports.Report.{Report}
use Rattle.tl_cli.specs.declared.reports.Tally.{Tally}

-- the status of a program that ends with a failure
abbrev pub exit_status : Failure → ℕ
exit_status Refused = 2
exit_status NotUnderstood = 2
exit_status OutOfMemory = 3
exit_status Fault = 4

-- the pages so far, and one more
abbrev pub with_answer : Tally → Answer → Tally
with_answer tally Found = record tally { is_found = true }
with_answer tally Nothing = tally
with_answer tally (Failed failure) =
    record tally { failed = max tally.failed (exit_status failure) }
with_answer tally (Unwritten failure) =
    record tally { failed = max tally.failed (exit_status failure) }
with_answer tally Unread = record tally { failed = max tally.failed 141 }

-- the pages so far, and these
abbrev pub with_answers : Tally → List Answer → Tally
with_answers tally [] = tally
with_answers tally (answer ∷ answers) = with_answers (with_answer tally answer) answers

abbrev pub no_page : Tally
no_page = record { is_found = false; failed = 0 }

-- the greatest status of those that failed, and else 0 where something was found, and 1 where
-- nothing was
abbrev pub greatest_status : Tally → ℕ
greatest_status tally =
    if tally.failed == 0 then (if tally.is_found then 0 else 1) else tally.failed

-- the same; where it is only asked whether something is found, and it is, 0
abbrev pub status_of_tally : Bool → Tally → ℕ
status_of_tally is_quiet tally =
    if is_quiet && tally.is_found then 0 else greatest_status tally

-- the answers of reports
abbrev pub answers_of : List Report → List Answer
answers_of reports = map (λ r. r.answer) reports

-- whether no page after it is looked at: nothing more can be written, or it is only asked whether
-- something is found, and it is
abbrev pub is_last : Bool → Answer → Bool
is_last is_quiet Found = is_quiet
is_last is_quiet Nothing = false
is_last is_quiet (Failed failure) = false
is_last is_quiet (Unwritten failure) = true
is_last is_quiet Unread = true

-- there are none where it ends, and else they are these
abbrev pub NoneOr : Bool → List Report → Type 0 → Type 0
NoneOr true reports These = reports ≡ []
NoneOr false reports These = These

-- a report for each file in order, up to the last that is looked at
abbrev pub AreReports : Bool → List (List ℕ) → List Report → Type 0
AreReports is_quiet [] reports = reports ≡ []
AreReports is_quiet (file ∷ files) [] = ⊥
AreReports is_quiet (file ∷ files) (report ∷ reports) =
    (report.file.now ≡ file) × NoneOr (is_last is_quiet report.answer) reports
    (AreReports is_quiet files reports)

-- the status of all pages
abbrev pub status_of_reports : Bool → List Report → ℕ
status_of_reports is_quiet reports =
    status_of_tally is_quiet (with_answers no_page (answers_of reports))
