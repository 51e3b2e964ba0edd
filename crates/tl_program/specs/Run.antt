-- What a run does to a reader and a writer, by what it makes of an input.
use Rattle.std.specs.Prelude.{◌≡◌, ◌≢◌, ℕ, ◌+◌, ◌<◌, ◌≤◌, ◌==◌, true, false, ◌||◌, IsTrue, List, Option, IfSome}
use Rattle.std.specs.Io.KnownBytes.{Appends, IsAtEnd}
use Rattle.tl_spec.specs.Tree.Document.{Document, document}
use Rattle.tl_page.specs.Outcome.{Outcome, status_of, written_of}
use Rattle.tl_program.specs.Output.{ReadsBack, AppendsBeginning}
use Rattle.tl_program.specs.Streams.{Reading, Writing}

-- A run that answers this status. Of an input it makes an outcome, and prints a document that is
-- made of the input's, if any.
pub record IsRun {W : Type 0} (made : List ℕ → Outcome (List ℕ))
    (printed : Document → Option Document) (status : ℕ)
    (before after : Reading) (seen : W → Writing) (old new : W) : Type 0 where
  pub range : status ≤ 4
  -- where memory is found and nothing fails
  pub exact : status ≢ 3 → status ≢ 4 →
      IfSome before.left (λ input. status ≡ status_of (made input))
  pub written : status ≢ 3 → status ≢ 4 →
      IfSome before.left (λ input. Appends (seen old).holds (seen new).holds
      (written_of (made input)))
  -- where a clean document is printed, what is written is read as its trees again
  pub identity : status ≡ 0 → IfSome before.left
      (λ input. ReadsBack (printed (document input)) (written_of (made input)))
  -- where all is done, one flush comes after the last write, and else none; a refusal leaves the
  -- writer alone
  pub flushed_once : status ≡ 0 → (seen new).flushes ≡ (seen old).flushes + 1
  pub flushed_last : status ≡ 0 → IsTrue (seen new).is_flushed
  pub unflushed : 0 < status → (seen new).flushes ≡ (seen old).flushes
  pub untouched : 0 < status → status < 4 → new ≡ old
  -- a failed read leaves it alone too; a failed write leaves a beginning of what is to be written
  pub beginning : status ≡ 4 → IfSome before.left
      (λ input. AppendsBeginning (seen old).holds (seen new).holds (written_of (made input)))
  pub unread : before.has_failed ≡ false → after.has_failed ≡ true → new ≡ old
  pub unwritten : status ≡ 4 → after.has_failed ≡ false → IsAtEnd after.left
      × IfSome before.left (λ input. status_of (made input) ≡ 0)
  pub failed : before.has_failed ≡ false → (seen old).has_failed ≡ false →
      (status == 4) ≡ (after.has_failed || (seen new).has_failed)
