-- A run on a page that is too long to be kept.
use Rattle.std.proofs.Common.{◌≡◌, ℕ, ◌||◌, false, List, [], append-nil, Option, None, Some, arith, lit≤, refl, sym, subst}
use Rattle.std.specs.Prelude.{IfSome}
use Rattle.std.specs.Io.KnownBytes.{Appends}
use Rattle.tl_spec.specs.Tree.Document.{Document}
use Rattle.tl_page.specs.Outcome.{Outcome, not_understood, status_of, written_of}
use Rattle.tl_program.specs.Run.{IsRun}
use Rattle.tl_program.specs.Streams.{Reading, Writing}

appends-nothing : (held : Option (List ℕ)) → Appends held held []
appends-nothing None = tt
appends-nothing (Some xs) = sym (append-nil xs)

module _ (made : List ℕ → Outcome (List ℕ)) where
  by_outcome : (left : Option (List ℕ)) (P : Outcome (List ℕ) → Type 0) → P not_understood → IfSome left (λ input. made input ≡ not_understood) → IfSome left (λ input. P (made input))
  by_outcome None P p is = tt
  by_outcome (Some input) P p is = subst P (sym is) p

  -- nothing was written and no read has failed
  pub long_page-run : {W : Type 0} (printed : Document → Option Document) (before after : Reading) (seen : W → Writing) (writer : W)
      → IfSome before.left (λ input. made input ≡ not_understood) → after.has_failed ≡ (before.has_failed || false)
      → IsRun made printed 2 before after seen writer writer
  long_page-run printed before after seen writer is_long marks = record {
    range = lit≤ tt;
    exact = λ _ _. by_outcome before.left (λ outcome. 2 ≡ status_of outcome) refl is_long;
    written = λ _ _. by_outcome before.left (λ outcome. Appends (seen writer).holds (seen writer).holds (written_of outcome)) (appends-nothing (seen writer).holds) is_long;
    identity = λ is. absurd (omega arith);
    flushed_once = λ is. absurd (omega arith);
    flushed_last = λ is. absurd (omega arith);
    unflushed = λ _. refl;
    untouched = λ _ _. refl;
    beginning = λ is. absurd (omega arith);
    unread = λ _ _. refl;
    unwritten = λ is _. absurd (omega arith);
    failed = λ unmarked sound. rw (marks, unmarked, sound);
  }
