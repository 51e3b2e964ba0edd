-- What is made of a page.
use Rattle.std.specs.Prelude.{List, true, ℕ, ⊤, ◌≡◌}
use Rattle.tl_answers.specs.Answers.{AreNone, AreSelected, AsksForUrls, Matches}
use Rattle.tl_answers.specs.Findings.{Finding, whole}
use Rattle.tl_answers.specs.Pages.{HasLargeTableAt, IsAnswered, IsUnread, searched}
use Rattle.tl_answers.specs.declared.error.AnswerError.{AnswerError}
use Rattle.tl_answers.specs.declared.error.AnswerError.TheVariants as unanswered
use Rattle.tl_answers.specs.declared.question.Question.{Question}
use Rattle.tl_cli.specs.declared.task.Task.{Task}
use Rattle.tl_cli.specs.declared.task.Task.TheVariants.{Ask, Sanitize}
use Rattle.tl_cli.specs.declared.task.Unmade.{Unmade}
use Rattle.tl_cli.specs.declared.task.Unmade.TheVariants.{Failed, LargeTable, LongUrl, OutOfProportion, TooLarge}
use Rattle.tl_html_spec.specs.HtmlTokenizer.{without_mark}
use Rattle.tl_page.specs.Page.{IsPage}
use Rattle.tl_page.specs.declared.failure.Failure.{Failure}
use Rattle.tl_page.specs.declared.failure.Failure.TheVariants.{Fault, NotUnderstood, OutOfMemory, Refused}
use Rattle.tl_tree.specs.declared.error.ReadError.{ReadError}
use Rattle.tl_tree.specs.declared.error.ReadError.TheVariants as unread
use Rattle.tl_tree_safe.specs.InDiv.{IsUnreadInDiv, is_in_proportion_in_div, safe_print}
use Rattle.tl_tree_safe.specs.Lists.{ListedWords}
use Rattle.tl_tree_safe.specs.OfPolicy.{lists_of}

-- Safe pages

-- what lists let stand of a page, which is read as what a `div` holds, printed
pub record IsMadeSafe (lists : ListedWords) (page : List ℕ) (finding : Finding) : Type 0 where
  pub in_proportion : is_in_proportion_in_div (without_mark page) ≡ true
  pub print : finding ≡ whole (safe_print lists (without_mark page))

-- Tasks

-- the numbers of the nodes where the selectors of a task hold; where it has none, no number
abbrev pub AreSelectedIn : Task → List ℕ → Matches → Type 0
AreSelectedIn (Ask question) page m = AreSelected question (searched page) m
AreSelectedIn (Sanitize policy) page m = AreNone m

-- what a task makes of a page
abbrev pub IsMade : Task → Matches → List ℕ → List ℕ → Finding → Type 0
IsMade (Ask question) m end page finding = IsAnswered question m end page finding
IsMade (Sanitize policy) m end page finding = IsMadeSafe (lists_of policy) page finding

-- a page that is no text, or too long, is not understood; else memory ran out
abbrev pub IsNoPage : List ℕ → Failure → Type 0
IsNoPage page Refused = ⊥
IsNoPage page NotUnderstood = IsPage page → ⊥
IsNoPage page OutOfMemory = ⊤
IsNoPage page Fault = ⊥

-- why nothing is answered of a page
abbrev pub IsUnanswered : Question → List ℕ → Unmade → Type 0
IsUnanswered question page (Failed failure) = IsNoPage page failure
IsUnanswered question page (OutOfProportion at) = IsUnread page (unread.OutOfProportion at)
IsUnanswered question page TooLarge = ⊤
IsUnanswered question page (LargeTable at) = HasLargeTableAt question page at
IsUnanswered question page LongUrl = AsksForUrls question

-- why it isn't made safe; bytes are counted behind a byte order mark
abbrev pub IsUnsafe : List ℕ → Unmade → Type 0
IsUnsafe page (Failed failure) = IsNoPage page failure
IsUnsafe page (OutOfProportion at) =
    IsUnreadInDiv (without_mark page) (unread.OutOfProportion at)
IsUnsafe page TooLarge = ⊤
IsUnsafe page (LargeTable at) = ⊥
IsUnsafe page LongUrl = ⊥

-- why a task makes nothing of it
abbrev pub IsUnmade : Task → List ℕ → Unmade → Type 0
IsUnmade (Ask question) page why = IsUnanswered question page why
IsUnmade (Sanitize policy) page why = IsUnsafe page why

-- want of memory is told as such
abbrev pub unmade_of : ReadError → Unmade
unmade_of unread.OutOfMemory = Failed OutOfMemory
unmade_of unread.TooLarge = TooLarge
unmade_of (unread.OutOfProportion at) = OutOfProportion at

abbrev pub unanswered_of : AnswerError → Unmade
unanswered_of (unanswered.Unread error) = unmade_of error
unanswered_of (unanswered.LargeTable at) = LargeTable at
unanswered_of unanswered.LongUrl = LongUrl
unanswered_of unanswered.OutOfMemory = Failed OutOfMemory
