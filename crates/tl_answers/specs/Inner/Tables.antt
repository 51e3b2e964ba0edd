-- Why tables aren't written.
use Rattle.std.specs.Option.{option_copied}
use Rattle.std.specs.Prelude.{List, Option, length, ℕ, ⊤, ◌<◌, ◌≡◌}
use Rattle.tl_answers.specs.LeftOut.{AreLeftOut}
use Rattle.tl_answers.specs.Tables.{IsLargeAt, asked_tables, start_of}
use Rattle.tl_answers.specs.declared.error.AnswerError.{AnswerError}
use Rattle.tl_answers.specs.declared.error.AnswerError.TheVariants.{LargeTable, LongUrl, OutOfMemory, Unread}
use Rattle.tl_answers.specs.declared.tables.TableQuery.{TableQuery}
use Rattle.tl_tree.specs.Rows.{Row}
use Rattle.tl_tree.specs.declared.source.Source.{Source}
use Rattle.tl_tree_select.specs.Page.{Page}

-- one of them: with its text there are more bytes than so many, and it begins there
abbrev pub IsTooLong : ℕ → List ℕ → Option Source → AnswerError → Type 0
IsTooLong most text source (Unread error) = ⊥
IsTooLong most text source (LargeTable at) = (most < length text) × (at ≡ start_of source)
IsTooLong most text source LongUrl = ⊥
IsTooLong most text source OutOfMemory = ⊤

-- these
abbrev pub IsTextReason :
    ℕ → TableQuery → List Row → (ℕ → Option Source) → List ℕ → AnswerError → Type 0
IsTextReason size query rows sources tables (Unread error) = ⊥
IsTextReason size query rows sources tables (LargeTable at) =
    IsLargeAt size query rows sources tables at
IsTextReason size query rows sources tables LongUrl = ⊥
IsTextReason size query rows sources tables OutOfMemory = ⊤

-- those that are asked for
abbrev pub IsTableReason :
    ℕ → TableQuery → Page → (ℕ → Option Source) → AnswerError → Type 0
IsTableReason size query page sources (Unread error) = ⊥
IsTableReason size query page sources (LargeTable at) =
    (found : List ℕ) → AreLeftOut (option_copied query.within) page found →
    IsLargeAt size query page.rows sources (asked_tables page.rows query found) at
IsTableReason size query page sources LongUrl = ⊥
IsTableReason size query page sources OutOfMemory = ⊤
