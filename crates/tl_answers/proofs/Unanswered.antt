-- Why nothing is answered of a tree, by what is asked.
use Rattle.std.proofs.Common.{List, Option, ℕ}
use Rattle.tl_answers.specs.Answers.{IsUnanswered}
use Rattle.tl_answers.specs.Inner.Tables.{IsTableReason}
use Rattle.tl_answers.specs.LinkLines.{IsLinkReason}
use Rattle.tl_answers.specs.declared.error.AnswerError.{AnswerError}
use Rattle.tl_answers.specs.declared.error.AnswerError.TheVariants.{LargeTable, LongUrl, OutOfMemory, Unread}
use Rattle.tl_answers.specs.declared.links.LinkQuery.{LinkQuery}
use Rattle.tl_answers.specs.declared.question.Question.TheVariants.{Links, Table}
use Rattle.tl_answers.specs.declared.tables.TableQuery.{TableQuery}
use Rattle.tl_tree.specs.declared.source.Source.{Source}
use Rattle.tl_tree_select.specs.Page.{Page}

module _ (size : ℕ) (page : Page) (sources : ℕ → Option Source) where
  pub table_reason : (query : TableQuery) (error : AnswerError) → IsTableReason size query page sources error → IsUnanswered size page sources (Table query) error
  table_reason query (Unread error) why = why
  table_reason query (LargeTable at) why = λ m selected. why m.found selected.0
  table_reason query LongUrl why = absurd why
  table_reason query OutOfMemory why = why

  pub link_reason : (query : LinkQuery) (error : AnswerError) → IsLinkReason query error → IsUnanswered size page sources (Links query) error
  link_reason query (Unread error) why = why
  link_reason query (LargeTable at) why = absurd why
  link_reason query LongUrl why = why
  link_reason query OutOfMemory why = why
