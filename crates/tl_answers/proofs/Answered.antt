-- What is answered of a page, by its tree.
use Rattle.std.proofs.Common.{Err, List, Ok, Result, ap, length, subst, true, ℕ, ◌∙◌, ◌≡◌}
use Rattle.std.specs.Prelude.{IfErr, IfOk, OnOk}
use Rattle.tl_answers.specs.Answers.{Fits, HasLargeTable, IsUnanswered, Matches, answer_of}
use Rattle.tl_answers.specs.Findings.{finding_of}
use Rattle.tl_answers.specs.Pages.{AreSources, IsAnswered, IsRefused, page_rows, searched}
use Rattle.tl_answers.specs.declared.error.AnswerError.{AnswerError}
use Rattle.tl_answers.specs.declared.error.AnswerError.TheVariants as errors
use Rattle.tl_answers.specs.declared.error.AnswerError.TheVariants.{LargeTable, LongUrl, Unread}
use Rattle.tl_answers.specs.declared.output.Output.{Output}
use Rattle.tl_answers.specs.declared.question.Question.{Question}
use Rattle.tl_dom_spec.specs.HtmlTree.{html_tree, is_in_proportion_by, standard}
use Rattle.tl_tree.specs.Asked.{node_at}
use Rattle.tl_tree.specs.Rows.{Row, rows_of}
use Rattle.tl_tree.specs.Sources.{AreSourced, page_begin, source_at}
use Rattle.tl_tree.specs.TreeView.{rows_in}
use Rattle.tl_tree.specs.declared.tree.Tree.{Tree}
use Rattle.tl_tree_select.specs.Page.{Page, page_of}

module _ (page : List ℕ) (tree : Tree) (rows : rows_in tree ≡ rows_of (html_tree page).trees) where
  -- its document is the one that is searched
  pub page_is : tree.is_quirks ≡ (html_tree page).is_quirks → page_of tree ≡ searched page
  page_is quirks = cc

  -- the places that a tree answers are those of the page
  pub are_sources : AreSourced page (page_begin standard page) tree → AreSources page (source_at tree)
  are_sources sourced = record {
    last = sourced.last;
    read = sourced.read;
    whole = sourced.whole;
    each = λ row node there. sourced.each row node (ap (λ (R : List Row). node_at R row) rows ∙ there);
  }

  -- the rows that tables are asked of are those of the page
  pub fitted : (question : Question) (m : Matches) → Fits (length page) (rows_in tree) question m → Fits (length page) (page_rows page) question m
  fitted question m fits = subst (λ (R : List Row). Fits (length page) R question m) rows fits

  pub answered : (question : Question) (m : Matches) (end : List ℕ) (r : Result Output AnswerError) → is_in_proportion_by standard page ≡ true
      → AreSourced page (page_begin standard page) tree
      → IfOk r (λ output. finding_of output ≡ answer_of question m end (html_tree page).trees (source_at tree) page)
      → OnOk r (Fits (length page) (rows_in tree) question m)
      → IfOk r (λ output. IsAnswered question m end page (finding_of output))
  answered question m end (Ok output) in_proportion sourced said fits = record {
    in_proportion = in_proportion;
    sources = source_at tree;
    are_sources = are_sources sourced;
    answer = said;
    fits = fitted question m fits;
  }
  answered question m end (Err error) in_proportion sourced said fits = tt

  refused_by : (question : Question) (error : AnswerError) → tree.is_quirks ≡ (html_tree page).is_quirks → is_in_proportion_by standard page ≡ true
      → AreSourced page (page_begin standard page) tree
      → IsUnanswered (length page) (page_of tree) (source_at tree) question error → IsRefused question page error
  refused_by question (Unread error) quirks in_proportion sourced why = absurd why
  refused_by question (LargeTable at) quirks in_proportion sourced why = record {
    in_proportion = in_proportion;
    sources = source_at tree;
    are_sources = are_sources sourced;
    large = subst (λ (p : Page). HasLargeTable (length page) p (source_at tree) question at) (page_is quirks) why;
  }
  refused_by question LongUrl quirks in_proportion sourced why = why
  refused_by question errors.OutOfMemory quirks in_proportion sourced why = tt

  pub refused : (question : Question) (r : Result Output AnswerError) → tree.is_quirks ≡ (html_tree page).is_quirks → is_in_proportion_by standard page ≡ true
      → AreSourced page (page_begin standard page) tree
      → IfErr r (IsUnanswered (length page) (page_of tree) (source_at tree) question) → IfErr r (IsRefused question page)
  refused question (Ok output) quirks in_proportion sourced why = tt
  refused question (Err error) quirks in_proportion sourced why = refused_by question error quirks in_proportion sourced why
