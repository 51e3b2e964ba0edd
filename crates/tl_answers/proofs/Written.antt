-- The tree of what is written, beside the one that was meant.
use Rattle.std.proofs.Common.{Bool, Err, IfErr, IfOk, List, None, Ok, Option, Result, Some, false, refl, subst, sym, true, true≢false, ℕ, ◌↔◌, ◌≡◌}
use Rattle.std.specs.Bool.{IsTrue}
use Rattle.tl_answers.proofs.Answered.{page_is}
use Rattle.tl_answers.specs.Meant.{IsDoneIn, IsMeant, IsToldBy, IsUnknown, Tells, TellsIf, is_asked, told_of}
use Rattle.tl_answers.specs.Pages.{page_rows}
use Rattle.tl_answers.specs.declared.edit.Edit.{Edit}
use Rattle.tl_answers.specs.declared.edit.Refusal.{Refusal}
use Rattle.tl_answers.specs.declared.edit.Refusal.TheVariants as refusal
use Rattle.tl_answers.specs.declared.meant.Meant.{Meant}
use Rattle.tl_css.specs.Selector.{Css}
use Rattle.tl_dom_spec.specs.HtmlTree.{html_tree}
use Rattle.tl_tree.specs.Rows.{Row}
use Rattle.tl_tree.specs.TreeView.{rows_in}
use Rattle.tl_tree.specs.declared.tree.Tree.{Tree}
use Rattle.tl_tree_edit.specs.Operations.{IsMade, Operation}
use Rattle.tl_tree_edit.specs.declared.error.MadeError.{MadeError}
use Rattle.tl_tree_edit.specs.declared.error.MadeError.TheVariants as made
use Rattle.tl_tree_select.specs.Meaning.{AreFound}
use Rattle.tl_tree_select.specs.Page.{Page, page_of}

-- an answer tells what it says
pub told_where : (own : Edit) (old : List Row) (q : Bool) (numbers text : List ℕ) (answer : Result Bool MadeError) →
    IfOk answer (λ (is : Bool). IsTrue is ↔ IsDoneIn own old q numbers (page_rows text)) → IfErr answer (IsUnknown own old q numbers) → IfOk (told_of answer) (Tells own old q numbers text)
told_where own old q numbers text (Ok true) h u = h.0 refl
told_where own old q numbers text (Ok false) h u = λ p. absurd (true≢false (sym (h.1 p)))
told_where own old q numbers text (Err made.OutOfMemory) h u = tt
told_where own old q numbers text (Err (made.Unread error)) h u = u

-- it fails for want of memory
pub told_fails : (answer : Result Bool MadeError) → IfErr (told_of answer) (λ (why : Refusal). why ≡ refusal.OutOfMemory)
told_fails (Ok true) = tt
told_fails (Ok false) = tt
told_fails (Err made.OutOfMemory) = refl
told_fails (Err (made.Unread error)) = tt

-- of elements where a selector holds
pub told_by : (own : Edit) (e : Css) (page : Page) (numbers text : List ℕ) (r : Result Meant Refusal) → AreFound page e numbers →
    IfOk r (TellsIf (is_asked own page.rows numbers) own page.rows page.is_quirks numbers text) → IfOk r (IsToldBy own e page text)
told_by own e page numbers text (Ok m) found told = record { numbers = numbers; found = found; told = told }
told_by own e page numbers text (Err why) found told = tt

-- of the tree of a page, and of the page
pub meant_of_page : (own : Edit) (e : Css) (page text : List ℕ) (tree : Tree) (m : Meant) → rows_in tree ≡ page_rows page → tree.is_quirks ≡ (html_tree page).is_quirks →
    IsToldBy own e (page_of tree) text m → IsMeant own e page text m
meant_of_page own e page text tree m rows quirks h =
    subst (λ (p : Page). IsToldBy own e p text m) (page_is page tree rows quirks) h

-- whether an operation is made, by another word for it
pub made_as : (old : List Row) (q : Bool) (numbers : List ℕ) (new : List Row) (r : Result Bool MadeError) (own said : Operation) → own ≡ said →
    IfOk r (λ (is : Bool). IsTrue is ↔ IsMade old q numbers own new) → IfOk r (λ (is : Bool). IsTrue is ↔ IsMade old q numbers said new)
made_as old q numbers new r own said same made =
    subst (λ (o : Operation). IfOk r (λ (is : Bool). IsTrue is ↔ IsMade old q numbers o new)) same made
