use Rattle.std.proofs.Common.{Bool, List, arith, length, rules, subst, sym, ℕ, ◌∙◌, ◌≡◌}
use Rattle.std.proofs.lemmas.Grind.{common_steps}
use Rattle.std.specs.Prelude.{IfOk}
use Rattle.tl_tree.specs.TreeView.{rows_in}
use Rattle.tl_tree_extract.specs.Marks.{marks_of}
use Rattle.tl_tree_select.proofs.Founds.{found_once}
use Rattle.tl_tree_select.specs.Page.{page_of}
use Rattle.tl_answers.proofs.Marks.{each_marked, none_marked}
use Rattle.tl_answers.proofs.left_out.marks_where.Goals as goal

pub returns-then-is_empty : goal.returns-then-is_empty
returns-then-is_empty c = λ ns found.
    let numbers : List ℕ = c.in_ok-numbers.numbers.items in
    let one : numbers ≡ ns = found_once (page_of c.args.tree.now) c.args.selector.now numbers ns c.in_ok-numbers.ensures found in
    let none : length numbers ≡ 0 = grind (arith, common_steps, c.is_empty.ensures, c.if-is_empty.true) in
    c.new.ensures.items ∙ none_marked (rows_in c.args.tree.now) numbers ns one none

pub returns : goal.returns
returns c = λ ns found.
    let numbers : List ℕ = c.in_ok-numbers.numbers.items in
    let one : numbers ≡ ns = found_once (page_of c.args.tree.now) c.args.selector.now numbers ns c.in_ok-numbers.ensures found in
    let some : length numbers ≡ 0 → ⊥ = λ none. grind (arith, common_steps, none, c.is_empty.ensures, c.if-is_empty.false) in
    let lent : numbers ≡ c.deref.result.now = search rules in
    let each = each_marked (rows_in c.args.tree.now) numbers ns one some in
    subst (λ (marks : List Bool). IfOk c.marks_of.result (λ made. made.items ≡ marks)) each
    (subst (λ (xs : List ℕ). IfOk c.marks_of.result (λ made. made.items ≡ marks_of xs (length (rows_in c.args.tree.now)))) (sym lent) c.marks_of.ensures)
