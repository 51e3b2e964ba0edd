use Rattle.std.proofs.Common.{rules, Err, List, subst, ℕ, ◌≡◌}
use Rattle.tl_answers.specs.Edits.{refusal_of_read}
use Rattle.tl_answers.specs.Meant.{IsToldBy}
use Rattle.tl_tree.specs.Pages.{IsOfPage}
use Rattle.tl_tree_select.specs.Page.{page_of}
use Rattle.tl_answers.proofs.Edits.{read_refused, refused_of_page, unread_page}
use Rattle.tl_answers.proofs.Written.{meant_of_page}
use Rattle.tl_answers.proofs.edited.edited_page.Goals as goal

pub returns-clause-done : goal.returns-clause-done
returns-clause-done c =
    let tree = c.in_ok-tree.tree in
    let of_page : IsOfPage c.args.page.now tree = record {
      rows = c.in_ok-tree.ensures.tree;
      quirks = c.in_ok-tree.ensures.quirks;
      sources = c.in_ok-tree.ensures.sources;
    } in
    record { tree = tree; of_page = of_page; done = c.in_ok-patched.ensures.done }

pub returns-clause-meant : goal.returns-clause-meant
returns-clause-meant c =
    let patched = c.in_ok-patched.patched in
    meant_of_page c.args.edit.now c.args.selector.now c.args.page.now patched.bytes.items c.in_ok-tree.tree c.in_ok-meant.meant c.in_ok-tree.ensures.tree c.in_ok-tree.ensures.quirks
    (subst (λ (text : List ℕ). IsToldBy c.args.edit.now c.args.selector.now (page_of c.in_ok-tree.tree) text c.in_ok-meant.meant) c.as_slice.ensures.value c.in_ok-meant.ensures.told)

pub returns-in_err-patched-clause-told : goal.returns-in_err-patched-clause-told
returns-in_err-patched-clause-told c =
    let tree = c.in_ok-tree.tree in
    let of_page : IsOfPage c.args.page.now tree = record {
      rows = c.in_ok-tree.ensures.tree;
      quirks = c.in_ok-tree.ensures.quirks;
      sources = c.in_ok-tree.ensures.sources;
    } in
    let why = c.in_err-patched.field-0.0 in
    let is : c.from_residual-in_err-patched.result ≡ Err why = search rules in
    rw is (refused_of_page c.args.edit.now c.args.selector.now c.args.page.now tree why of_page c.in_err-patched.ensures.told)

pub returns-in_err-tree-clause-told : goal.returns-in_err-tree-clause-told
returns-in_err-tree-clause-told c =
    let page : List ℕ = c.args.page.now in
    let error = c.in_err-tree.field-0.0 in
    let is : c.from_residual.result ≡ Err (refusal_of_read error) = search rules in
    rw is (unread_page c.args.edit.now c.args.selector.now page error
    (read_refused page c.read.result error c.in_err-tree.was (λ at h. search (rules, h)) (λ at h. search (rules, h))))
