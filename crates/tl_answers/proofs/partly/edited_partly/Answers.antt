use Rattle.std.proofs.Common.{rules, Err, List, subst, ℕ, ◌≡◌}
use Rattle.tl_answers.proofs.Edits.{read_refused}
use Rattle.tl_answers.proofs.Rest.{rest_of_page, unread_partly}
use Rattle.tl_answers.specs.Edits.{refusal_of_read}
use Rattle.tl_answers.specs.Meant.{TellsIf, is_asked}
use Rattle.tl_answers.specs.Partly.{AreLeft, IsRestUndone}
use Rattle.tl_tree.specs.Pages.{IsOfPage}
use Rattle.tl_tree.specs.TreeView.{rows_in}
use Rattle.tl_answers.proofs.partly.edited_partly.Goals as goal

pub returns-clause-done : goal.returns-clause-done
returns-clause-done c =
    let tree = c.in_ok-tree.tree in
    let own = c.in_ok-own.own in
    let edit = c.args.edit.now in
    let left : List ℕ = own.numbers.items in
    record {
      tree = tree;
      of_page = record {
        rows = c.in_ok-tree.ensures.tree;
        quirks = c.in_ok-tree.ensures.quirks;
        sources = c.in_ok-tree.ensures.sources;
      };
      numbers = c.in_ok-numbers.numbers.items;
      found = c.in_ok-numbers.ensures;
      left = left;
      are_left = subst (λ (ns : List ℕ). AreLeft edit tree c.args.page.now ns left own.left_out) c.as_slice.ensures.value c.in_ok-own.ensures.left;
      done = c.in_ok-own.ensures.done;
      told = subst (λ (text : List ℕ). TellsIf (is_asked edit (rows_in tree) left) edit (rows_in tree) tree.is_quirks left text c.in_ok-meant.meant) c.as_slice-3.ensures.value
          (subst (λ (ns : List ℕ). TellsIf (is_asked edit (rows_in tree) ns) edit (rows_in tree) tree.is_quirks ns c.as_slice-3.result.now c.in_ok-meant.meant) c.as_slice-2.ensures.value c.in_ok-meant.ensures.told);
    }

pub returns-in_err-own-clause-told : goal.returns-in_err-own-clause-told
returns-in_err-own-clause-told c =
    let tree = c.in_ok-tree.tree in
    let page : List ℕ = c.args.page.now in
    let of_page : IsOfPage page tree = record {
      rows = c.in_ok-tree.ensures.tree;
      quirks = c.in_ok-tree.ensures.quirks;
      sources = c.in_ok-tree.ensures.sources;
    } in
    let why = c.in_err-own.field-0.0 in
    let is : c.from_residual-in_err-own.result ≡ Err why = search rules in
    rw is (rest_of_page c.args.edit.now c.args.selector.now page tree c.in_ok-numbers.numbers.items why of_page c.in_ok-numbers.ensures
    (subst (λ (ns : List ℕ). IsRestUndone c.args.edit.now tree page ns why) c.as_slice.ensures.value c.in_err-own.ensures.told))

pub returns-in_err-tree-clause-told : goal.returns-in_err-tree-clause-told
returns-in_err-tree-clause-told c =
    let page : List ℕ = c.args.page.now in
    let error = c.in_err-tree.field-0.0 in
    let is : c.from_residual.result ≡ Err (refusal_of_read error) = search rules in
    rw is (unread_partly c.args.edit.now c.args.selector.now page error
    (read_refused page c.read.result error c.in_err-tree.was (λ at h. search (rules, h)) (λ at h. search (rules, h))))
