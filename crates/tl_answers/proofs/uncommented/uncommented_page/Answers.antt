use Rattle.std.proofs.Common.{rules, Err, List, subst, ◌∙◌, ℕ, ◌≡◌}
use Rattle.std.specs.Option.{option_copied}
use Rattle.tl_answers.proofs.Edits.{read_refused}
use Rattle.tl_answers.proofs.Rest.{kept_of_page, unread_comments}
use Rattle.tl_answers.specs.Uncommented.{refusal_of_comment, refusal_of_reading}
use Rattle.tl_patch_select.specs.Uncommented.{AreUncommented, IsCommentReason}
use Rattle.tl_tree.specs.Pages.{IsOfPage}
use Rattle.tl_answers.proofs.uncommented.uncommented_page.Goals as goal

pub returns-clause-gone : goal.returns-clause-gone
returns-clause-gone c =
    let tree = c.in_ok-tree.tree in
    let patched = c.in_ok-patched.patched in
    record {
      tree = tree;
      of_page = record {
        rows = c.in_ok-tree.ensures.tree;
        quirks = c.in_ok-tree.ensures.quirks;
        sources = c.in_ok-tree.ensures.sources;
      };
      gone = subst (λ (ns : List ℕ). AreUncommented ns tree c.args.page.now patched.bytes.items patched.places.items) (c.as_slice.ensures.value ∙ c.in_ok-numbers.ensures) c.in_ok-patched.ensures.uncommented;
    }

pub returns-in_err-patched-clause-told : goal.returns-in_err-patched-clause-told
returns-in_err-patched-clause-told c =
    let tree = c.in_ok-tree.tree in
    let page : List ℕ = c.args.page.now in
    let of_page : IsOfPage page tree = record {
      rows = c.in_ok-tree.ensures.tree;
      quirks = c.in_ok-tree.ensures.quirks;
      sources = c.in_ok-tree.ensures.sources;
    } in
    let error = c.in_err-patched.field-0.0 in
    let is : c.from_residual-in_err-patched.result ≡ Err (refusal_of_comment error) = search rules in
    rw is (kept_of_page (option_copied c.args.regex) page tree error of_page
    (subst (λ (ns : List ℕ). IsCommentReason ns tree page error) (c.as_slice.ensures.value ∙ c.in_ok-numbers.ensures) c.in_err-patched.ensures.refused))

pub returns-in_err-tree-clause-told : goal.returns-in_err-tree-clause-told
returns-in_err-tree-clause-told c =
    let page : List ℕ = c.args.page.now in
    let error = c.in_err-tree.field-0.0 in
    let is : c.from_residual.result ≡ Err (refusal_of_reading error) = search rules in
    rw is (unread_comments (option_copied c.args.regex) page error
    (read_refused page c.read.result error c.in_err-tree.was (λ at h. search (rules, h)) (λ at h. search (rules, h))))
