use Rattle.std.proofs.Common.{Err, List, ap, rules, subst, sym, true, ℕ, ◌∙◌, ◌≡◌}
use Rattle.tl_dom_spec.specs.HtmlTree.{html_fragment}
use Rattle.tl_html_spec.specs.HtmlTokenizer.{without_mark}
use Rattle.tl_page.specs.Outcome.{Fails, Outcome, not_understood}
use Rattle.tl_page.specs.declared.failure.Failure.TheVariants.{NotUnderstood}
use Rattle.tl_tree_safe.specs.InDiv.{IsUnreadInDiv, div, is_in_proportion_in_div}
use Rattle.tl_tree_safe.specs.OfPolicy.{lists_of}
use Rattle.tl_c.specs.Removals.{AreRemovals, GivesSome, IsThere}
use Rattle.tl_c.specs.SafePages.{kept_page}
use Rattle.tl_c.proofs.WrittenRemovals.{of_tree}
use Rattle.tl_c.proofs.SafePages.{kept-no_page, kept-read, kept-unread}
use Rattle.tl_c.proofs.removals.removals_of_page.Goals as goal

pub returns-in_err-text-clause-gives : goal.returns-in_err-text-clause-gives
returns-in_err-text-clause-gives c =
    let page : List ℕ = c.args.page.now in
    let lists = lists_of c.args.policy.now in
    let none : kept_page lists page ≡ not_understood = kept-no_page lists page (λ p. let ok = c.in_err-text.ensures.reads p in cc) in
    let is : c.from_residual.result ≡ Err NotUnderstood = search (rules, c.in_err-text.ensures.failure) in
    subst (GivesSome (λ bytes. AreRemovals lists (without_mark page) bytes.items) (kept_page lists page)) (sym is) none

pub returns-in_ok-removals_of_tree-in-Ok-clause-gives : goal.returns-in_ok-removals_of_tree-in-Ok-clause-gives
returns-in_ok-removals_of_tree-in-Ok-clause-gives c =
    let page : List ℕ = c.args.page.now in
    let lists = lists_of c.args.policy.now in
    let text : List ℕ = c.without_mark.result.now in
    let marked : text ≡ without_mark page = c.without_mark.ensures ∙ ap without_mark (c.as_bytes.ensures.value ∙ c.in_ok-text.ensures.text) in
    let fits : is_in_proportion_in_div (without_mark page) ≡ true = subst (λ (t : List ℕ). is_in_proportion_in_div t ≡ true) marked c.in-Ok.ensures.in_proportion in
    let bytes = c.in_ok-removals_of_tree-in-Ok.field-0 in
    let are : AreRemovals lists text bytes.items =
    of_tree lists text c.in-Ok.tree c.in-Ok.ensures.tree c.in-Ok.ensures.sources bytes.items
    (c.in_ok-removals_of_tree-in-Ok.ensures (html_fragment div text) c.in-Ok.ensures.tree) in (
      subst IsThere (sym (kept-read lists page c.in_ok-text.ensures.page fits)) tt,
      subst (λ (t : List ℕ). AreRemovals lists t bytes.items) marked are,
    )

pub returns-in-Err-clause-gives : goal.returns-in-Err-clause-gives
returns-in-Err-clause-gives c =
    let page : List ℕ = c.args.page.now in
    let lists = lists_of c.args.policy.now in
    let text : List ℕ = c.without_mark.result.now in
    let marked : text ≡ without_mark page = c.without_mark.ensures ∙ ap without_mark (c.as_bytes.ensures.value ∙ c.in_ok-text.ensures.text) in
    let told : IsUnreadInDiv (without_mark page) c.in-Err.error = subst (λ (t : List ℕ). IsUnreadInDiv t c.in-Err.error) marked c.in-Err.ensures.told in
    subst (Fails (kept_page lists page)) (sym c.failure_of.ensures)
    (kept-unread lists page c.in_ok-text.ensures.page c.in-Err.error told)
