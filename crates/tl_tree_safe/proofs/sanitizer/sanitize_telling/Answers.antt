use Rattle.std.proofs.Common.{List, ap, map, ◌++◌, ◌∙◌, ◌≡◌, ℕ}
use Rattle.std.proofs.lemmas.Result.{IfOk-equal}
use Rattle.tl_tree.specs.Rows.{Row}
use Rattle.tl_tree.specs.TreeView.{rows_in}
use Rattle.tl_tree_safe.proofs.Passes.{pass_writes}
use Rattle.tl_tree_safe.proofs.Tellings.{told_removed}
use Rattle.tl_tree_safe.proofs.Walks.{walk_passes}
use Rattle.tl_tree_safe.specs.Inner.Telling.{told}
use Rattle.tl_tree_safe.specs.Inner.Walk.{walked}
use Rattle.tl_tree_safe.specs.Lists.{ListedWords}
use Rattle.tl_tree_safe.specs.OfPolicy.{lists_of}
use Rattle.tl_tree_safe.specs.Policies.{listed_words}
use Rattle.tl_tree_safe.specs.Removed.{Gone, gone_of}
use Rattle.tl_tree_safe.proofs.sanitizer.sanitize_telling.Goals as goal

pub returns-clause-print : goal.returns-clause-print
returns-clause-print c = λ trees same.
    let o : List ℕ = c.args.out.now.items in
    let p = lists_of c.args.policy.now in
    let own : listed_words c.in_ok-known.known.lists ≡ p = ap listed_words c.in_ok-known.ensures in
    IfOk-equal c.write_telling.result _ _ _ c.write_telling.ensures.text
    (ap (λ (p : ListedWords). o ++ walked p (rows_in c.args.tree.now)) own
    ∙ ap (λ (R : List Row). o ++ walked p R) same ∙ ap (λ (x : List ℕ). o ++ x) (walk_passes p trees c.args.policy.now.plain ∙ pass_writes p trees c.args.policy.now.words))

pub returns-clause-removed : goal.returns-clause-removed
returns-clause-removed c = λ trees same.
    let o : List Gone = map gone_of c.args.told.now.items in
    let p = lists_of c.args.policy.now in
    let own : listed_words c.in_ok-known.known.lists ≡ p = ap listed_words c.in_ok-known.ensures in
    IfOk-equal c.write_telling.result _ _ _ c.write_telling.ensures.told
    (ap (λ (p : ListedWords). o ++ told p (rows_in c.args.tree.now)) own
    ∙ ap (λ (R : List Row). o ++ told p R) same ∙ ap (λ (x : List Gone). o ++ x) (told_removed p trees c.args.policy.now.plain))
