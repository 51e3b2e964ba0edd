use Rattle.std.proofs.Common.{◌≡◌, ◌↔◌, ◌∙◌, Bool, IfOk, List, ap, subst, true, ℕ}
use Rattle.tl_css.specs.Selector.{folds_by}
use Rattle.tl_css.specs.View.{ident}
use Rattle.tl_css.specs.declared.selector.Space.TheVariants.{Every}
use Rattle.tl_tree_select.specs.Meaning.{HasAttribute, PassesBy, folds_at}
use Rattle.tl_tree_select.specs.Page.{seen}
use Rattle.tl_tree_select.proofs.attribute.has_some_attribute.Goals as goal

pub returns : goal.returns
returns c =
    let page = seen c.args.page.now in
    let n = c.args.number in
    let r = c.has_some_value.result in
    let value = c.args.value.now in
    let wanted = folds_by c.args.case (folds_at page (ident c.args.key.now).lower n) in
    let folds : c.folds_value-folds.result ≡ wanted =
    c.folds_value-folds.ensures ∙ ap (λ (key : List ℕ). folds_by c.args.case (folds_at page key n)) c.deref.ensures.value in
    subst (λ (key : List ℕ). IfOk r (λ has. (has ≡ true) ↔ HasAttribute page (PassesBy wanted c.args.op value) Every key n)) c.spelled_at-key.ensures
    (subst (λ (b : Bool). IfOk r (λ has. (has ≡ true) ↔ HasAttribute page (PassesBy b c.args.op value) Every c.spelled_at-key.result.now n)) folds c.has_some_value.ensures)
