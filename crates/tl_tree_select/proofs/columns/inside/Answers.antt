use Rattle.std.proofs.Common.{◌≡◌, ◌↔◌, ◌<◌, ◌+◌, ◌∙◌, ℕ, Bool, List, true, length, arith, ap, subst, sym}
use Rattle.std.proofs.lemmas.List.{length_push}
use Rattle.tl_css.specs.Selector.{At}
use Rattle.tl_css.specs.declared.selector.Link.TheVariants.{Parent}
use Rattle.tl_css.specs.declared.selector.Way.TheVariants.{From}
use Rattle.tl_tree_select.specs.Inner.Columns.{is_inside, is_often}
use Rattle.tl_tree_select.specs.Inner.Links.{is_at}
use Rattle.tl_tree_select.specs.Meaning.{Holds}
use Rattle.tl_tree_select.specs.Page.{seen}
use Rattle.tl_tree_select.proofs.Insides.{inside_is}
use Rattle.tl_tree_select.proofs.Marks.{marks_within}
use Rattle.tl_tree_select.proofs.Pushes.{one_mark}
use Rattle.tl_tree_select.proofs.Trees.{tree_up}
use Rattle.tl_tree_select.proofs.columns.inside.Goals as goal

pub loop-number-preserved : goal.loop-number-preserved
loop-number-preserved c =
    let page = seen c.args.page.now in
    let marks = c.args.marks.now in
    let reach = c.args.reach in
    let n = c.loop-number.number in
    let found = c.loop-number.found.items in
    let x = c.is_inside-mark.result in
    let inv = c.loop-number.invariant in
    let pushed = c.in_ok-push.ensures.items in
    let same : x ≡ is_inside page marks (is_often reach) found n =
    c.is_inside-mark.ensures ∙ (λ i. is_inside page marks (c.is_often-often.ensures i) (c.deref.ensures.value i) n) in
    record {
      len = ap length pushed ∙ (length_push found x ∙ ap (λ k. k + 1) inv.len);
      each = λ e are.
          let new = inside_is page (tree_up c.args.page.now.tree.now) e marks are reach found n (inv.each e are) in
          let mark : (x ≡ true) ↔ Holds page (At From Parent reach e) n = subst (λ (v : Bool). (v ≡ true) ↔ Holds page (At From Parent reach e) n) (sym same) new in
          subst (λ (xs : List Bool). (i : ℕ) → i < n + 1 → (is_at xs i ≡ true) ↔ Holds page (At From Parent reach e) i) (sym pushed)
          (one_mark (Holds page (At From Parent reach e)) found x n inv.len (inv.each e are) mark);
    }

pub returns : goal.returns
returns c e are =
    let page = seen c.args.page.now in
    let all : c.loop-number.number ≡ length (seen c.args.page.now).rows = omega arith in
    let len = c.loop-number.invariant.len in
    marks_within page (At From Parent c.args.reach e) c.loop-number.found.items (omega (arith, all, len))
    (λ n w. c.loop-number.invariant.each e are n (omega (arith, all, w)))
