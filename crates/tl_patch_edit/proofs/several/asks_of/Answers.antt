use Rattle.std.proofs.Common.{rules, Err, ◌≡◌, ℕ, ◌+◌, ◌<◌, ◌++◌, List, Option, Vec, Global, drop, length, ap, sym, subst, subst₂, ◌∙◌, refl}
use Rattle.std.specs.List.{All}
use Rattle.tl_html_spec.specs.Pieces.{Piece, pieces, runs}
use Rattle.tl_patch_spec.specs.LeftOpen.{LeftOpen}
use Rattle.tl_patch_spec.specs.Together.{Asked, asked_each}
use Rattle.tl_patch_edit.specs.Inner.Causes.{IsPlanned}
use Rattle.tl_patch_edit.specs.Open.{left_view}
use Rattle.tl_patch_edit.specs.Several.{asked_view}
use Rattle.tl_patch_edit.specs.View.{gone_view, meant_view}
use Rattle.tl_patch_edit.specs.declared.ask.Gone.{Gone}
use Rattle.tl_patch_edit.specs.declared.ask.MeantPatch.{MeantPatch}
use Rattle.tl_patch_edit.specs.declared.ask.PlacedAsk.{PlacedAsk}
use Rattle.tl_patch_edit.specs.declared.left_open.LeftOpen.{LeftOpen as CodeLeft}
use Rattle.tl_patch_edit.proofs.Refusals.{err_is, planned_more, unmeant, within_extents}
use Rattle.tl_patch_edit.proofs.Together.{AskedFrom, asks_more, asks_same, before}
use Rattle.tl_patch_edit.proofs.several.asks_of.Goals as goal
use Rattle.tl_patch_edit.proofs.several.asks_of.Goals.{then-not-is_gone+in_ok-planned+in_ok-push_all, else-not-is_gone}

pub loop-at-preserved : goal.loop-at-preserved
loop-at-preserved c =
    let ps : List Piece = runs (pieces c.args.page.now) in
    let meant : List MeantPatch = c.args.meant.now in
    let at : ℕ = c.loop-at.at in
    let all : Option (List Asked) = asked_each ps (meant_view meant) in
    elim c.if-not-is_gone.branch [
      | then-not-is_gone+in_ok-planned+in_ok-push_all w ↦
          let p = w.in_ok-push_all.ensures in
          let within : _ < length c.args.extents.now = within_extents c.args.page.now meant at _ _ _ c.loop-at-test.true refl c.requires.meant c.requires.within in
          let pushed : c.if-not-is_gone.asks.items ≡ c.loop-at.asks.items ++ p.more = ap (λ (v : Vec PlacedAsk Global). v.items) w.asks-is ∙ p.is in
          record {
            asked = asks_more ps meant at (gone_view c.loop-at.gone) (gone_view c.if-not-is_gone.gone) (left_view c.loop-at.left) (left_view c.if-not-is_gone.left) _ _ _
                w.in_ok-planned.planned c.loop-at.asks.items c.if-not-is_gone.asks.items p.more all c.loop-at-test.true refl
                (sym c.is_gone-is_gone.ensures ∙ w.if-not-is_gone.true) w.in_ok-planned.ensures.planned (c.requires.extents _ _ within) pushed p.asked
                (ap (λ (v : CodeLeft). left_view v) w.left-is ∙ p.remains)
                (ap gone_view w.gone-is ∙ w.gone_after-gone.ensures) c.loop-at.invariant.asked;
            planned = planned_more meant at _ _ c.loop-at.asks.items c.if-not-is_gone.asks.items p.more c.loop-at-test.true refl pushed p.of c.loop-at.invariant.planned;
          }
      | else-not-is_gone w ↦
          let left : left_view c.if-not-is_gone.left ≡ left_view c.loop-at.left = ap (λ (v : CodeLeft). left_view v) w.left-is in
          record {
            asked = subst (λ (y : LeftOpen). all ≡ before (asked_view c.if-not-is_gone.asks.items) (AskedFrom ps (at + 1) (gone_view c.if-not-is_gone.gone) y (drop (at + 1) meant))) (sym left)
                (subst₂ (λ (v : Vec PlacedAsk Global) (g : Gone). all ≡ before (asked_view v.items) (AskedFrom ps (at + 1) (gone_view g) (left_view c.loop-at.left) (drop (at + 1) meant))) (sym w.asks-is) (sym w.gone-is)
                (asks_same ps meant at (gone_view c.loop-at.gone) (left_view c.loop-at.left) _ _ (asked_view c.loop-at.asks.items) all c.loop-at-test.true refl (sym c.is_gone-is_gone.ensures ∙ w.if-not-is_gone.false) c.loop-at.invariant.asked));
            planned = subst (λ (v : Vec PlacedAsk Global). All (IsPlanned meant) v.items) (sym w.asks-is) c.loop-at.invariant.planned;
          }
    ]

pub planned_by-requires-clause-within : goal.planned_by-requires-clause-within
planned_by-requires-clause-within c =
    within_extents c.args.page.now c.args.meant.now c.loop-at.at _ _ _ c.loop-at-test.true refl c.requires.meant c.requires.within

pub returns-in_err-planned-clause-error : goal.returns-in_err-planned-clause-error
returns-in_err-planned-clause-error c =
    let is : c.from_residual-in_err-planned.result ≡ Err c.in_err-planned.field-0.0 = search rules in
    err_is _ _ _ is (unmeant c.args.page.now c.args.meant.now c.loop-at.at _ _ _ c.loop-at-test.true refl c.in_err-planned.ensures.error)
