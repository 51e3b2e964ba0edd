use Rattle.std.proofs.Common.{◌≡◌, ◌-◌, ◌++◌, ◌+◌, ℕ, List, Vec, Global, drop, length, take, ap, sym, subst, ◌∙◌, arith}
use Rattle.std.proofs.lemmas.List.{drop_all, length-drop, take_all}
use Rattle.tl_patch_spec.specs.Patches.{Patch}
use Rattle.tl_patch_spec.specs.Together.{at_each}
use Rattle.tl_patch_edit.specs.Several.{stands_twice}
use Rattle.tl_patch_edit.specs.View.{patch_view, patches_view}
use Rattle.tl_patch_edit.specs.declared.ask.PlacedPatch.{PlacedPatch}
use Rattle.tl_patch_edit.proofs.Together.{each_again, each_once, none_left}
use Rattle.tl_patch_edit.proofs.several.each_at.Goals as goal
use Rattle.tl_patch_edit.proofs.several.each_at.Goals.{then-not-is_twice+in_ok-push_patch, else-not-is_twice}

pub loop-at-preserved : goal.loop-at-preserved
loop-at-preserved c =
    let places : List ℕ = c.args.places.now in
    let patch : Patch = patch_view c.args.patch in
    let at : ℕ = c.loop-at.at in
    let whole : take (length places - at) (drop at places) ≡ drop at places = take_all (length places - at) (drop at places) (omega (arith, length-drop at places)) in
    let is : stands_twice (drop at places) ≡ c.stands_twice-is_twice.result = sym (ap stands_twice whole) ∙ sym c.stands_twice-is_twice.ensures in
    elim c.if-not-is_twice.branch [
      | then-not-is_twice+in_ok-push_patch w ↦
          each_once places at _ c.loop-at.patches.items c.if-not-is_twice.patches.items _ (at_each patch places) c.loop-at-test.true (is ∙ w.if-not-is_twice.true)
          (ap (λ (v : Vec PlacedPatch Global). v.items) w.patches-is ∙ w.in_ok-push_patch.ensures) c.loop-at.invariant
      | else-not-is_twice w ↦
          subst (λ (v : Vec PlacedPatch Global). at_each patch places ≡ patches_view v.items ++ at_each patch (drop (at + 1) places)) (sym w.patches-is)
          (each_again places at 0 patch (patches_view c.loop-at.patches.items) (at_each patch places) c.loop-at-test.true (is ∙ w.if-not-is_twice.false) c.loop-at.invariant)
    ]

pub returns : goal.returns
returns c = none_left c.args.places.now c.loop-at.at (patch_view c.args.patch) (patches_view c.loop-at.patches.items) (at_each (patch_view c.args.patch) c.args.places.now) (drop_all c.loop-at.at c.args.places.now c.loop-at-test.false) c.loop-at.invariant
