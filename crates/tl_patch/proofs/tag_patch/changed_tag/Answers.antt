use Rattle.std.proofs.Common.{◌≡◌, ◌∙◌, ℕ, true, List, ap, is_some, sym, subst}
use Rattle.tl_patch.specs.declared.tag_patch.TagPatch.{TagPatch}
use Rattle.tl_patch.proofs.Tags.{AreMadeFrom, none_refused, some_of, start_stays, tag_step}
use Rattle.tl_patch.specs.StartTags.{is_start_tag}
use Rattle.tl_patch.proofs.tag_patch.changed_tag.Goals as goal

pub loop-at-preserved : goal.loop-at-preserved
loop-at-preserved c =
    let patches : List TagPatch = c.args.patches.now in
    let at : ℕ = c.loop-at.at in
    let made = some_of _ _ _ c.in-Some.is c.in_ok-new.ensures.changed in
    record {
      made = tag_step patches at _ c.args.tag.now c.as_slice.result.now _ c.loop-at-test.true made
          (λ new h. c.loop-at.invariant.made new (subst (λ (bytes : List ℕ). AreMadeFrom patches at bytes new) c.as_slice.ensures.value h));
      start = λ h. start_stays _ c.as_slice.result.now _ made (subst (λ (bytes : List ℕ). is_start_tag bytes ≡ true) (sym c.as_slice.ensures.value) (c.loop-at.invariant.start h));
    }

pub returns-in_default-clause-some : goal.returns-in_default-clause-some
returns-in_default-clause-some c = λ s n.
    sym (ap is_some c.in_default.is)
    ∙ c.in_ok-new.ensures.some (ap is_start_tag c.as_slice.ensures.value ∙ c.loop-at.invariant.start s) (none_refused c.args.patches.now c.loop-at.at _ c.loop-at-test.true n)
