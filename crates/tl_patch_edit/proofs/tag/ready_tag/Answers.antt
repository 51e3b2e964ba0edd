use Rattle.std.proofs.Common.{refl, sym, inl, ◌∙◌, arith, length, List, ◌≤◌}
use Rattle.std.proofs.lemmas.Option.{slice_get-get_or}
use Rattle.tl_patch_edit.specs.Inner.Parts.{Part, end_part, parts_view, with_end_part}
use Rattle.tl_patch_edit.proofs.Lists.{length_view}
use Rattle.tl_patch_edit.proofs.Refusals.{cannot_put, none_of}
use Rattle.tl_patch_edit.proofs.Splicing.{before_end}
use Rattle.tl_patch_edit.proofs.tag.ready_tag.Goals as goal

pub returns-then-not-has_name-clause-error : goal.returns-then-not-has_name-clause-error
returns-then-not-has_name-clause-error c =
    let parts : List Part = parts_view c.args.parts.now in
    let l : c.args.placed.ask.from ≤ length parts = omega (arith, length_view c.args.parts.now, c.if-placed-parts.false) in (
      refl,
      cannot_put parts c.args.placed.ask _ (slice_get-get_or (with_end_part parts) c.args.placed.ask.from end_part (before_end parts c.args.placed.ask.from l))
          (inl (sym c.in_ok-has_name.ensures ∙ c.if-not-has_name.true)),
    )

pub returns-in_default-clause-error : goal.returns-in_default-clause-error
returns-in_default-clause-error c = (refl, none_of _ _ c.in_default.is c.in_ok-tag.ensures.none)

pub tag_put-requires-clause-name : goal.tag_put-requires-clause-name
tag_put-requires-clause-name c = sym c.in_ok-has_name.ensures ∙ c.if-not-has_name.false
