use Rattle.std.proofs.Common.{inl, inr}
use Rattle.tl_patch.proofs.Tags.{some_of}
use Rattle.tl_patch_edit.specs.Asks.{IsTagFor}
use Rattle.tl_patch_edit.specs.Inner.Parts.{Part, part_view, parts_view, with_end_part}
use Rattle.tl_patch_edit.proofs.Refusals.{cannot_put, none_of, there}
use Rattle.tl_patch_edit.proofs.tag.tag_put.Goals as goal

pub returns-clause-tag : goal.returns-clause-tag
returns-clause-tag c =
    there (with_end_part (parts_view c.args.parts.now)) c.args.ask.from (part_view c.place_at-place.result) (λ (place : Part). IsTagFor c.args.ask.put place c.in-Some.tag.items) c.place_at-place.ensures
    (some_of _ _ _ c.in-Some.is c.in_ok-tag.ensures.tag)

pub returns-in_default-clause-none : goal.returns-in_default-clause-none
returns-in_default-clause-none c =
    cannot_put (parts_view c.args.parts.now) c.args.ask (part_view c.place_at-place.result) c.place_at-place.ensures (inr (inl (none_of _ _ c.in_default.is c.in_ok-tag.ensures.none)))
