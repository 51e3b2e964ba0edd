use Rattle.std.proofs.Common.{refl, inr}
use Rattle.tl_patch.proofs.Tags.{some_of}
use Rattle.tl_patch_edit.specs.Asks.{GivePut, puts_view}
use Rattle.tl_patch_edit.specs.Inner.Parts.{Part, part_view, parts_view, with_end_part}
use Rattle.tl_patch_edit.proofs.Refusals.{cannot_put, none_of, there}
use Rattle.tl_patch_edit.proofs.wanted.put_of.Goals as goal

pub returns-in_default-clause-error : goal.returns-in_default-clause-error
returns-in_default-clause-error c =
    (refl, cannot_put (parts_view c.args.parts.now) c.args.one.now.placed.ask (part_view c.place_at-place.result) c.place_at-place.ensures (inr (inr (none_of _ _ c.in_default.is c.in_ok-put.ensures.none))))

pub returns-clause-put : goal.returns-clause-put
returns-clause-put c =
    there (with_end_part (parts_view c.args.parts.now)) c.args.one.now.placed.ask.from (part_view c.place_at-place.result)
    (λ (place : Part). GivePut (puts_view c.args.one.now.placed.ask.put) place (parts_view c.in-Some.put.items))
    c.place_at-place.ensures (some_of _ _ _ c.in-Some.is c.in_ok-put.ensures.parts)
