use borrow.Follows.Closed.{read_of}
use Rattle.std.proofs.Common.{◌∙◌, ap, Some}
use Rattle.std.specs.Option.{ghost_name_of, option_flatten}
use Rattle.tl_spec.specs.Tree.Inline.{with_value}
use Rattle.tl_attributes.proofs.Others.{put_back}
use Rattle.tl_attributes.proofs.attributes.AttributesOf.other_mut.Goals as goal

pub returns : goal.returns
returns g c =
    let a = c.args.self.now in
    let k = c.args.key.now in
    let eq = g.B.PartialEq.eq in (
      λ t. read_of (ghost_name_of c.as_mut.result) (λ (z : g.row.B.Denot). record a { others = with_value eq a.others k (Some z) }) (put_back eq a k c.in_ok-slot_mut.field-0.now c.in_ok-slot_mut.ensures.value t),
      record { writes_back = tt; value = c.as_mut.ensures.value ∙ ap option_flatten c.in_ok-slot_mut.ensures.value },
    )
