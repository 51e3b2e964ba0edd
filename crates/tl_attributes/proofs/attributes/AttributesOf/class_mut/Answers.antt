use Rattle.std.proofs.Common.{◌≡◌, refl}
use Rattle.std.specs.Option.{option_copied_mut}
use Rattle.tl_attributes.proofs.attributes.AttributesOf.class_mut.Goals as goal

-- `value` stands first, so that a loan of another field is refused before the loans are compared
pub returns : goal.returns
returns g c =
    let value : option_copied_mut c.as_mut.result ≡ c.self.inside.class = c.as_mut.ensures.value in
    rw (← c.self.view_is) (refl, record { writes_back = tt; value = value })
