-- What the type of attributes keeps, in the words of the definitions.
use Rattle.std.proofs.Common.{nat_eq}
use Rattle.std.specs.Cmp.Lexicographic.{pointwise}
use Rattle.std.specs.List.{IsDistinct}
use Rattle.std.specs.Map.{keys_of}
use Rattle.std.specs.Str.{bytes_eq}
use Rattle.tl_spec.specs.Lex.AttributeList.{AreOthers, Attributes, HasOwnKeys}
use Rattle.tl_spec.proofs.Print.Images.{distinct-image, others-image}
use Rattle.tl_bytes.specs.Held.{Kept}
use Rattle.tl_attributes.specs.AttributesView.{plain, bytes_view, value_view}

pub own_keys : (a : Attributes Kept) → IsDistinct (λ (x y : Kept). pointwise nat_eq x.list y.list) (keys_of a.others.entries) → AreOthers (λ b. b.list) a.others.entries
    → HasOwnKeys (plain a)
own_keys a d o = record {
  distinct = distinct-image bytes_view value_view bytes_eq a.others.entries d;
  others = others-image bytes_view value_view (λ key. key) a.others.entries o;
}
