-- What is known of a tag's attributes without a look at them.
use Rattle.std.specs.Prelude.{◌≡◌, ℕ, ◌+◌, ◌-◌, ◌*◌, ◌%◌, List, length, slice_get, unwrap_or, Option, None, Some, IsTrue, ⊤, option_map}
use Rattle.std.specs.Int.{bit_at}
use Rattle.tl_spec.specs.Lex.AttributeList.{Attributes}
use Rattle.tl_spec.specs.Lookup.ClassMember.{has_member}
use Rattle.tl_bytes.specs.Held.{Kept}
use Rattle.tl_attributes.specs.declared.summary.Fingerprint.{Fingerprint}
use Rattle.tl_attributes.specs.declared.summary.IdSummary.{IdSummary}
use Rattle.tl_attributes.specs.declared.summary.IdSummary.TheVariants.{Unknown, Absent, Known}
use Rattle.tl_attributes.specs.declared.summary.Summary.{Summary}

-- the mark of some bytes, so that equal bytes have equal marks
abbrev pub fingerprint_of : List ℕ → Fingerprint
fingerprint_of bytes = record {
  len = length bytes % 256;
  first = unwrap_or (slice_get bytes 0) 0;
  last = unwrap_or (slice_get bytes (length bytes - 1)) 0;
}

-- the number of its bit, from 0 to 31
abbrev pub bit_of : Fingerprint → ℕ
bit_of mark = (mark.first + 3 * mark.last + 5 * mark.len) % 32

-- bytes of this mark may be the id
abbrev pub MayBeId : IdSummary → Fingerprint → Type 0
MayBeId Unknown mark = ⊤
MayBeId Absent mark = ⊥
MayBeId (Known own) mark = own ≡ mark

-- bytes of this mark may be a member of the class
abbrev pub MayBeMember : ℕ → Fingerprint → Type 0
MayBeMember classes mark = bit_at classes (bit_of mark) ≡ 1

-- what is said of an id is right: nothing, that there is none, or its mark
abbrev pub IsIdSummary : IdSummary → Option (List ℕ) → Type 0
IsIdSummary Unknown id = ⊤
IsIdSummary Absent id = id ≡ None
IsIdSummary (Known mark) id = option_map fingerprint_of id ≡ Some mark

-- the bit of each member of a class is set
abbrev pub AreClassBits : ℕ → Option (List ℕ) → Type 0
AreClassBits classes class = (member : List ℕ) → IsTrue (has_member class member) →
    MayBeMember classes (fingerprint_of member)

-- nothing that is said of attributes is wrong, however they are held
pub record IsSummary (o : Summary) (attributes : Attributes Kept) : Type 0 where
  pub id : IsIdSummary o.id (option_map (λ (bytes : Kept). bytes.list) attributes.id)
  pub class : AreClassBits o.classes (option_map (λ (bytes : Kept). bytes.list) attributes.class)
