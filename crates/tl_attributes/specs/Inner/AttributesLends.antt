-- What attributes end as, where a value of theirs is lent.
use Rattle.std.specs.Prelude.{ℕ, List, Bool, Option, Some, Result}
use Rattle.std.specs.Borrow.{LendsIf, LendsIfOk, Fml, RattleType, MutBor}
use Rattle.std.specs.contracts.option.Option.{the_row as option_row}
use Rattle.tl_spec.specs.Tree.Inline.{with_value}
use Rattle.tl_spec.specs.Lex.AttributeList.{Attributes}
use Rattle.tl_spec.specs.Edit.Attribute.{with_value_at}
use Rattle.tl_attributes.specs.contracts.attributes.AttributesOf.{the_row}

-- the members of a `Piece`
abbrev pub PieceMembers : Type 0 → Type 0
PieceMembers B = record { hash_input : B → List (List ℕ); eq : B → B → Bool; list : B → List ℕ }

module _ (B : RattleType) (p : PieceMembers B.Denot) (s : MutBor (Attributes B.Denot)) where
  abbrev pub row : RattleType
  row = the_row B (record { list = p.list }) (record { eq = p.eq })
      (record { hash_input = p.hash_input })

  abbrev pub LendsId : Option (MutBor B.Denot) → Fml
  LendsId r = LendsIf row B s r (λ w. record s.now { id = Some w }) s.now

  abbrev pub LendsSlot : B.Denot → Option (MutBor (Option B.Denot)) → Fml
  LendsSlot k r = LendsIf row (option_row B) s r
      (λ w. record s.now { others = with_value p.eq s.now.others k w }) s.now

  abbrev pub LendsValue : B.Denot → Option (MutBor B.Denot) → Fml
  LendsValue k r = LendsIf row B s r (λ w.
      record s.now { others = with_value p.eq s.now.others k (Some w) }) s.now

  abbrev pub LendsClass : Option (MutBor B.Denot) → Fml
  LendsClass r = LendsIf row B s r (λ w. record s.now { class = Some w }) s.now

  abbrev pub LendsValueAt : B.Denot → Option (MutBor B.Denot) → Fml
  LendsValueAt k r = LendsIf row B s r (with_value_at p.list p.eq s.now k) s.now

  abbrev pub LendsValueAtOk : B.Denot → Result (MutBor B.Denot) Bool → Fml
  LendsValueAtOk k r = LendsIfOk row B s r (with_value_at p.list p.eq s.now k) s.now
