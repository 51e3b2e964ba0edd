-- How the pieces of attributes are held.
use Rattle.std.specs.Prelude.{◌≡◌, length, nat_lt, IfSome, All, Option}
use Rattle.tl_bytes.specs.Held.{Held, Kept}
use Rattle.tl_spec.specs.Tree.Inline.{room}
use Rattle.tl_spec.specs.Lex.AttributeList.{Attributes}

abbrev pub IsHeld : Held → Kept → Type 0
IsHeld held b = b.held ≡ held

abbrev pub IsHeldPair : Held → (Kept × Option Kept) → Type 0
IsHeldPair held p = IsHeld held p.0 × IfSome p.1 (IsHeld held)

-- each key and value
pub record AreHeldAttributes (held : Held) (a : Attributes Kept) : Type 0 where
  pub others : All (IsHeldPair held) a.others.entries
  pub id : IfSome a.id (IsHeld held)
  pub class : IfSome a.class (IsHeld held)

-- attributes that inserts alone have made, of pieces that are held so
pub record AreRead (held : Held) (a : Attributes Kept) : Type 0 where
  pub heap : a.others.on_heap ≡ nat_lt room (length a.others.entries)
  pub pieces : AreHeldAttributes held a
