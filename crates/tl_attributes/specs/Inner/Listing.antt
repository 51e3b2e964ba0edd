-- The attributes of a tag in order, as a reader of them sees them.
use Rattle.std.specs.Prelude.{ℕ, List, map, Option}
use Rattle.std.specs.Borrow.{Bor}
use Rattle.std.specs.Option.{option_copied}
use Rattle.tl_bytes.specs.Held.{Kept, borrowed}
use Rattle.tl_spec.specs.Lex.AttributeList.{Attributes, pairs_in_order}

abbrev pub as_borrowed : List ℕ → Kept
as_borrowed bytes = record { list = bytes; held = borrowed }

module _ {B : Type 0} where
  -- an attribute, with its value read
  abbrev pub read_pair : Kept × Option (Bor B) → Kept × Option B
  read_pair p = (p.0, option_copied p.1)

  abbrev pub listed_parts : (B → List ℕ) → List (B × Option B) → Option B → Option B →
      List (Kept × Option B)
  listed_parts list others id class =
      pairs_in_order as_borrowed (map (λ e. (as_borrowed (list e.0), e.1)) others) id class

  -- the other keys in their order, then id, then class
  abbrev pub listed : (B → List ℕ) → Attributes B → List (Kept × Option B)
  listed list a = listed_parts list a.others.entries a.id a.class
