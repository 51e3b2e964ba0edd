-- What a clause sees of each form of a `Bytes`.
use Rattle.tl_bytes.specs.Held.{Kept, borrowed, owned, shared}
use Rattle.tl_bytes.specs.declared.byte_string.Repr.{Repr}
use Rattle.tl_bytes.specs.declared.byte_string.Repr.TheVariants.{Borrowed, Owned, Shared}

-- the list in this form, and how it is held
abbrev pub kept : Repr → Kept
kept (Borrowed slice) = record { list = slice.now; held = borrowed }
kept (Owned vec) = record { list = vec.items; held = owned }
kept (Shared share) = record { list = share; held = shared }
