-- What the code's values are.
use Rattle.tl_css.specs.Selector as s
use Rattle.tl_css.specs.declared.selector.Test.{Test}
use Rattle.tl_css.specs.declared.selector.Test.TheVariants.{Any, Name, Id, Class, Key, Value, Empty, May}
use Rattle.tl_css.specs.declared.selector.Ident.{Ident}

abbrev pub ident : Ident → s.Ident
ident own = record { lower = own.lower.items; written = own.written.items }

abbrev pub test : Test → s.Test
test Any = s.Any
test (Name name) = s.Name (ident name)
test (Id id) = s.Id id.items
test (Class class) = s.Class class.items
test (Key space key) = s.Key space (ident key)
test (Value space key op value case) = s.Value space (ident key) op value.items case
test Empty = s.Empty
test (May anchor) = s.May anchor
