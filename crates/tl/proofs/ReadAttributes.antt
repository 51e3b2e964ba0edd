-- What holds while the attributes of a start tag are read.
use Rattle.std.proofs.Common.{ℕ, ◌≤◌, List, length}
use Rattle.tl_spec.specs.Lex.AttributeList.{no_attributes, with_pair, Attributes}
use Rattle.tl_bytes.specs.Held.{Held, Kept}
use Rattle.tl_lexer.proofs.Tags.{ArePut}
use Rattle.tl_attributes.specs.AttributesView.{plain}
use Rattle.tl_attributes.specs.HeldAttributes.{AreRead}

-- the attributes from `at` up to `end` are inserted
pub record IsReadUpTo (held : Held) (t : List ℕ) (at end : ℕ) (a : Attributes Kept) : Type 0 where
  pub put : ArePut with_pair t at end no_attributes (plain a)
  pub read : AreRead held a
  pub order : at ≤ end
  pub within : end ≤ length t
