-- The table agrees with the class at each of the 256 bytes, by computing.
use Rattle.std.proofs.Common.{◌≡◌, ℕ, ◌<◌, true, not, nat_eq, get_or, List, refl, arith}
use Rattle.std.proofs.lemmas.Bool.{agree_below, agree_below_at}
use Rattle.tl_spec.specs.Lex.ByteClass.{is_ident}
use Rattle.tl_bytes.specs.declared.byte_class.TheConstants.{IDENT_BYTES}
use Rattle.tl_bytes.proofs.byte_class.is_ident.Goals as goal

from_table : (table : List ℕ) (b : ℕ) → b < 256
    → agree_below (λ k. not (nat_eq (get_or table k 0) 44)) is_ident 256 ≡ true
    → not (nat_eq (get_or table b 0) 44) ≡ is_ident b
from_table table b lt all = agree_below_at (λ k. not (nat_eq (get_or table k 0) 44)) is_ident 256 b all lt

pub returns : goal.returns
returns c = from_table IDENT_BYTES c.args.byte (omega arith) refl
