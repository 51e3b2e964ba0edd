-- What is said of a value alone, where there is an error.
use Rattle.std.proofs.Common.{Err, IfOk, Ok, OnOk, Result}
use Rattle.std.specs.Result.{IsErr}

pub on-err : {T E : Type 0} (r : Result T E) (P : Type 0) → IsErr r → OnOk r P
on-err (Ok x) P h = absurd (let f : ⊥ = cc in f)
on-err (Err e) P h = tt

-- three facts of a value give a fourth, where there is no error
pub if-all : {T E : Type 0} (r : Result T E) (P Q R S : T → Type 0) → ((x : T) → P x → Q x → R x → S x) → IfOk r P → IfOk r Q → IfOk r R → IfOk r S
if-all (Ok x) P Q R S f p q s = f x p q s
if-all (Err e) P Q R S f p q s = tt
