-- What is put into a tag.
use Rattle.std.proofs.Common.{◌≡◌, ℕ, List, [], ◌∷◌, ◌++◌, append_assoc, arith, Result, Ok, Err, Option, Some, None, IfOk, IfSome}
use Rattle.std.specs.List.{All}
use Rattle.std.proofs.lemmas.List.Elements.{All-cons}
use Rattle.tl_patch_spec.specs.Markup.{quoted_value, value_markup}
use Rattle.tl_patch_spec.specs.Splices.{Splice}

pub quoted_is : (out value : List ℕ) → ((out ++ 34 ∷ []) ++ value_markup value) ++ 34 ∷ [] ≡ out ++ quoted_value value
quoted_is out value = simp append_assoc

all_none : (P : Splice ℕ → Type 0) → All P []
all_none P k d l = absurd (omega arith)

pub one_put : (P : Splice ℕ → Type 0) (s : Splice ℕ) → P s → All P (s ∷ [])
one_put P s h = All-cons P s [] h (all_none P)

-- what is said of each value that is found
pub found : {A E : Type 0} (r : Result (Option A) E) (P Q : A → Type 0) → ((x : A) → P x → Q x) → IfOk r (λ f. IfSome f P) → IfOk r (λ f. IfSome f Q)
found (Err e) P Q f h = tt
found (Ok None) P Q f h = tt
found (Ok (Some x)) P Q f h = f x h
