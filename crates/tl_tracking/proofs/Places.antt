-- Scans with one more node.
use Rattle.std.proofs.Common.{◌≡◌, ℕ, zero, suc, ◌+◌, ◌-◌, ◌<◌, ◌≤◌, ◌==◌, ◌||◌, Bool, true, false, cond, List, [], ◌∷◌, ◌++◌, length, None, Some, slice_get, refl, ◌∙◌, ap, arith, append-nil}
use Rattle.std.specs.List.{position_from}
use Rattle.std.specs.Option.{option_or}
use Rattle.std.proofs.lemmas.Bool.{eq-eqb}
use Rattle.std.proofs.lemmas.Bool.Decides.{nat_tests}
use Rattle.std.proofs.lemmas.List.{length-append}
use Rattle.tl_spec.specs.Lookup.Scan.{places_from}
use Rattle.tl_tracking.specs.Tracking.{is_number, with_number, singleton_when}

module _ {A : Type 0} (p : A → Bool) where
  pub position-more : (n m : ℕ) (xs : List A) (x : A) → m ≡ n + length xs → position_from p n (xs ++ x ∷ []) ≡ option_or (position_from p n xs) (cond (p x) (Some m) None)
  position-more n m [] x e = ap (λ i. cond (p x) (Some i) None) (omega (arith, e))
  position-more n m (y ∷ xs) x e = one (position-more (n + 1) m xs x (omega (arith, e))) (p y)
    where
      one : position_from p (n + 1) (xs ++ x ∷ []) ≡ option_or (position_from p (n + 1) xs) (cond (p x) (Some m) None)
          → (b : Bool) → cond b (Some n) (position_from p (n + 1) (xs ++ x ∷ [])) ≡ option_or (cond b (Some n) (position_from p (n + 1) xs)) (cond (p x) (Some m) None)
      one h true = refl
      one h false = h

  pub places-more : (n m : ℕ) (xs : List A) (x : A) → m ≡ n + length xs → places_from p n (xs ++ x ∷ []) ≡ places_from p n xs ++ singleton_when (p x) m
  places-more n m [] x e = ap (singleton_when (p x)) (omega (arith, e))
  places-more n m (y ∷ xs) x e = one (places-more (n + 1) m xs x (omega (arith, e))) (p y)
    where
      one : places_from p (n + 1) (xs ++ x ∷ []) ≡ places_from p (n + 1) xs ++ singleton_when (p x) m
          → (b : Bool) → cond b (n ∷ places_from p (n + 1) (xs ++ x ∷ [])) (places_from p (n + 1) (xs ++ x ∷ [])) ≡ cond b (n ∷ places_from p (n + 1) xs) (places_from p (n + 1) xs) ++ singleton_when (p x) m
      one h true = ap (λ ns. n ∷ ns) h
      one h false = h

abbrev pub AllBelow : ℕ → List ℕ → Type 0
AllBelow m [] = Unit {0}
AllBelow m (n ∷ ns) = (n < m) × AllBelow m ns

pub places-below : {A : Type 0} (p : A → Bool) (n m : ℕ) (xs : List A) → n + length xs ≤ m → AllBelow m (places_from p n xs)
places-below p n m [] h = tt
places-below p n m (x ∷ xs) h = one (places-below p (n + 1) m xs (omega (arith, h))) (omega (arith, h)) (p x)
  where
    one : AllBelow m (places_from p (n + 1) xs) → n < m → (b : Bool) → AllBelow m (cond b (n ∷ places_from p (n + 1) xs) (places_from p (n + 1) xs))
    one h l true = (l, h)
    one h l false = h

apart : (n m : ℕ) → n < m → (n == m) ≡ false
apart n m h = grind (arith, nat_tests)

below-at : (m : ℕ) (ns : List ℕ) (k : ℕ) → AllBelow m ns → is_number m (slice_get ns k) ≡ false
below-at m [] k h = refl
below-at m (n ∷ ns) zero h = apart n m h.0
below-at m (n ∷ ns) (suc k) h = below-at m ns k h.1

-- a number above all of a list goes to its end
pub number-added : (m : ℕ) (ns : List ℕ) → AllBelow m ns → with_number m ns ≡ ns ++ m ∷ []
number-added m ns h = ap (λ b. cond b ns (ns ++ m ∷ [])) (below-at m ns (length ns - 1) h)

at-end : (ns : List ℕ) (m : ℕ) → slice_get (ns ++ m ∷ []) (length ns) ≡ Some m
at-end [] m = refl
at-end (n ∷ ns) m = at-end ns m

last-of : (ns : List ℕ) (m : ℕ) → slice_get (ns ++ m ∷ []) (length (ns ++ m ∷ []) - 1) ≡ Some m
last-of ns m = ap (slice_get (ns ++ m ∷ [])) (omega (arith, length-append ns (m ∷ []))) ∙ at-end ns m

-- and once there it is not added again
pub number-there : (m : ℕ) (ns : List ℕ) → with_number m (ns ++ m ∷ []) ≡ ns ++ m ∷ []
number-there m ns = ap (λ b. cond b (ns ++ m ∷ []) ((ns ++ m ∷ []) ++ m ∷ [])) (ap (is_number m) (last-of ns m) ∙ eq-eqb m m refl)

-- the number of a tag under a member, after some of its members and one more
pub number-noted : (m : ℕ) (ns : List ℕ) → AllBelow m ns → (before now : Bool) → cond now (with_number m (ns ++ singleton_when before m)) (ns ++ singleton_when before m) ≡ ns ++ singleton_when (before || (now || false)) m
number-noted m ns h true true = number-there m ns
number-noted m ns h true false = refl
number-noted m ns h false true = ap (with_number m) (append-nil ns) ∙ number-added m ns h
number-noted m ns h false false = refl
