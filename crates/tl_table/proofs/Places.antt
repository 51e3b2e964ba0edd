-- Places in a list of images, and a scan that goes on after the first place.
use Rattle.std.proofs.Common.{◌≡◌, ℕ, zero, suc, ◌+◌, ◌-◌, ◌<◌, ◌≤◌, Bool, true, false, cond, List, [], ◌∷◌, length, map, take, drop, None, Some, refl, sym, ◌∙◌, ap, arith, add-one}
use Rattle.std.specs.List.{All, position_from}
use Rattle.std.proofs.lemmas.List.{drop-map, take_rest}
use Rattle.std.proofs.lemmas.List.Elements.{All-nil, All-cons}
use Rattle.tl_spec.specs.Lookup.Scan.{places_from}

-- where an item's image passes
pub position-of_image : {A B : Type 0} (f : A → B) (p : B → Bool) (n : ℕ) (xs : List A) → position_from (λ x. p (f x)) n xs ≡ position_from p n (map f xs)
position-of_image f p n [] = refl
position-of_image f p n (x ∷ xs) = ap (λ r. cond (p (f x)) (Some n) r) (position-of_image f p (n + 1) xs)

module _ {A : Type 0} (p : A → Bool) where
  -- where no item passes, a scan finds none, wherever it counts from
  pub places-none : (n m : ℕ) (xs : List A) → position_from p m xs ≡ None → places_from p n xs ≡ []
  places-none n m [] e = refl
  places-none n m (x ∷ xs) e = one (places-none (n + 1) (m + 1) xs) (p x) e
    where
      one : (position_from p (m + 1) xs ≡ None → places_from p (n + 1) xs ≡ []) → (b : Bool) → cond b (Some m) (position_from p (m + 1) xs) ≡ None
          → cond b (n ∷ places_from p (n + 1) xs) (places_from p (n + 1) xs) ≡ []
      one h true f = absurd (cc)
      one h false f = h f

  -- no place is below the one where a scan counts from
  position-above : (m i : ℕ) (xs : List A) → position_from p m xs ≡ Some i → m ≤ i
  position-above m i [] e = absurd (cc)
  position-above m i (x ∷ xs) e = one (position-above (m + 1) i xs) (p x) e
    where
      one : (position_from p (m + 1) xs ≡ Some i → m + 1 ≤ i) → (b : Bool) → cond b (Some m) (position_from p (m + 1) xs) ≡ Some i → m ≤ i
      one h true f = let same : m ≡ i = cc in omega (arith, same)
      one h false f = omega (arith, h f)

  -- the first place that a scan finds, and that it goes on after it
  places-first : (n m i j k : ℕ) (xs : List A) → position_from p m xs ≡ Some i → i ≡ m + k → j ≡ n + k → places_from p n xs ≡ j ∷ places_from p (j + 1) (drop (suc k) xs)
  places-first n m i j k [] e h g = absurd (cc)
  places-first n m i j zero (x ∷ xs) e h g = one (p x) e
    where
      one : (b : Bool) → cond b (Some m) (position_from p (m + 1) xs) ≡ Some i → cond b (n ∷ places_from p (n + 1) xs) (places_from p (n + 1) xs) ≡ j ∷ places_from p (j + 1) xs
      one true f = let same : j ≡ n = omega (arith, g) in rw same refl
      one false f = absurd (omega (arith, position-above (m + 1) i xs f, h))
  places-first n m i j (suc k) (x ∷ xs) e h g = one (places-first (n + 1) (m + 1) i j k xs) (p x) e
    where
      one : (position_from p (m + 1) xs ≡ Some i → i ≡ m + 1 + k → j ≡ n + 1 + k → places_from p (n + 1) xs ≡ j ∷ places_from p (j + 1) (drop (suc k) xs))
          → (b : Bool) → cond b (Some m) (position_from p (m + 1) xs) ≡ Some i → cond b (n ∷ places_from p (n + 1) xs) (places_from p (n + 1) xs) ≡ j ∷ places_from p (j + 1) (drop (suc k) xs)
      one q true f = let same : m ≡ i = cc in absurd (omega (arith, same, h))
      one q false f = q f (omega (arith, h)) (omega (arith, g))

  -- no place is past the end
  pub places-below : (n m : ℕ) (xs : List A) → n + length xs ≤ m → All (λ k. k < m) (places_from p n xs)
  places-below n m [] h = All-nil (λ k. k < m)
  places-below n m (x ∷ xs) h = one (places-below (n + 1) m xs (omega (arith, h))) (p x)
    where
      one : All (λ k. k < m) (places_from p (n + 1) xs) → (b : Bool) → All (λ k. k < m) (cond b (n ∷ places_from p (n + 1) xs) (places_from p (n + 1) xs))
      one q true = All-cons (λ k. k < m) n (places_from p (n + 1) xs) (omega (arith, h)) q
      one q false = q

-- the same of images, where what is left is a slice
pub places-next : {A B : Type 0} (f : A → B) (p : B → Bool) (n k : ℕ) (xs : List A) → Some k ≡ position_from p 0 (map f xs)
    → places_from p n (map f xs) ≡ (n + k) ∷ places_from p (n + k + 1) (map f (take (length xs - (k + 1)) (drop (k + 1) xs)))
places-next f p n k xs e =
    places-first p n 0 k (n + k) k (map f xs) (sym e) (omega arith) refl
    ∙ ap (λ ys. (n + k) ∷ places_from p (n + k + 1) ys) (drop-map f (suc k) xs ∙ ap (map f) (ap (λ m. drop m xs) (sym (add-one k)) ∙ sym (take_rest xs (k + 1))))
