-- What the scans find, and that nothing else is that.
use Rattle.std.proofs.Common.{◌≡◌, ℕ, zero, suc, ◌+◌, ◌<◌, ◌≤◌, ◌⊎◌, inl, inr, Bool, true, false, cond, List, [], ◌∷◌, length, Option, None, Some, refl, sym, ◌∙◌, ap, subst, arith}
use Rattle.std.specs.List.{AllPairs, Contains, position_from, slice_index_or}
use Rattle.tl_spec.specs.Lookup.Scan.{places_from, PassesAt, IsFirstPlace, ArePlaces}

module _ {A : Type 0} (p : A → Bool) where
  -- nothing passes where there is nothing, and no item that fails passes
  none-passes : (m : ℕ) → PassesAt p [] m → ⊥
  none-passes m e = absurd (cc)

  front-fails : (x : A) (xs : List A) → p x ≡ false → PassesAt p (x ∷ xs) 0 → ⊥
  front-fails x xs f e = absurd (cc)

  -- the first place, where the list starts at n
  abbrev FirstFrom : ℕ → List A → Option ℕ → Type 0
  FirstFrom n xs None = (m : ℕ) → PassesAt p xs m → ⊥
  FirstFrom n xs (Some i) = (k : ℕ) × (i ≡ n + k) × PassesAt p xs k × ((m : ℕ) → PassesAt p xs m → k ≤ m)

  later-least : (x : A) (xs : List A) → p x ≡ false → (k : ℕ) → ((m : ℕ) → PassesAt p xs m → k ≤ m) → (m : ℕ) → PassesAt p (x ∷ xs) m → suc k ≤ m
  later-least x xs f k least zero e = absurd (front-fails x xs f e)
  later-least x xs f k least (suc m) e = omega (arith, least m e)

  later-none : (x : A) (xs : List A) → p x ≡ false → ((m : ℕ) → PassesAt p xs m → ⊥) → (m : ℕ) → PassesAt p (x ∷ xs) m → ⊥
  later-none x xs f h zero e = front-fails x xs f e
  later-none x xs f h (suc m) e = h m e

  later : (n : ℕ) (x : A) (xs : List A) → p x ≡ false → (r : Option ℕ) → FirstFrom (n + 1) xs r → FirstFrom n (x ∷ xs) r
  later n x xs f None h = later-none x xs f h
  later n x xs f (Some i) h = (suc h.0, omega (arith, h.1), h.2, later-least x xs f h.0 h.3)

  first-from : (n : ℕ) (xs : List A) → FirstFrom n xs (position_from p n xs)
  first-from n [] = none-passes
  first-from n (x ∷ xs) = one (first-from (n + 1) xs) (p x) refl
    where
      one : FirstFrom (n + 1) xs (position_from p (n + 1) xs) → (b : Bool) → p x ≡ b → FirstFrom n (x ∷ xs) (cond b (Some n) (position_from p (n + 1) xs))
      one h true f = (0, omega arith, ap Some f, λ m e. omega arith)
      one h false f = later n x xs f (position_from p (n + 1) xs) h

  from-zero : (xs : List A) (r : Option ℕ) → FirstFrom 0 xs r → IsFirstPlace p xs r
  from-zero xs None h = h
  from-zero xs (Some i) h = let same : i ≡ h.0 = omega (arith, h.1) in rw same (h.2, h.3)

  pub first_is : (xs : List A) (r : Option ℕ) → r ≡ position_from p 0 xs → IsFirstPlace p xs r
  first_is xs r e = from-zero xs r (rw e (first-from 0 xs))

  first-unique : (xs : List A) (r s : Option ℕ) → IsFirstPlace p xs r → IsFirstPlace p xs s → r ≡ s
  first-unique xs None None h g = refl
  first-unique xs None (Some n) h g = absurd (h n g.0)
  first-unique xs (Some m) None h g = absurd (g m h.0)
  first-unique xs (Some m) (Some n) h g = ap Some (omega (arith, h.1 n g.0, g.1 m h.0))

  pub first_only : (xs : List A) (r : Option ℕ) → IsFirstPlace p xs r → r ≡ position_from p 0 xs
  first_only xs r h = first-unique xs r (position_from p 0 xs) h (first_is xs (position_from p 0 xs) refl)

-- numbers in a list with one more in front
contains-cases : (n : ℕ) (ns : List ℕ) (m : ℕ) → Contains (n ∷ ns) m → (n ≡ m) ⊎ Contains ns m
contains-cases n ns m (zero, l, e) = inl e
contains-cases n ns m (suc k, l, e) = inr (k, omega (arith, l), e)

contains-front : (n : ℕ) (ns : List ℕ) → Contains (n ∷ ns) n
contains-front n ns = (0, omega arith, refl)

contains-later : (n : ℕ) (ns : List ℕ) (m : ℕ) → Contains ns m → Contains (n ∷ ns) m
contains-later n ns m h = (suc h.0, omega (arith, h.1), h.2)

contains-nothing : (m : ℕ) → Contains [] m → ⊥
contains-nothing m h = absurd (omega (arith, h.1))

-- rising lists, from the front
abbrev Rises : List ℕ → Type 0
Rises ns = AllPairs (λ m n. m < n) ns

rises-cons : (n : ℕ) (ns : List ℕ) → ((m : ℕ) → Contains ns m → n < m) → Rises ns → Rises (n ∷ ns)
rises-cons n ns above h i zero d l m = absurd (omega (arith, l))
rises-cons n ns above h zero (suc j) d l m = above (slice_index_or ns j d) (j, omega (arith, m), at j d (omega (arith, m)))
  where
    at : (j d : ℕ) → j < length ns → slice_index_or ns j (slice_index_or ns j d) ≡ slice_index_or ns j d
    at j d l = same ns j d l
      where
        same : (xs : List ℕ) (j d : ℕ) → j < length xs → slice_index_or xs j (slice_index_or xs j d) ≡ slice_index_or xs j d
        same [] j d l = absurd (omega (arith, l))
        same (x ∷ xs) zero d l = refl
        same (x ∷ xs) (suc j) d l = same xs j d (omega (arith, l))
rises-cons n ns above h (suc i) (suc j) d l m = h i j d (omega (arith, l)) (omega (arith, m))

rises-tail : (n : ℕ) (ns : List ℕ) → Rises (n ∷ ns) → Rises ns
rises-tail n ns h i j d l m = h (suc i) (suc j) d (omega (arith, l)) (omega (arith, m))

rises-above : (n : ℕ) (ns : List ℕ) → Rises (n ∷ ns) → (m : ℕ) → Contains ns m → n < m
rises-above n ns h m c = subst (λ y. n < y) c.2 (h 0 (suc c.0) m (omega arith) (omega (arith, c.1)))

-- rising lists with the same numbers are one
same-rising : (ms ns : List ℕ) → Rises ms → Rises ns → ((x : ℕ) → Contains ms x → Contains ns x) → ((x : ℕ) → Contains ns x → Contains ms x) → ms ≡ ns
same-rising [] [] h g f b = refl
same-rising [] (n ∷ ns) h g f b = absurd (contains-nothing n (b n (contains-front n ns)))
same-rising (m ∷ ms) [] h g f b = absurd (contains-nothing m (f m (contains-front m ms)))
same-rising (m ∷ ms) (n ∷ ns) h g f b =
    let front : m ≡ n = fronts (contains-cases n ns m (f m (contains-front m ms))) (contains-cases m ms n (b n (contains-front n ns))) in
    ap (λ x. x ∷ ms) front ∙ ap (λ xs. n ∷ xs) (same-rising ms ns (rises-tail m ms h) (rises-tail n ns g) (λ x c. forth front x c (contains-cases n ns x (f x (contains-later m ms x c)))) (λ x c. back front x c (contains-cases m ms x (b x (contains-later n ns x c)))))
  where
    fronts : (n ≡ m) ⊎ Contains ns m → (m ≡ n) ⊎ Contains ms n → m ≡ n
    fronts (inl e) c = sym e
    fronts (inr d) (inl e) = e
    fronts (inr d) (inr c) = absurd (omega (arith, rises-above n ns g m d, rises-above m ms h n c))

    forth : m ≡ n → (x : ℕ) → Contains ms x → (n ≡ x) ⊎ Contains ns x → Contains ns x
    forth e x c (inl d) = absurd (omega (arith, rises-above m ms h x c, d, e))
    forth e x c (inr d) = d

    back : m ≡ n → (x : ℕ) → Contains ns x → (m ≡ x) ⊎ Contains ms x → Contains ms x
    back e x c (inl d) = absurd (omega (arith, rises-above n ns g x c, d, e))
    back e x c (inr d) = d

module _ {A : Type 0} (p : A → Bool) where
  -- the places of items that pass
  place-passes : (n : ℕ) (xs : List A) (y : ℕ) → Contains (places_from p n xs) y → (m : ℕ) × (y ≡ n + m) × PassesAt p xs m
  place-passes n [] y c = absurd (contains-nothing y c)
  place-passes n (x ∷ xs) y c = one (place-passes (n + 1) xs y) (p x) refl c
    where
      after : (m : ℕ) × (y ≡ n + 1 + m) × PassesAt p xs m → (m : ℕ) × (y ≡ n + m) × PassesAt p (x ∷ xs) m
      after h = (suc h.0, omega (arith, h.1), h.2)

      front : (Contains (places_from p (n + 1) xs) y → (m : ℕ) × (y ≡ n + 1 + m) × PassesAt p xs m) → p x ≡ true → (n ≡ y) ⊎ Contains (places_from p (n + 1) xs) y → (m : ℕ) × (y ≡ n + m) × PassesAt p (x ∷ xs) m
      front h f (inl e) = (0, omega (arith, e), ap Some f)
      front h f (inr d) = after (h d)

      one : (Contains (places_from p (n + 1) xs) y → (m : ℕ) × (y ≡ n + 1 + m) × PassesAt p xs m) → (b : Bool) → p x ≡ b → Contains (cond b (n ∷ places_from p (n + 1) xs) (places_from p (n + 1) xs)) y → (m : ℕ) × (y ≡ n + m) × PassesAt p (x ∷ xs) m
      one h true f c = front h f (contains-cases n (places_from p (n + 1) xs) y c)
      one h false f c = after (h c)

  passing-place : (n : ℕ) (xs : List A) (m : ℕ) → PassesAt p xs m → Contains (places_from p n xs) (n + m)
  passing-place n [] m e = absurd (none-passes p m e)
  passing-place n (x ∷ xs) zero e = one (p x) refl
    where
      one : (b : Bool) → p x ≡ b → Contains (cond b (n ∷ places_from p (n + 1) xs) (places_from p (n + 1) xs)) (n + 0)
      one true f = let same : n + 0 ≡ n = omega arith in rw same (contains-front n (places_from p (n + 1) xs))
      one false f = absurd (front-fails p x xs f e)
  passing-place n (x ∷ xs) (suc m) e =
      let same : n + 1 + m ≡ n + suc m = omega arith in
      one (p x) (subst (λ y. Contains (places_from p (n + 1) xs) y) same (passing-place (n + 1) xs m e))
    where
      one : (b : Bool) → Contains (places_from p (n + 1) xs) (n + suc m) → Contains (cond b (n ∷ places_from p (n + 1) xs) (places_from p (n + 1) xs)) (n + suc m)
      one true h = contains-later n (places_from p (n + 1) xs) (n + suc m) h
      one false h = h

  places-rise : (n : ℕ) (xs : List A) → Rises (places_from p n xs)
  places-rise n [] = λ i j d l m. absurd (omega (arith, m))
  places-rise n (x ∷ xs) = one (places-rise (n + 1) xs) (p x)
    where
      above : (m : ℕ) → Contains (places_from p (n + 1) xs) m → n < m
      above m c = let h = place-passes (n + 1) xs m c in omega (arith, h.1)

      one : Rises (places_from p (n + 1) xs) → (b : Bool) → Rises (cond b (n ∷ places_from p (n + 1) xs) (places_from p (n + 1) xs))
      one h true = rises-cons n (places_from p (n + 1) xs) above h
      one h false = h

  are-places : (xs : List A) → ArePlaces p xs (places_from p 0 xs)
  are-places xs = record { rising = places-rise 0 xs; passing = λ n. (passes n, contained n) }
    where
      contained : (n : ℕ) → PassesAt p xs n → Contains (places_from p 0 xs) n
      contained n e = let same : 0 + n ≡ n = omega arith in subst (Contains (places_from p 0 xs)) same (passing-place 0 xs n e)

      passes : (n : ℕ) → Contains (places_from p 0 xs) n → PassesAt p xs n
      passes n c = let h = place-passes 0 xs n c in let same : n ≡ h.0 = omega (arith, h.1) in rw same h.2

  pub places_are : (xs : List A) (ns : List ℕ) → ns ≡ places_from p 0 xs → ArePlaces p xs ns
  places_are xs ns e = rw e (are-places xs)

  pub places_only : (xs : List A) (ns : List ℕ) → ArePlaces p xs ns → ns ≡ places_from p 0 xs
  places_only xs ns h =
      let all = are-places xs in
      same-rising ns (places_from p 0 xs) h.rising all.rising (λ x c. (all.passing x).1 ((h.passing x).0 c)) (λ x c. (h.passing x).1 ((all.passing x).0 c))
