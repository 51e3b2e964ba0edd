-- The numbers of the places that pass.
use Rattle.std.proofs.Common.{◌≡◌, ◌+◌, ◌-◌, ◌<◌, ◌≤◌, ℕ, zero, suc, Bool, true, false, cond, List, [], ◌∷◌, None, Some, length, map, min, refl, sym, ap, ◌∙◌, arith, inl, inr}
use Rattle.std.specs.Bool.{Decides}
use Rattle.std.specs.List.{All, AllPairs}
use Rattle.std.proofs.lemmas.Bool.{cases_Bool}
use Rattle.std.proofs.lemmas.Bool.Decides.{eqb_tells}
use Rattle.std.proofs.lemmas.List.{length-map}
use Rattle.std.proofs.lemmas.List.Elements.{All-nil, All-cons}
use Rattle.std.proofs.lemmas.List.Kept.{AllPairs-cons}
use Rattle.tl_spec.specs.Tree.Document.{Node}
use Rattle.tl_spec.specs.Select.Selector.{Selector}
use Rattle.tl_spec.specs.Select.Meaning.{Holds, AreMatches}
use Rattle.tl_selector.specs.NodeTest.{found_numbers, IsFirst}
use Rattle.tl_selector.specs.NodeSet.{is_in}
use Rattle.tl_selector.proofs.Children.{in_contains, contains_in}
use Rattle.tl_selector.proofs.Marked.{holds_within}

numbers-step : (p : ℕ → Bool) (i e : ℕ) → i < e → found_numbers p i (e - i) ≡ cond (p i) (i ∷ found_numbers p (i + 1) (e - (i + 1))) (found_numbers p (i + 1) (e - (i + 1)))
numbers-step p i e h = let k : e - i ≡ suc (e - (i + 1)) = omega arith in ap (found_numbers p i) k

-- the first place passes
numbers-here : (p : ℕ → Bool) (i e : ℕ) → i < e → p i ≡ true → found_numbers p i (e - i) ≡ i ∷ found_numbers p (i + 1) (e - (i + 1))
numbers-here p i e h k = numbers-step p i e h ∙ ap (λ b. cond b (i ∷ found_numbers p (i + 1) (e - (i + 1))) (found_numbers p (i + 1) (e - (i + 1)))) k

-- it doesn't
numbers-skip : (p : ℕ → Bool) (i e : ℕ) → i < e → p i ≡ false → found_numbers p i (e - i) ≡ found_numbers p (i + 1) (e - (i + 1))
numbers-skip p i e h k = numbers-step p i e h ∙ ap (λ b. cond b (i ∷ found_numbers p (i + 1) (e - (i + 1))) (found_numbers p (i + 1) (e - (i + 1)))) k

-- the first number that passes, and those that are left after it
pub numbers_first : (p : ℕ → Bool) (i e m : ℕ) → IsFirst p i e (Some m) → found_numbers p i (e - i) ≡ m ∷ found_numbers p (m + 1) (e - (m + 1))
numbers_first p i e m h = let a = h.0 in after (m - i) i (omega arith) h
  where
    after : (k i : ℕ) → m ≡ i + k → IsFirst p i e (Some m) → found_numbers p i (e - i) ≡ m ∷ found_numbers p (m + 1) (e - (m + 1))
    after zero i s h = let same : i ≡ m = omega arith in let l = h.1 in rw same (numbers-here p m e l h.2)
    after (suc k) i s h =
        let l = h.1 in
        numbers-skip p i e (omega arith) (h.3 i (omega arith) (omega arith))
        ∙ after k (i + 1) (omega arith) (omega arith, l, h.2, λ n g. h.3 n (omega arith))

-- none passes
pub numbers_none : (p : ℕ → Bool) (i e : ℕ) → IsFirst p i e None → found_numbers p i (e - i) ≡ []
numbers_none p i e h = after (e - i) i refl h
  where
    after : (k i : ℕ) → e - i ≡ k → IsFirst p i e None → found_numbers p i (e - i) ≡ []
    after zero i s h = ap (found_numbers p i) s
    after (suc k) i s h = numbers-skip p i e (omega arith) (h i (omega arith) (omega arith)) ∙ after k (i + 1) (omega arith) (λ n g. h n (omega arith))

-- those that pass are the same from the first of them on
pub numbers_from_first : (p : ℕ → Bool) (i e m : ℕ) → IsFirst p i e (Some m) → found_numbers p i (e - i) ≡ found_numbers p m (e - m)
numbers_from_first p i e m h = let l = h.1 in numbers_first p i e m h ∙ sym (numbers-here p m e l h.2)

-- there are some where one passes
pub numbers_some : (p : ℕ → Bool) (i e m : ℕ) → IsFirst p i e (Some m) → ¬ (found_numbers p i (e - i) ≡ [])
numbers_some p i e m h none =
    let count : suc (length (found_numbers p (m + 1) (e - (m + 1)))) ≡ zero = ap length (sym (numbers_first p i e m h) ∙ none) in
    omega (arith, count)

-- those of tests that answer alike
pub numbers_alike : (p q : ℕ → Bool) → ((n : ℕ) → p n ≡ q n) → (i k : ℕ) → found_numbers p i k ≡ found_numbers q i k
numbers_alike p q e i zero = refl
numbers_alike p q e i (suc k) = rw (e i) (ap (λ r. cond (q i) (i ∷ r) r) (numbers_alike p q e (i + 1) k))

above : (p : ℕ → Bool) (m i k : ℕ) → m < i → All (λ n. m < n) (found_numbers p i k)
above p m i zero h = All-nil (λ n. m < n)
above p m i (suc k) h = one (above p m (i + 1) k (omega arith)) (p i)
  where
    one : All (λ n. m < n) (found_numbers p (i + 1) k) → (b : Bool) → All (λ n. m < n) (cond b (i ∷ found_numbers p (i + 1) k) (found_numbers p (i + 1) k))
    one r true = All-cons (λ n. m < n) i (found_numbers p (i + 1) k) h r
    one r false = r

rising : (p : ℕ → Bool) (i k : ℕ) → AllPairs (λ m n. m < n) (found_numbers p i k)
rising p i zero = λ a b d l m. absurd (omega (arith, m))
rising p i (suc k) = one (rising p (i + 1) k) (p i)
  where
    one : AllPairs (λ m n. m < n) (found_numbers p (i + 1) k) → (b : Bool) → AllPairs (λ m n. m < n) (cond b (i ∷ found_numbers p (i + 1) k) (found_numbers p (i + 1) k))
    one r true = AllPairs-cons (λ m n. m < n) i (found_numbers p (i + 1) k) (above p i (i + 1) k (omega arith)) r
    one r false = r

only : (p : ℕ → Bool) (i k n : ℕ) → is_in (found_numbers p i k) n ≡ true → (i ≤ n) × (n < i + k) × (p n ≡ true)
only p i zero n h = cc
only p i (suc k) n h =
    let later : is_in (found_numbers p (i + 1) k) n ≡ true → (i ≤ n) × (n < i + suc k) × (p n ≡ true) = λ e. let r = only p (i + 1) k n e in let a = r.0 in let b = r.1 in (omega arith, omega arith, r.2) in
    elim (cases_Bool (p i)) [
      | inl y ↦
          let e : is_in (i ∷ found_numbers p (i + 1) k) n ≡ true = rw y at h in
          elim (eqb_tells n i) [
            | inl w ↦ let v = w.1 in (omega arith, omega arith, ap p w.1 ∙ y)
            | inr w ↦ let f : is_in (found_numbers p (i + 1) k) n ≡ true = rw w.0 at e in later f
          ]
      | inr m ↦ let e : is_in (found_numbers p (i + 1) k) n ≡ true = rw m at h in later e
    ]

all : (p : ℕ → Bool) (i k n : ℕ) → i ≤ n → n < i + k → p n ≡ true → is_in (found_numbers p i k) n ≡ true
all p i zero n h l e = absurd (omega arith)
all p i (suc k) n h l e =
    elim (eqb_tells n i) [
      | inl w ↦ rw (sym (ap p w.1) ∙ e) (rw w.0 refl)
      | inr w ↦
          let v = w.1 in
          let r = all p (i + 1) k n (omega arith) (omega arith) e in
          elim (cases_Bool (p i)) [ inl y ↦ rw y (rw w.0 r) | inr m ↦ rw m r ]
    ]

-- where a test tells where a selector holds, the numbers that pass are those of the matches
pub numbers_are : {A : Type 0} (f : A → Node) (xs : List A) (e : Selector) (p : ℕ → Bool) → ((n : ℕ) → Decides (p n) (Holds (map f xs) e n)) → (from to : ℕ) → AreMatches (map f xs) e from to (found_numbers p from (min to (length xs) - from))
numbers_are f xs e p t from to =
    let k = min to (length xs) - from in
    record {
      rising = rising p from k;
      each = λ n. (
        λ c. let r = only p from k n (contains_in (found_numbers p from k) n c) in let a = r.0 in let b = r.1 in (a, omega arith, (t n).0 r.2),
        λ h. let a = h.0 in let b = h.1 in let l = holds_within e (map f xs) n h.2 in let s = length-map xs f in
            in_contains (found_numbers p from k) n (all p from k n a (omega arith) ((t n).1 h.2)),
      );
    }
