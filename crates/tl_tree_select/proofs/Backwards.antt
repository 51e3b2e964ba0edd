-- Counts of marks from which links lead.
use Rattle.std.proofs.Common.{◌≡◌, ◌<◌, ◌≤◌, ◌⊎◌, ◌+◌, ◌-◌, ◌==◌, ◌^◌, ◌&&◌, ℕ, zero, suc, Bool, true, false, cond, List, [], ◌∷◌, length, sym, ap, ◌∙◌, arith, inl, inr, refl, subst, Option, None, Some, IfSome, if◌then◌else◌, slice_set}
use Rattle.std.specs.List.{AllPairs, Contains, filter, sum_by, count_by, range_with_len}
use Rattle.std.specs.Option.{option_map_or, unwrap_or}
use Rattle.std.proofs.lemmas.Bool.{cases_eq, and_parts, and_from, and_right, eqb-true, eq-eqb, ne_eqb}
use Rattle.std.proofs.lemmas.List.{get_or-set_other, get_or-set_same, length-set}
use Rattle.std.proofs.lemmas.List.Elements.{All-contains, filter_passes}
use Rattle.std.proofs.lemmas.List.FromFn.{length-range_with_len, get_or-range_with_len}
use Rattle.std.proofs.lemmas.List.Kept.{AllPairs-filter}
use Rattle.std.proofs.lemmas.List.Sums.{length-filter, count_by-le-length, sum_by-cons}
use Rattle.tl_tree_select.specs.Meaning.{IsCount}
use Rattle.tl_tree_select.specs.Inner.Links.{AreLower, AreLinked, IsLinked, IsBehind, is_at, link_at, count_at, one_if, with_added}
use Rattle.tl_tree_select.proofs.Sources.{lower_at, link_within}
use Rattle.tl_tree_select.proofs.Targets.{linked_more}

-- where the link of k leads, for k itself
past : List ℕ → ℕ → ℕ → ℕ
past links k x = if x == k then unwrap_or (link_at links k) k else x

-- where links lead from m, of d numbers from k on
root : List ℕ → ℕ → ℕ → ℕ → ℕ
root links k zero m = m
root links k (suc d) m = past links k (root links (suc k) d m)

-- the same of all numbers from k on
top : List ℕ → ℕ → ℕ → ℕ
unfolding root
top links k m = root links k (length links - k) m

top_step : (links : List ℕ) (k m : ℕ) → k < length links → top links k m ≡ past links k (top links (suc k) m)
unfolding top root
top_step links k m h = let e : length links - k ≡ suc (length links - suc k) = omega (arith, h) in ap (λ d. root links k d m) e

top_end : (links : List ℕ) (m : ℕ) → top links (length links) m ≡ m
unfolding top root
top_end links m = let e : length links - length links ≡ 0 = omega arith in ap (λ d. root links (length links) d m) e

past_other : (links : List ℕ) (k x : ℕ) → (x ≡ k → ⊥) → past links k x ≡ x
unfolding past
past_other links k x ne = rw (ne_eqb x k ne) refl

past_here : (links : List ℕ) (k j : ℕ) → link_at links k ≡ Some j → past links k k ≡ j
unfolding past
past_here links k j e = rw (eq-eqb k k refl) (ap (λ (o : Option ℕ). unwrap_or o k) e)

past_none : (links : List ℕ) (k x : ℕ) → link_at links k ≡ None → past links k x ≡ x
unfolding past
past_none links k x e = elim (cases_eq x k) [
  | inl same ↦ (rw (eq-eqb x k same) (ap (λ (o : Option ℕ). unwrap_or o k) e ∙ sym same))
  | inr ne ↦ (rw (ne_eqb x k ne) refl)
]

-- a number below k stays
root_low : (links : List ℕ) (k d m : ℕ) → m < k → root links k d m ≡ m
unfolding root
root_low links k zero m h = refl
root_low links k (suc d) m h =
    ap (past links k) (root_low links (suc k) d m (omega (arith, h))) ∙ past_other links k m (λ e. omega (arith, h, e))

-- a number leads where its link leads
root_link : (links : List ℕ) (k d m j : ℕ) → AreLower links → link_at links m ≡ Some j → k ≤ m → m < k + d → root links k d m ≡ root links k d j
unfolding root
root_link links k zero m j lower e le lt = absurd (omega (arith, le, lt))
root_link links k (suc d) m j lower e le lt = elim (cases_eq m k) [
  | inl here ↦
      (let at : link_at links k ≡ Some j = subst (λ (i : ℕ). link_at links i ≡ Some j) here e in
      let low : j < k = lower_at links lower k j at in
      ap (past links k) (root_low links (suc k) d m (omega (arith, here)) ∙ here) ∙ past_here links k j at
      ∙ sym (ap (past links k) (root_low links (suc k) d j (omega (arith, low))) ∙ past_other links k j (λ e. omega (arith, low, e))))
  | inr ne ↦
      ap (past links k) (root_link links (suc k) d m j lower e (let other : (m ≡ k → ⊥) = ne in omega (arith, le, other)) (omega (arith, lt)))
]

-- m leads to t along links of numbers above t
root_reaches : (links : List ℕ) → AreLower links → (i t m d : ℕ) → AreLinked links i t m → m < suc t + d → root links (suc t) d m ≡ t
root_reaches links lower zero t m d e lt =
    let low = lower_at links lower m t e in
    root_link links (suc t) d m t lower e (omega (arith, low)) lt ∙ root_low links (suc t) d t (omega arith)
root_reaches links lower (suc i) t m d a lt =
    let low = lower_at links lower m a.0 a.1 in
    let deep = linked_low links lower i t a.0 a.2 in
    root_link links (suc t) d m a.0 lower a.1 (omega (arith, low, deep)) lt ∙ root_reaches links lower i t a.0 d a.2 (omega (arith, lt, low))
  where
    linked_low : (links : List ℕ) → AreLower links → (k m n : ℕ) → AreLinked links k m n → m < n
    linked_low links lower zero m n e = lower_at links lower n m e
    linked_low links lower (suc k) m n a = let l = lower_at links lower n a.0 a.1 in let h = linked_low links lower k m a.0 a.2 in omega (arith, l, h)

-- where links lead from m, it is m or links lead there
IsUp : List ℕ → ℕ → ℕ → Type 0
IsUp links m x = (m ≡ x) ⊎ IsLinked links true x m

by_link : (links : List ℕ) (k m x : ℕ) → x ≡ k → IsUp links m x → (o : Option ℕ) → link_at links k ≡ o → IsUp links m (unwrap_or o k)
unfolding IsUp
by_link links k m x same (inl e) None at = inl (e ∙ same)
by_link links k m x same (inr a) None at = inr (a.0, subst (λ (i : ℕ). AreLinked links a.0 i m) same a.1)
by_link links k m x same (inl e) (Some j) at = inr (0, ap (link_at links) (e ∙ same) ∙ at)
by_link links k m x same (inr a) (Some j) at = inr (suc a.0, linked_more links a.0 x m j a.1 (ap (link_at links) same ∙ at))

past_up : (links : List ℕ) (k m x : ℕ) → IsUp links m x → IsUp links m (past links k x)
unfolding IsUp past
past_up links k m x up = elim (cases_eq x k) [
  | inl same ↦ (rw (eq-eqb x k same) (by_link links k m x same up (link_at links k) refl))
  | inr ne ↦ (rw (ne_eqb x k ne) up)
]

root_up : (links : List ℕ) (k d m : ℕ) → IsUp links m (root links k d m)
unfolding root IsUp
root_up links k zero m = inl refl
root_up links k (suc d) m = past_up links k m (root links (suc k) d m) (root_up links (suc k) d m)

top_up : (links : List ℕ) (k m : ℕ) → IsUp links m (top links k m)
unfolding top
top_up links k m = root_up links k (length links - k) m

-- a mark whose links lead to t, of numbers from k on
leads : List ℕ → List Bool → ℕ → ℕ → ℕ → Bool
leads links marks k t m = is_at marks m && (top links k m == t)

pub many : List ℕ → List Bool → ℕ → ℕ → ℕ
many links marks k t = count_by (leads links marks k t) (range_with_len 0 (length links))

-- Sums

sum_same : (f g : ℕ → ℕ) → ((x : ℕ) → f x ≡ g x) → (xs : List ℕ) → sum_by f xs ≡ sum_by g xs
sum_same f g e [] = refl
sum_same f g e (x ∷ xs) = omega (arith, e x, sum_same f g e xs, sum_by-cons f x xs, sum_by-cons g x xs)

sum_add : (f g h : ℕ → ℕ) → ((x : ℕ) → f x ≡ g x + h x) → (xs : List ℕ) → sum_by f xs ≡ sum_by g xs + sum_by h xs
sum_add f g h e [] = refl
sum_add f g h e (x ∷ xs) = omega (arith, e x, sum_add f g h e xs, sum_by-cons f x xs, sum_by-cons g x xs, sum_by-cons h x xs)

two_ways : (b : Bool) (e p q r : Bool) → (p ≡ true) → (q ≡ false) → (r ≡ true) → cond (b && p) 1 0 ≡ cond (b && q) 1 0 + cond (b && r) 1 0
two_ways true e p q r hp hq hr = rw (hp, hq, hr) refl
two_ways false e p q r hp hq hr = refl

one_way : (b : Bool) (p q r : Bool) → (p ≡ q) → (r ≡ false) → cond (b && p) 1 0 ≡ cond (b && q) 1 0 + cond (b && r) 1 0
one_way true p q r e hr = rw (e, hr) (omega arith)
one_way false p q r e hr = refl

step_some : (links : List ℕ) (b : Bool) (k p x : ℕ) → link_at links k ≡ Some p → p < k
    → cond (b && (past links k x == p)) 1 0 ≡ cond (b && (x == p)) 1 0 + cond (b && (x == k)) 1 0
step_some links b k p x e low = elim (cases_eq x k) [
  | inl same ↦
      (let to : past links k x ≡ p = ap (past links k) same ∙ past_here links k p e in
      two_ways b true (past links k x == p) (x == p) (x == k) (eq-eqb (past links k x) p to) (ne_eqb x p (λ h. omega (arith, same, h, low))) (eq-eqb x k same))
  | inr ne ↦ one_way b (past links k x == p) (x == p) (x == k) (ap (λ i. i == p) (past_other links k x ne)) (ne_eqb x k ne)
]

step_other : (links : List ℕ) (k t x : ℕ) → (t ≡ k → ⊥) → (link_at links k ≡ Some t → ⊥) → (o : Option ℕ) → link_at links k ≡ o → (past links k x == t) ≡ (x == t)
step_other links k t x ne isnt None e = ap (λ i. i == t) (past_none links k x e)
step_other links k t x ne isnt (Some p) e = elim (cases_eq x k) [
  | inl same ↦
      (let to : past links k x ≡ p = ap (past links k) same ∙ past_here links k p e in
      ne_eqb (past links k x) t (λ h. isnt (e ∙ ap Some (sym to ∙ h))) ∙ sym (ne_eqb x t (λ h. ne (sym h ∙ same))))
  | inr other ↦ ap (λ i. i == t) (past_other links k x other)
]

many_some : (links : List ℕ) (marks : List Bool) (k p : ℕ) → AreLower links → k < length links → link_at links k ≡ Some p
    → many links marks k p ≡ many links marks (suc k) p + many links marks (suc k) k
unfolding many leads
many_some links marks k p lower w e =
    sum_add (λ m. cond (is_at marks m && (top links k m == p)) 1 0) (λ m. cond (is_at marks m && (top links (suc k) m == p)) 1 0) (λ m. cond (is_at marks m && (top links (suc k) m == k)) 1 0)
    (λ m. ap (λ i. cond (is_at marks m && (i == p)) 1 0) (top_step links k m w) ∙ step_some links (is_at marks m) k p (top links (suc k) m) e (lower_at links lower k p e))
    (range_with_len 0 (length links))

many_other : (links : List ℕ) (marks : List Bool) (k t : ℕ) → k < length links → (t ≡ k → ⊥) → (link_at links k ≡ Some t → ⊥)
    → many links marks k t ≡ many links marks (suc k) t
unfolding many leads
many_other links marks k t w ne isnt =
    sum_same (λ m. cond (is_at marks m && (top links k m == t)) 1 0) (λ m. cond (is_at marks m && (top links (suc k) m == t)) 1 0)
    (λ m. ap (λ b. cond (is_at marks m && b) 1 0) (ap (λ i. i == t) (top_step links k m w) ∙ step_other links k t (top links (suc k) m) ne isnt (link_at links k) refl))
    (range_with_len 0 (length links))

many_le : (links : List ℕ) (marks : List Bool) (k t : ℕ) → many links marks k t ≤ length links
unfolding many
many_le links marks k t = omega (arith, count_by-le-length (leads links marks k t) (range_with_len 0 (length links)), length-range_with_len 0 (length links))

-- At the start each mark leads to itself alone

none_single : (q : ℕ → Bool) (t a n : ℕ) → t < a → sum_by (λ m. cond (q m && (m == t)) 1 0) (range_with_len a n) ≡ 0
none_single q t a zero h = refl
none_single q t a (suc n) h =
    let none : one_if (q a && (a == t)) ≡ 0 = ap (λ b. cond b 1 0) (and_right (q a) (a == t) (ne_eqb a t (λ e. omega (arith, h, e)))) in
    let rest = none_single q t (a + 1) n (omega (arith, h)) in
    omega (arith, none, rest, sum_by-cons (λ m. cond (q m && (m == t)) 1 0) a (range_with_len (a + 1) n))

single : (q : ℕ → Bool) (t a n : ℕ) → a ≤ t → t < a + n → sum_by (λ m. cond (q m && (m == t)) 1 0) (range_with_len a n) ≡ cond (q t) 1 0
single q t a zero le lt = absurd (omega (arith, le, lt))
single q t a (suc n) le lt = elim (cases_eq a t) [
  | inl here ↦
      (let at : one_if (q a && (a == t)) ≡ one_if (q t) = ap (λ b. cond (q a && b) 1 0) (eq-eqb a t here) ∙ (and_true (q a) ∙ ap (λ i. cond (q i) 1 0) here) in
      let rest = none_single q t (a + 1) n (omega (arith, here)) in
      omega (arith, at, rest, sum_by-cons (λ m. cond (q m && (m == t)) 1 0) a (range_with_len (a + 1) n)))
  | inr ne ↦
      (let none : one_if (q a && (a == t)) ≡ 0 = ap (λ b. cond b 1 0) (and_right (q a) (a == t) (ne_eqb a t ne)) in
      let rest = single q t (a + 1) n (let other : (a ≡ t → ⊥) = ne in omega (arith, le, other)) (omega (arith, lt)) in
      omega (arith, none, rest, sum_by-cons (λ m. cond (q m && (m == t)) 1 0) a (range_with_len (a + 1) n)))
]
  where
    and_true : (b : Bool) → one_if (b && true) ≡ one_if b
    and_true true = refl
    and_true false = refl

many_start : (links : List ℕ) (marks : List Bool) (t : ℕ) → t < length links → many links marks (length links) t ≡ one_if (is_at marks t)
unfolding many leads
many_start links marks t w =
    sum_same (λ m. cond (is_at marks m && (top links (length links) m == t)) 1 0) (λ m. cond (is_at marks m && (m == t)) 1 0)
    (λ m. ap (λ i. cond (is_at marks m && (i == t)) 1 0) (top_end links m)) (range_with_len 0 (length links))
    ∙ single (is_at marks) t 0 (length links) (omega arith) (omega (arith, w))

-- The counts, where those of the numbers from k on are added to what their links lead to

pub record Gathered (links : List ℕ) (marks : List Bool) (k : ℕ) (counts : List ℕ) : Type 0 where
  pub within : k ≤ length links
  pub len : length counts ≡ length links
  pub below : (t : ℕ) → t < k → count_at counts t ≡ many links marks k t
  pub above : (t : ℕ) → k ≤ t → t < length links → count_at counts t ≡ many links marks (suc t) t

pub none_gathered : (links : List ℕ) (marks : List Bool) (counts : List ℕ) → length counts ≡ length links
    → ((n : ℕ) → n < length links → count_at counts n ≡ one_if (is_at marks n)) → Gathered links marks (length links) counts
none_gathered links marks counts len each = record {
  within = omega arith;
  len = len;
  below = λ t w. each t w ∙ sym (many_start links marks t w);
  above = λ t le w. absurd (omega (arith, le, w));
}

add : List ℕ → ℕ → Option ℕ → List ℕ
add counts k o = option_map_or (λ to. slice_set counts to (count_at counts to + count_at counts k)) o counts

add_len : (counts : List ℕ) (k : ℕ) (o : Option ℕ) → length (add counts k o) ≡ length counts
unfolding add
add_len counts k None = refl
add_len counts k (Some to) = length-set counts to (count_at counts to + count_at counts k)

add_other : (counts : List ℕ) (k : ℕ) (o : Option ℕ) (t : ℕ) → (o ≡ Some t → ⊥) → count_at (add counts k o) t ≡ count_at counts t
unfolding add
add_other counts k None t isnt = refl
add_other counts k (Some to) t isnt = get_or-set_other counts to t (count_at counts to + count_at counts k) 0 (λ e. isnt (ap Some (sym e)))

add_same : (counts : List ℕ) (k : ℕ) (o : Option ℕ) (t : ℕ) → o ≡ Some t → t < length counts → count_at (add counts k o) t ≡ count_at counts t + count_at counts k
unfolding add
add_same counts k o t e w = ap (λ (o : Option ℕ). count_at (option_map_or (λ to. slice_set counts to (count_at counts to + count_at counts k)) o counts) t) e ∙ get_or-set_same counts t (count_at counts t + count_at counts k) 0 w

Is : (o : Option ℕ) (t : ℕ) → (o ≡ Some t) ⊎ (o ≡ Some t → ⊥)
Is None t = inr (λ e. cc)
Is (Some p) t = elim (cases_eq p t) [ inl e ↦ inl (ap Some e) | inr ne ↦ inr (λ e. ne (cc)) ]

pub one_gathered : (links : List ℕ) (marks : List Bool) → AreLower links → (from k : ℕ) → from ≡ k + 1 → (counts : List ℕ)
    → Gathered links marks from counts → Gathered links marks k (with_added links k counts)
unfolding add
one_gathered links marks lower from k next counts g =
    let o = link_at links k in
    let w : k < length links = let h = g.within in omega (arith, h, next) in
    let next' : from ≡ suc k = omega (arith, next) in
    let low : (t : ℕ) → o ≡ Some t → t < k = λ t e. lower_at links lower k t e in
    let here : count_at counts k ≡ many links marks (suc k) k = g.below k (omega (arith, next)) ∙ ap (λ i. many links marks i k) next' in
    record {
      within = omega (arith, w);
      len = add_len counts k o ∙ g.len;
      below = λ t lt. elim (Is o t) [
        | inl e ↦
            add_same counts k o t e (omega (arith, lt, w, g.len))
            ∙ ((λ i. (g.below t (omega (arith, lt, next)) ∙ ap (λ i. many links marks i t) next') i + here i)
            ∙ sym (many_some links marks k t lower w e))
        | inr isnt ↦
            add_other counts k o t isnt
            ∙ (g.below t (omega (arith, lt, next)) ∙ ap (λ i. many links marks i t) next'
            ∙ sym (many_other links marks k t w (λ e. omega (arith, lt, e)) isnt))
      ];
      above = λ t le wt.
          let isnt : (o ≡ Some t → ⊥) = λ e. (let l = low t e in omega (arith, l, le)) in
          elim (cases_eq t k) [
            | inl same ↦ add_other counts k o t isnt ∙ (ap (count_at counts) same ∙ here ∙ ap (λ i. many links marks (suc i) i) (sym same))
            | inr ne ↦ add_other counts k o t isnt ∙ g.above t (let other : (t ≡ k → ⊥) = ne in omega (arith, le, next, other)) wt
          ];
    }

fits_by : (o : Option ℕ) (P : ℕ → Type 0) → ((to : ℕ) → o ≡ Some to → P to) → IfSome o P
fits_by None P h = tt
fits_by (Some to) P h = h to refl

-- the sums are no larger than the number of page
pub fits : (links : List ℕ) (marks : List Bool) → AreLower links → (from k : ℕ) → from ≡ k + 1 → (counts : List ℕ) → Gathered links marks from counts
    → length links < 2 ^ 32 → IfSome (link_at links k) (λ to. count_at counts to + count_at counts k < 2 ^ 32)
fits links marks lower from k next counts g small =
    fits_by (link_at links k) (λ to. count_at counts to + count_at counts k < 2 ^ 32)
    (λ to e.
    let w : k < length links = let h = g.within in omega (arith, h, next) in
    let next' : from ≡ suc k = omega (arith, next) in
    let low = lower_at links lower k to e in
    let here : count_at counts k ≡ many links marks (suc k) k = g.below k (omega (arith, next)) ∙ ap (λ i. many links marks i k) next' in
    let there : count_at counts to ≡ many links marks (suc k) to = g.below to (omega (arith, low, next)) ∙ ap (λ i. many links marks i to) next' in
    let sum = many_some links marks k to lower w e in
    let le = many_le links marks k to in
    omega (arith, here, there, sum, le, small))

range_rises : (n : ℕ) → AllPairs (λ a b. a < b) (range_with_len 0 n)
range_rises n = λ i j d lt w.
    let l : j < n = omega (arith, w, length-range_with_len 0 n) in
    let a = get_or-range_with_len 0 n i d (omega (arith, lt, l)) in
    let b = get_or-range_with_len 0 n j d l in
    omega (arith, a, b, lt)

range_has : (n m : ℕ) → m < n → Contains (range_with_len 0 n) m
range_has n m w = (m, omega (arith, w, length-range_with_len 0 n), get_or-range_with_len 0 n m m w ∙ omega arith)

filter_has : (p : ℕ → Bool) (xs : List ℕ) (m : ℕ) → Contains xs m → p m ≡ true → Contains (filter p xs) m
filter_has p [] m h holds = absurd (omega (arith, h.1))
filter_has p (x ∷ xs) m (zero, lt, e) holds =
    subst (λ (b : Bool). Contains (cond b (x ∷ filter p xs) (filter p xs)) m) (sym (ap p e ∙ holds)) (0, omega arith, e)
filter_has p (x ∷ xs) m (suc k, lt, e) holds = by (p x) (filter_has p xs m (k, omega (arith, lt), e) holds)
  where
    by : (b : Bool) → Contains (filter p xs) m → Contains (cond b (x ∷ filter p xs) (filter p xs)) m
    by true h = (suc h.0, omega (arith, h.1), h.2)
    by false h = h

pub all_gathered : (links : List ℕ) (marks : List Bool) (counts : List ℕ) → AreLower links → Gathered links marks 0 counts
    → (n : ℕ) → n < length links → IsCount (IsBehind links marks n) (count_at counts n)
unfolding many leads IsUp top
all_gathered links marks counts lower g n w =
    let p = leads links marks (suc n) n in
    let range = range_with_len 0 (length links) in
    record {
      numbers = filter p range;
      rising = AllPairs-filter (λ a b. a < b) p range (range_rises (length links));
      each = λ m. (
        λ h.
            let parts = and_parts (is_at marks m) (top links (suc n) m == n) (All-contains (λ x. p x ≡ true) (filter p range) m (filter_passes p range) h) in
            let up : IsUp links m n = subst (IsUp links m) (eqb-true (top links (suc n) m) n parts.1) (top_up links (suc n) m) in
            (up, parts.0),
        λ h. filter_has p range m
            (range_has (length links) m (within m h.0))
            (and_from (is_at marks m) (top links (suc n) m == n) h.1 (eq-eqb (top links (suc n) m) n (reaches m h.0))),
      );
      many = length-filter p range ∙ sym (g.above n (omega arith) w);
    }
  where
    within : (m : ℕ) → (m ≡ n) ⊎ IsLinked links true n m → m < length links
    within m (inl e) = omega (arith, e, w)
    within m (inr (zero, a)) = link_within links m n a
    within m (inr (suc k, a)) = link_within links m a.0 a.1

    reaches : (m : ℕ) → (m ≡ n) ⊎ IsLinked links true n m → top links (suc n) m ≡ n
    reaches m (inl e) = root_low links (suc n) (length links - suc n) m (omega (arith, e)) ∙ e
    reaches m (inr a) = root_reaches links lower a.0 n m (length links - suc n) a.1 (let l = within m (inr a) in omega (arith, l, w))
