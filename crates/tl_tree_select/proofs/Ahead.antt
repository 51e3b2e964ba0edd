-- Counts of marks along links.
use Rattle.std.proofs.Common.{◌≡◌, ◌<◌, ◌≤◌, ◌⊎◌, ◌+◌, ℕ, zero, suc, Bool, true, false, List, [], ◌∷◌, ◌++◌, length, sym, ap, ◌∙◌, arith, inl, inr, refl, subst, Option, None, Some, IfSome}
use Rattle.std.specs.List.{Contains}
use Rattle.std.specs.Option.{option_map_or}
use Rattle.std.proofs.lemmas.Bool.{false≢true, cases_lt}
use Rattle.std.proofs.lemmas.List.{get_or_append_left, get_or_push, length_push}
use Rattle.std.proofs.lemmas.List.Elements.{Contains-append_left, Contains-push, Contains-push_cases, Contains-get_or}
use Rattle.std.proofs.lemmas.List.Quantifiers.{all_pairs_push}
use Rattle.tl_tree_select.specs.Meaning.{IsCount}
use Rattle.tl_tree_select.specs.Inner.Links.{AreLower, AreLinked, IsAhead, is_at, link_at, count_at, linked_count, one_if}
use Rattle.tl_tree_select.proofs.Sources.{lower_at, below, link_within}

few_by : (o : Option ℕ) (counts : List ℕ) (n : ℕ) → IfSome o (λ to. to < n) → ((i : ℕ) → i < n → count_at counts i ≤ i + 1) → option_map_or (count_at counts) o 0 ≤ n
few_by None counts n h few = omega arith
few_by (Some to) counts n h few = let w = few to h in omega (arith, h, w)

-- there are no more marks before n than numbers
pub few_linked : (links counts : List ℕ) (n : ℕ) → AreLower links → ((i : ℕ) → i < n → count_at counts i ≤ i + 1) → linked_count links counts n ≤ n
few_linked links counts n lower few = few_by (link_at links n) counts n (lower n) few

by_link : (o : Option ℕ) (counts : List ℕ) (x : ℕ) → IfSome o (λ to. to < length counts) → option_map_or (count_at (counts ++ x ∷ [])) o 0 ≡ option_map_or (count_at counts) o 0
by_link None counts x h = refl
by_link (Some to) counts x h = get_or_append_left counts (x ∷ []) 0 to h

stable : (links counts : List ℕ) (x n : ℕ) → AreLower links → n ≤ length counts → linked_count links (counts ++ x ∷ []) n ≡ linked_count links counts n
stable links counts x n lower le = by_link (link_at links n) counts x (below (link_at links n) n (length counts) le (lower n))

-- the count of a number is that of the one that its link leads to, with itself
abbrev pub IsNext : List ℕ → List Bool → List ℕ → ℕ → Type 0
IsNext links marks counts n = count_at counts n ≡ linked_count links counts n + one_if (is_at marks n)

pub one_next : (links : List ℕ) (marks : List Bool) (counts : List ℕ) (x n : ℕ) → AreLower links
    → ((i : ℕ) → i < length counts → IsNext links marks counts i)
    → x ≡ linked_count links counts (length counts) + one_if (is_at marks (length counts))
    → (n < length counts) ⊎ (n ≡ length counts) → IsNext links marks (counts ++ x ∷ []) n
one_next links marks counts x n lower each e (inl lt) =
    get_or_append_left counts (x ∷ []) 0 n lt ∙ each n lt ∙ ap (λ k. k + one_if (is_at marks n)) (sym (stable links counts x n lower (omega (arith, lt))))
one_next links marks counts x n lower each e (inr same) =
    get_or_push counts x 0 n (sym same) ∙ e
    ∙ ap (λ i. linked_count links counts i + one_if (is_at marks i)) (sym same)
    ∙ ap (λ k. k + one_if (is_at marks n)) (sym (stable links counts x n lower (omega (arith, same))))

nothing : (P : ℕ → Type 0) → ((m : ℕ) → P m → ⊥) → IsCount P 0
nothing P none = record {
  numbers = [];
  rising = λ i j d l w. absurd (omega (arith, w));
  each = λ m. (λ h. absurd (omega (arith, h.1)), λ p. absurd (none m p));
  many = refl;
}

-- one number more, above the others, if it is marked
with_one : (P Q : ℕ → Type 0) (count n : ℕ) (mark : Bool) → IsCount P count → ((m : ℕ) → P m → m < n) → ((m : ℕ) → P m → Q m) → (mark ≡ true → Q n)
    → ((m : ℕ) → Q m → P m ⊎ ((m ≡ n) × (mark ≡ true))) → IsCount Q (count + one_if mark)
with_one P Q count n false c low up here down = record {
  numbers = c.numbers;
  rising = c.rising;
  each = λ m. (λ h. up m ((c.each m).0 h), λ q. elim (down m q) [ inl p ↦ (c.each m).1 p | inr e ↦ absurd (false≢true e.1) ]);
  many = c.many ∙ omega arith;
}
with_one P Q count n true c low up here down = record {
  numbers = c.numbers ++ n ∷ [];
  rising = all_pairs_push (λ m n. m < n) c.numbers n c.rising (λ k d w. low _ ((c.each _).0 (Contains-get_or c.numbers k d w)));
  each = λ m. (
    λ h. elim (Contains-push_cases c.numbers n m h) [ inl k ↦ up m ((c.each m).0 k) | inr e ↦ subst Q e (here refl) ],
    λ q. elim (down m q) [
      | inl p ↦ Contains-append_left c.numbers (n ∷ []) m ((c.each m).1 p)
      | inr e ↦ subst (λ (i : ℕ). Contains (c.numbers ++ n ∷ []) i) (sym e.0) (Contains-push c.numbers n)
    ],
  );
  many = length_push c.numbers n ∙ ap (λ k. k + 1) c.many;
}

module _ (links : List ℕ) (marks : List Bool) (counts : List ℕ) (lower : AreLower links) (each : (n : ℕ) → n < length links → IsNext links marks counts n) where
  -- those ahead of the number that a link leads to
  Before : Option ℕ → ℕ → Type 0
  Before None m = ⊥
  Before (Some to) m = IsAhead links marks to m

  linked_lower : (k m n : ℕ) → AreLinked links k m n → m < n
  linked_lower zero m n e = lower_at links lower n m e
  linked_lower (suc k) m n a = let l = lower_at links lower n a.0 a.1 in let h = linked_lower k m a.0 a.2 in omega (arith, l, h)

  ahead_low : (n m : ℕ) → IsAhead links marks n m → m ≤ n
  ahead_low n m (inl e, mark) = omega (arith, e)
  ahead_low n m (inr a, mark) = let l = linked_lower a.0 m n a.1 in omega (arith, l)

  before_low : (o : Option ℕ) (n m : ℕ) → IfSome o (λ to. to < n) → Before o m → m < n
  unfolding Before
  before_low None n m low h = absurd h
  before_low (Some to) n m low h = let l = ahead_low to m h in omega (arith, l, low)

  before_up : (n : ℕ) (o : Option ℕ) → link_at links n ≡ o → (m : ℕ) → Before o m → IsAhead links marks n m
  unfolding Before
  before_up n None e m h = absurd h
  before_up n (Some to) e m (inl here, mark) = (inr (0, e ∙ ap Some (sym here)), mark)
  before_up n (Some to) e m (inr a, mark) = (inr (suc a.0, (to, e, a.1)), mark)

  before_down : (n : ℕ) (o : Option ℕ) → link_at links n ≡ o → (m : ℕ) → IsAhead links marks n m → Before o m ⊎ ((m ≡ n) × (is_at marks m ≡ true))
  unfolding Before
  before_down n o e m (inl here, mark) = inr (here, mark)
  before_down n o e m (inr (zero, a), mark) = inl (subst (λ (o : Option ℕ). Before o m) (sym a ∙ e) (inl refl, mark))
  before_down n o e m (inr (suc k, a), mark) = inl (subst (λ (o : Option ℕ). Before o m) (sym a.1 ∙ e) (inr (k, a.2), mark))

  counted_by : (n : ℕ) (o : Option ℕ) → link_at links n ≡ o → ((to : ℕ) → to < n → to < length links → IsCount (IsAhead links marks to) (count_at counts to))
      → IsCount (Before o) (option_map_or (count_at counts) o 0)
  unfolding Before
  counted_by n None e earlier = nothing (Before None) (λ m h. h)
  counted_by n (Some to) e earlier =
      let low = lower_at links lower n to e in let w = link_within links n to e in earlier to low (omega (arith, low, w))

  counted : (bound n : ℕ) → n < bound → n < length links → IsCount (IsAhead links marks n) (count_at counts n)
  counted zero n h w = absurd (omega (arith, h))
  counted (suc bound) n h w =
      let o = link_at links n in
      subst (λ k. IsCount (IsAhead links marks n) k) (sym (each n w))
      (with_one (Before o) (IsAhead links marks n) (linked_count links counts n) n (is_at marks n)
      (counted_by n o refl (λ to lt wt. counted bound to (omega (arith, lt, h)) wt))
      (λ m b. before_low o n m (lower n) b)
      (λ m b. before_up n o refl m b)
      (λ mark. (inl refl, mark))
      (λ m q. elim (before_down n o refl m q) [ inl b ↦ inl b | inr e ↦ inr (e.0, subst (λ (i : ℕ). is_at marks i ≡ true) e.0 e.1) ]))

pub all_counted : (links : List ℕ) (marks : List Bool) (counts : List ℕ) → AreLower links → ((n : ℕ) → n < length links → IsNext links marks counts n)
    → (n : ℕ) → n < length links → IsCount (IsAhead links marks n) (count_at counts n)
all_counted links marks counts lower each n w = counted links marks counts lower each (suc n) n (omega arith) w

-- the numbers below one are counted
pub record Counted (links : List ℕ) (marks : List Bool) (number : ℕ) (counts : List ℕ) : Type 0 where
  pub len : length counts ≡ number
  pub few : (n : ℕ) → n < number → count_at counts n ≤ n + 1
  pub each : (n : ℕ) → n < number → IsNext links marks counts n

one_if_le : (b : Bool) → one_if b ≤ 1
one_if_le true = omega arith
one_if_le false = omega arith

pub one_counted : (links : List ℕ) (marks : List Bool) (number : ℕ) (counts : List ℕ) (x : ℕ) → AreLower links → Counted links marks number counts
    → x ≡ linked_count links counts number + one_if (is_at marks number) → Counted links marks (number + 1) (counts ++ x ∷ [])
one_counted links marks number counts x lower c e = record {
  len = length_push counts x ∙ ap (λ k. k + 1) c.len;
  few = λ n w. elim (cases_lt n number) [
    | inl lt ↦ (let same : count_at (counts ++ x ∷ []) n ≡ count_at counts n = get_or_append_left counts (x ∷ []) 0 n (omega (arith, lt, c.len)) in let few = c.few n lt in omega (arith, same, few))
    | inr ge ↦
        (let here : n ≡ number = omega (arith, w, ge) in
        let at : count_at (counts ++ x ∷ []) n ≡ x = get_or_push counts x 0 n (c.len ∙ sym here) in
        let few = few_linked links counts number lower c.few in
        let one = one_if_le (is_at marks number) in
        omega (arith, at, e, few, one, here))
  ];
  each = λ n w. one_next links marks counts x n lower (λ i lt. c.each i (omega (arith, lt, c.len)))
      (subst (λ (k : ℕ). x ≡ linked_count links counts k + one_if (is_at marks k)) (sym c.len) e)
      (elim (cases_lt n number) [ inl lt ↦ inl (omega (arith, lt, c.len)) | inr ge ↦ inr (omega (arith, w, ge, c.len)) ]);
}
