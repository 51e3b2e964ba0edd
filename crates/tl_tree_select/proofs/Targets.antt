-- Marks of the numbers to which links lead.
use Rattle.std.proofs.Common.{◌≡◌, ◌<◌, ◌≤◌, ◌⊎◌, ◌↔◌, ◌+◌, ℕ, zero, suc, Bool, true, false, ◌||◌, ◌&&◌, if◌then◌else◌, List, length, sym, ap, ◌∙◌, arith, inl, inr, refl, subst, slice_set, Option, None, Some, IfSome}
use Rattle.std.specs.Prelude.{replicate}
use Rattle.std.specs.Option.{option_map_or}
use Rattle.std.proofs.lemmas.Bool.{and_parts, or_cases, or_left, or_right, false≢true, true≢false, cases_lt, cases_eq}
use Rattle.std.proofs.lemmas.List.{get_or-set_other, get_or-set_same, get_or_past, get_or-replicate, length-set, length-replicate}
use Rattle.tl_tree_select.specs.Inner.Links.{AreLower, AreLinked, IsTarget, is_at, link_at, passes_on, with_target}
use Rattle.tl_tree_select.proofs.Sources.{link_within, lower_at}

-- one more mark, or none
abbrev put : Bool → List Bool → Option ℕ → List Bool
put p found o = option_map_or (λ to. if p then slice_set found to true else found) o found

put-len : (p : Bool) (found : List Bool) (o : Option ℕ) → length (put p found o) ≡ length found
put-len p found None = refl
put-len true found (Some to) = length-set found to true
put-len false found (Some to) = refl

put-kept : (p : Bool) (found : List Bool) (o : Option ℕ) (n m : ℕ) → IfSome o (λ to. to < n) → n ≤ m → is_at (put p found o) m ≡ is_at found m
put-kept p found None n m low le = refl
put-kept true found (Some to) n m low le = get_or-set_other found to m true false (λ e. omega (arith, low, le, e))
put-kept false found (Some to) n m low le = refl

within : (found : List Bool) (t : ℕ) → is_at found t ≡ true → t < length found
within found t mark = elim (cases_lt t (length found)) [
  | inl w ↦ w
  | inr w ↦ absurd (true≢false (sym mark ∙ get_or_past found t false w))
]

put-more : (p : Bool) (found : List Bool) (o : Option ℕ) (t : ℕ) → is_at found t ≡ true → is_at (put p found o) t ≡ true
put-more p found None t mark = mark
put-more true found (Some to) t mark = elim (cases_eq t to) [
  | inl e ↦ subst (λ (i : ℕ). is_at (slice_set found i true) t ≡ true) e (get_or-set_same found t true false (within found t mark))
  | inr ne ↦ get_or-set_other found to t true false ne ∙ mark
]
put-more false found (Some to) t mark = mark

put-here : (p : Bool) (found : List Bool) (o : Option ℕ) (t : ℕ) → p ≡ true → o ≡ Some t → t < length found → is_at (put p found o) t ≡ true
put-here p found o t holds e w =
    ap (λ (q : Bool). is_at (put q found o) t) holds
    ∙ (ap (λ (r : Option ℕ). is_at (put true found r) t) e ∙ get_or-set_same found t true false w)

put-only : (p : Bool) (found : List Bool) (o : Option ℕ) (t : ℕ) → is_at (put p found o) t ≡ true → (is_at found t ≡ true) ⊎ ((p ≡ true) × (o ≡ Some t))
put-only p found None t mark = inl mark
put-only true found (Some to) t mark = elim (cases_eq t to) [
  | inl e ↦ inr (refl, ap Some (sym e))
  | inr ne ↦ inl (sym (get_or-set_other found to t true false ne) ∙ mark)
]
put-only false found (Some to) t mark = inl mark

-- the marks that are put where all numbers from one on have passed theirs on
pub record Passed (links : List ℕ) (marks : List Bool) (often : Bool) (from : ℕ) (found : List Bool) : Type 0 where
  pub len : length found ≡ length links
  pub sound : (t : ℕ) → is_at found t ≡ true → (m : ℕ) × (from ≤ m) × (link_at links m ≡ Some t) × (passes_on marks often found m ≡ true)
  pub complete : (t m : ℕ) → from ≤ m → link_at links m ≡ Some t → passes_on marks often found m ≡ true → is_at found t ≡ true

pub none_passed : (links : List ℕ) (marks : List Bool) (often : Bool) → Passed links marks often (length links) (replicate (length links) false)
none_passed links marks often = record {
  len = length-replicate (length links) false;
  sound = λ t mark.
      let w : t < length links = subst (λ k. t < k) (length-replicate (length links) false) (within (replicate (length links) false) t mark) in
      absurd (false≢true (sym (get_or-replicate (length links) t false false w) ∙ mark));
  complete = λ t m le e p. absurd (let w = link_within links m t e in omega (arith, le, w));
}

pub one_passed : (links : List ℕ) (marks : List Bool) (often : Bool) → AreLower links → (from n : ℕ) → from ≡ n + 1 → (found : List Bool)
    → Passed links marks often from found → Passed links marks often n (with_target links marks often n found)
one_passed links marks often lower from n next found p =
    let passes = passes_on marks often found n in
    let after = with_target links marks often n found in
    let same : (m : ℕ) → n ≤ m → passes_on marks often after m ≡ passes_on marks often found m =
    λ m le. ap (λ b. is_at marks m || (often && b)) (put-kept passes found (link_at links n) n m (lower n) le) in
    record {
      len = put-len passes found (link_at links n) ∙ p.len;
      sound = λ t mark. elim (put-only passes found (link_at links n) t mark) [
        | inl was ↦ (let s = p.sound t was in (s.0, omega (arith, s.1, next), s.2, same s.0 (omega (arith, s.1, next)) ∙ s.3))
        | inr new ↦ (n, omega arith, new.1, same n (omega arith) ∙ new.0)
      ];
      complete = λ t m le e q. elim (cases_eq m n) [
        | inl here ↦
            let at : link_at links n ≡ Some t = subst (λ (i : ℕ). link_at links i ≡ Some t) here e in
            let holds : passes ≡ true = subst (λ (i : ℕ). passes_on marks often found i ≡ true) here (sym (same m le) ∙ q) in
            put-here passes found (link_at links n) t holds at (let low = lower_at links lower n t at in let w = link_within links n t at in omega (arith, low, w, p.len))
        | inr ne ↦
            put-more passes found (link_at links n) t (p.complete t m (let other : (m ≡ n → ⊥) = ne in omega (arith, le, next, other)) e (sym (same m le) ∙ q))
      ];
    }

-- a step more at the far end
pub linked_more : (links : List ℕ) (k m n j : ℕ) → AreLinked links k m n → link_at links m ≡ Some j → AreLinked links (suc k) j n
linked_more links zero m n j a e = (m, a, e)
linked_more links (suc k) m n j a e = (a.0, a.1, linked_more links k m a.0 j a.2 e)

module _ (links : List ℕ) (marks found : List Bool) (lower : AreLower links) where
  -- from a number that passes its mark on, by one link more than k
  goes : Passed links marks true 0 found → (k t m : ℕ) → AreLinked links k t m → passes_on marks true found m ≡ true → is_at found t ≡ true
  goes p zero t m e q = p.complete t m (omega arith) e q
  goes p (suc k) t m a q = goes p k t a.0 a.2 (or_right (is_at marks a.0) (true && is_at found a.0) (p.complete a.0 m (omega arith) a.1 q))

  comes : Passed links marks true 0 found → (bound t : ℕ) → length links ≤ t + bound → is_at found t ≡ true → IsTarget links marks true t
  comes p zero t h mark = absurd (let w = within found t mark in omega (arith, h, w, p.len))
  comes p (suc bound) t h mark =
      let s = p.sound t mark in
      let low = lower_at links lower s.0 t s.2 in
      elim (or_cases (is_at marks s.0) (true && is_at found s.0) s.3) as (λ _. IsTarget links marks true t) [
        | inl here ↦ (s.0, (0, s.2), here)
        | inr far ↦
            (let r = comes p bound s.0 (omega (arith, h, low)) ((and_parts true (is_at found s.0) far).1) in
            (r.0, (suc r.1.0, linked_more links r.1.0 s.0 r.0 t r.1.1 s.2), r.2))
      ]

pub all_passed : (links : List ℕ) (marks : List Bool) (often : Bool) (found : List Bool) → AreLower links → Passed links marks often 0 found
    → (n : ℕ) → (is_at found n ≡ true) ↔ IsTarget links marks often n
all_passed links marks false found lower p n = (
  λ mark. (let s = p.sound n mark in
      elim (or_cases (is_at marks s.0) (false && is_at found s.0) s.3) as (λ _. IsTarget links marks false n) [
        | inl here ↦ (s.0, s.2, here)
        | inr far ↦ absurd (false≢true far)
      ]),
  λ s. p.complete n s.0 (omega arith) s.1 (or_left (is_at marks s.0) (false && is_at found s.0) s.2),
)
all_passed links marks true found lower p n = (
  λ mark. comes links marks found lower p (length links) n (omega arith) mark,
  λ s. goes links marks found lower p s.1.0 n s.0 s.1.1 (or_left (is_at marks s.0) (true && is_at found s.0) s.2),
)
