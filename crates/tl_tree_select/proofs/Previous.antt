-- Links to the last number before another of its group.
use Rattle.std.proofs.Common.{◌≡◌, ◌<◌, ◌+◌, ◌^◌, ℕ, zero, suc, List, [], ◌∷◌, ◌++◌, length, sym, ap, ◌∙◌, arith, inl, inr, refl, subst, Option, None, Some, IfSome, slice_index_or, slice_set, replicate}
use Rattle.std.specs.Option.{option_map_or}
use Rattle.std.proofs.lemmas.Bool.{cases_lt, cases_eq, ne_eqb}
use Rattle.std.proofs.lemmas.List.{get_or_append_left, get_or_push, get_or-set_same, get_or-set_other, get_or-replicate, length_push, length-set, length-replicate}
use Rattle.tl_tree_select.specs.Inner.Links.{AreGrouped, AreToLast, IsLastBelow, IsLatest, link_at, link_or_none, no_link}
use Rattle.tl_tree_select.proofs.Sources.{link_within}

-- a link by the number that stands for it
pub link_read : (links : List ℕ) (n : ℕ) → link_at links n ≡ link_or_none (slice_index_or links n no_link)
link_read [] n = refl
link_read (x ∷ links) zero = refl
link_read (x ∷ links) (suc n) = link_read links n

pub link_is : (n : ℕ) → n < no_link → link_or_none n ≡ Some n
link_is n h = rw (ne_eqb n no_link (λ e. omega (arith, h, e))) refl

module _ {G : Type 0} (group_at : ℕ → Option G) where
  pub IsLatest-more : (number : ℕ) (g : G) (o : Option ℕ) → IsLatest group_at number g o → (group_at number ≡ Some g → ⊥) → IsLatest group_at (number + 1) g o
  IsLatest-more number g None h other = λ k w e. elim (cases_lt k number) [
    | inl lt ↦ h k lt e
    | inr ge ↦ other (subst (λ (i : ℕ). group_at i ≡ Some g) (let same : k ≡ number = omega (arith, w, ge) in same) e)
  ]
  IsLatest-more number g (Some m) h other = (
    omega (arith, h.0),
    h.1,
    λ k w e. elim (cases_lt k number) [
      | inl lt ↦ h.2 k lt e
      | inr ge ↦ absurd (other (subst (λ (i : ℕ). group_at i ≡ Some g) (let same : k ≡ number = omega (arith, w, ge) in same) e))
    ],
  )

  pub IsLatest-here : (number : ℕ) (g : G) → group_at number ≡ Some g → IsLatest group_at (number + 1) g (Some number)
  IsLatest-here number g e = (omega arith, e, λ k lt h. omega (arith, lt))

  -- links of the numbers below one: to the last one before of the same group
  pub record AreLatest (number : ℕ) (links : List ℕ) : Type 0 where
    pub len : length links ≡ number
    pub each : (n : ℕ) → n < number → IfSome (group_at n) (λ g. IsLatest group_at n g (link_at links n))
    pub none : (n : ℕ) → n < number → group_at n ≡ None → link_at links n ≡ None

  pub none_latest : AreLatest 0 []
  none_latest = record {
    len = refl;
    each = λ n w. absurd (omega (arith, w));
    none = λ n w. absurd (omega (arith, w));
  }

  pub one_latest : (number : ℕ) (links : List ℕ) (x : ℕ) → AreLatest number links
      → IfSome (group_at number) (λ g. IsLatest group_at number g (link_or_none x)) → (group_at number ≡ None → link_or_none x ≡ None)
      → AreLatest (number + 1) (links ++ x ∷ [])
  one_latest number links x are here other =
      let at_old : (n : ℕ) → n < number → link_at (links ++ x ∷ []) n ≡ link_at links n =
      λ n lt. link_read (links ++ x ∷ []) n ∙ ap link_or_none (get_or_append_left links (x ∷ []) no_link n (omega (arith, lt, are.len))) ∙ sym (link_read links n) in
      let at_new : (n : ℕ) → n ≡ number → link_at (links ++ x ∷ []) n ≡ link_or_none x =
      λ n e. link_read (links ++ x ∷ []) n ∙ ap link_or_none (get_or_push links x no_link n (are.len ∙ sym e)) in
      record {
        len = length_push links x ∙ ap (λ k. k + 1) are.len;
        each = λ n lt. elim (cases_lt n number) [
          | inl less ↦
              subst (λ (o : Option ℕ). IfSome (group_at n) (λ g. IsLatest group_at n g o)) (sym (at_old n less)) (are.each n less)
          | inr ge ↦
              (let same : n ≡ number = omega (arith, lt, ge) in
              subst (λ (o : Option ℕ). IfSome (group_at n) (λ g. IsLatest group_at n g o)) (sym (at_new n same))
              (subst (λ (i : ℕ). IfSome (group_at i) (λ g. IsLatest group_at i g (link_or_none x))) (sym same) here))
        ];
        none = λ n lt e. elim (cases_lt n number) [
          | inl less ↦ at_old n less ∙ are.none n less e
          | inr ge ↦
              (let same : n ≡ number = omega (arith, lt, ge) in
              at_new n same ∙ other (ap group_at (sym same) ∙ e))
        ];
      }

  module _ (number : ℕ) (within : (n : ℕ) (g : G) → group_at n ≡ Some g → n < number) (links : List ℕ) (are : AreLatest number links) where
    latest_at : (n : ℕ) (g : G) → group_at n ≡ Some g → IsLatest group_at n g (link_at links n)
    latest_at n g at = subst (λ (o : Option G). IfSome o (λ g. IsLatest group_at n g (link_at links n))) at (are.each n (within n g at))

    comes : (m n : ℕ) → n < number → (o : Option G) → group_at n ≡ o → link_at links n ≡ Some m → IsLastBelow (AreGrouped group_at) m n
    comes m n w None at e = absurd (let both : None ≡ Some m = sym (are.none n w at) ∙ e in cc)
    comes m n w (Some g) at e =
        let latest : IsLatest group_at n g (Some m) = subst (λ (o : Option ℕ). IsLatest group_at n g o) e (latest_at n g at) in
        ((latest.0, (g, latest.1, at)), λ k h. latest.2 k h.0 (h.1.1 ∙ sym h.1.2 ∙ at))

    goes_by : (m n : ℕ) (g : G) → group_at n ≡ Some g → IsLastBelow (AreGrouped group_at) m n → (o : Option ℕ) → IsLatest group_at n g o → o ≡ Some m
    goes_by m n g at h None latest = absurd (latest m h.0.0 (h.0.1.1 ∙ sym h.0.1.2 ∙ at))
    goes_by m n g at h (Some l) latest =
        let le = latest.2 m h.0.0 (h.0.1.1 ∙ sym h.0.1.2 ∙ at) in
        let ge = h.1 l (latest.0, (g, latest.1, at)) in
        let same : l ≡ m = omega (arith, le, ge) in
        ap Some same

    pub all_latest : AreToLast (AreGrouped group_at) links
    all_latest = record {
      each = λ m n. (
        λ e. comes m n (let w = link_within links n m e in omega (arith, w, are.len)) (group_at n) refl e,
        λ h. goes_by m n h.0.1.0 h.0.1.2 h (link_at links n) (latest_at n h.0.1.0 h.0.1.2),
      );
      none = λ k n e lt h. subst (λ (o : Option ℕ). IsLatest group_at n h.0 o) e (latest_at n h.0 h.2) k lt (h.1);
    }

-- what stands where the numbers below one are gone through
pub record Gone (groups : List ℕ) (number : ℕ) (links latest : List ℕ) : Type 0 where
  pub many : length latest ≡ length groups
  pub last : (g : ℕ) → g < length groups → IsLatest (link_at groups) number g (link_or_none (slice_index_or latest g no_link))
  pub linked : AreLatest (link_at groups) number links

pub none_gone : (groups latest : List ℕ) → latest ≡ replicate (length groups) no_link → Gone groups 0 [] latest
none_gone groups latest same = record {
  many = ap length same ∙ length-replicate (length groups) no_link;
  last = λ g w.
      subst (λ (v : ℕ). IsLatest (link_at groups) 0 g (link_or_none v))
      (sym (ap (λ (xs : List ℕ). slice_index_or xs g no_link) same ∙ get_or-replicate (length groups) g no_link no_link w))
      (λ k lt e. omega (arith, lt));
  linked = none_latest (link_at groups);
}

module _ (groups : List ℕ) (number : ℕ) (w : number < length groups) (small : length groups < 2 ^ 32) (links latest : List ℕ) (gone : Gone groups number links latest) where
  was : Option ℕ → ℕ
  was group = option_map_or (λ g. slice_index_or latest g no_link) group no_link

  later : Option ℕ → List ℕ
  later group = option_map_or (λ g. slice_set latest g number) group latest

  later_len : (group : Option ℕ) → length (later group) ≡ length groups
  unfolding later
  later_len None = gone.many
  later_len (Some g) = length-set latest g number ∙ gone.many

  later_last : (group : Option ℕ) → link_at groups number ≡ group → IfSome group (λ g. g < length groups)
      → (g : ℕ) → g < length groups → IsLatest (link_at groups) (number + 1) g (link_or_none (slice_index_or (later group) g no_link))
  unfolding later
  later_last None at few g h = IsLatest-more (link_at groups) number g _ (gone.last g h) (λ e. let both : None ≡ Some g = sym at ∙ e in cc)
  later_last (Some own) at few g h = elim (cases_eq g own) [
    | inl same ↦
        subst (λ (v : ℕ). IsLatest (link_at groups) (number + 1) g (link_or_none v))
        (sym (ap (λ (i : ℕ). slice_index_or (slice_set latest own number) i no_link) same ∙ get_or-set_same latest own number no_link (omega (arith, few, gone.many))))
        (subst (λ (o : Option ℕ). IsLatest (link_at groups) (number + 1) g o) (sym (link_is number (omega (arith, w, small))))
        (IsLatest-here (link_at groups) number g (at ∙ ap Some (sym same))))
    | inr ne ↦
        subst (λ (v : ℕ). IsLatest (link_at groups) (number + 1) g (link_or_none v))
        (sym (get_or-set_other latest own g number no_link ne))
        (IsLatest-more (link_at groups) number g _ (gone.last g h) (λ e. ne (let both : Some own ≡ Some g = sym at ∙ e in cc)))
  ]

  here : (group : Option ℕ) → link_at groups number ≡ group → IfSome group (λ g. g < length groups)
      → IfSome group (λ g. IsLatest (link_at groups) number g (link_or_none (was group)))
  unfolding was
  here None at few = tt
  here (Some g) at few = gone.last g few

  here_none : (group : Option ℕ) → group ≡ None → link_or_none (was group) ≡ None
  unfolding was
  here_none group e = ap (λ (o : Option ℕ). link_or_none (option_map_or (λ g. slice_index_or latest g no_link) o no_link)) e

  pub one_gone : IfSome (link_at groups number) (λ g. g < length groups)
      → Gone groups (number + 1) (links ++ option_map_or (λ g. slice_index_or latest g no_link) (link_at groups number) no_link ∷ []) (option_map_or (λ g. slice_set latest g number) (link_at groups number) latest)
  unfolding was later
  one_gone few = record {
    many = later_len (link_at groups number);
    last = later_last (link_at groups number) refl few;
    linked = one_latest (link_at groups) number links (was (link_at groups number)) gone.linked
        (here (link_at groups number) refl few) (here_none (link_at groups number));
  }

pub all_gone : (groups links latest : List ℕ) → Gone groups (length groups) links latest → AreToLast (AreGrouped (link_at groups)) links
all_gone groups links latest gone = all_latest (link_at groups) (length groups) (λ n g e. link_within groups n g e) links gone.linked
