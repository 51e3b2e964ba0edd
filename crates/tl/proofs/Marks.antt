-- The marks of a path.
use Rattle.std.proofs.Common.{◌≡◌, ◌≢◌, ℕ, ◌<◌, Bool, true, false, List, [], ◌∷◌, length, get_or, nat_eq, nat_lt, ◌↔◌, refl, ap, arith, sym, ◌∙◌, ◌⊎◌, inl, inr, ◌||◌, eq-eqb}
use Rattle.std.proofs.Math.ListN.{set}
use Rattle.std.proofs.lemmas.List.{length-set, length-replicate, get_or-set_same, get_or-set_other, get_or-replicate, set-set, set-get_or}
use Rattle.std.proofs.lemmas.Bool.Decides.{eqb_tells}
use Rattle.std.proofs.lemmas.Bool.{ltb-true, lt-ltb, ne_eqb}
use Rattle.tl_spec.specs.Walk.{stands_on}
use Rattle.tl.specs.Marks.{marks_of, IsAbove, IsRising, IsKept, MayFollow}

pub marks_length : (n : ℕ) (path : List ℕ) → length (marks_of n path) ≡ n
marks_length n [] = length-replicate n false
marks_length n (h ∷ path) = length-set (marks_of n path) h true ∙ marks_length n path

same_or_not : (h k : ℕ) → (h ≡ k) ⊎ ((nat_eq h k ≡ false) × (k ≢ h))
same_or_not h k = elim (eqb_tells h k) [ inl p ↦ inl p.1 | inr p ↦ inr (p.0, λ e. p.1 (sym e)) ]

-- marked exactly where on the path
pub mark_at : (n : ℕ) (path : List ℕ) (k : ℕ) (d : Bool) → k < n → get_or (marks_of n path) k d ≡ stands_on path k
mark_at n [] k d l = get_or-replicate n k false d l
mark_at n (h ∷ path) k d l = elim (same_or_not h k) [ inl e ↦ here e | inr p ↦ rw (p.0) (get_or-set_other (marks_of n path) h k true d p.1 ∙ mark_at n path k d l) ]
  where
    here : h ≡ k → get_or (set (marks_of n path) h true) k d ≡ (nat_eq h k || stands_on path k)
    here e =
        let in_list : k < length (marks_of n path) = rw (marks_length n path) l in
        rw (e, eq-eqb k k refl) (get_or-set_same (marks_of n path) k true d in_list)

-- unmarked again
pub unmark : (n : ℕ) (path : List ℕ) (h : ℕ) → h < n → stands_on path h ≡ false → set (marks_of n (h ∷ path)) h false ≡ marks_of n path
unmark n path h l s = set-set (marks_of n path) h true false ∙ ap (λ b. set (marks_of n path) h b) (sym (mark_at n path h false l ∙ s)) ∙ set-get_or (marks_of n path) h false

-- what the mark of a place says
pub mark_tells : (n : ℕ) (path : List ℕ) (marks : List Bool) (h : ℕ) (b : Bool) → marks ≡ marks_of n path → b ≡ get_or marks h b → h < n → stands_on path h ≡ b
mark_tells n path marks h b m g l = sym (mark_at n path h b l) ∙ ap (λ x. get_or x h b) (sym m) ∙ sym g

pub marks_within : (n : ℕ) (path : List ℕ) (marks : List Bool) (h : ℕ) → marks ≡ marks_of n path → h < n → h < length marks
marks_within n path marks h m l = rw (m, marks_length n path) l

-- a test against the last handle tells whether one is above it
pub above_last : (k h : ℕ) (path rest : List ℕ) → path ≡ k ∷ rest → (nat_lt k h ≡ true) ↔ IsAbove h path
above_last k h path rest is = rw is (λ t. ltb-true k h t, λ l. lt-ltb k h l)

-- a handle above a rising path does not stand on it
pub off_rising : (path : List ℕ) (h : ℕ) → IsRising path → IsAbove h path → stands_on path h ≡ false
off_rising [] h r a = refl
off_rising (k ∷ []) h r a = let ne : nat_eq k h ≡ false = ne_eqb k h (λ e. absurd (omega arith)) in rw ne refl
off_rising (k ∷ m ∷ path) h r a =
    let ne : nat_eq k h ≡ false = ne_eqb k h (λ e. absurd (omega arith)) in
    let below : m < k = r.0 in
    let rest : stands_on (m ∷ path) h ≡ false = off_rising (m ∷ path) h r.1 (omega arith) in
    rw (ne, rest) refl

-- a mark for one more handle, or none where there are none yet
pub kept_more : (n : ℕ) (path : List ℕ) (h : ℕ) (marks : List Bool) → IsKept n path marks → MayFollow h path marks → IsKept n (h ∷ path) (set marks h true)
kept_more n path h marks (inl p) a = inl (rw p.0 refl, (a p.0, p.1))
kept_more n path h marks (inr e) a = inr (ap (λ m. set m h true) e)

-- and for one less
pub kept_less : (n : ℕ) (path : List ℕ) (h : ℕ) (marks : List Bool) → h < n → stands_on path h ≡ false → IsKept n (h ∷ path) marks → IsKept n path (set marks h false)
kept_less n path h marks l s (inl p) = inl (rw p.0 refl, p.1.1)
kept_less n path h marks l s (inr e) = inr (ap (λ m. set m h false) e ∙ unmark n path h l s)

pub says_rising : (n : ℕ) (path : List ℕ) (marks : List Bool) (h : ℕ) → IsKept n path marks → length marks ≡ 0 → h < n → IsAbove h path → false ≡ stands_on path h
says_rising n path marks h (inl p) z l a = sym (off_rising path h p.1 a)
says_rising n path marks h (inr e) z l a = let same : length marks ≡ n = ap length e ∙ marks_length n path in absurd (omega arith)

-- marks that are there are those of the path
pub kept_marks : (n : ℕ) (path : List ℕ) (marks : List Bool) → IsKept n path marks → 0 < length marks → marks ≡ marks_of n path
kept_marks n path marks (inl p) z = let none : length marks ≡ 0 = ap length p.0 in absurd (omega arith)
kept_marks n path marks (inr e) z = e

pub may_follow : (path : List ℕ) (marks : List Bool) (h : ℕ) → 0 < length marks → MayFollow h path marks
may_follow path marks h z e = let none : length marks ≡ 0 = ap length e in absurd (omega arith)
