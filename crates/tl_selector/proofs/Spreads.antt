-- What marking the children of one node does.
use Rattle.std.proofs.Common.{◌≡◌, ◌+◌, ◌<◌, ◌||◌, ◌⊎◌, ℕ, zero, suc, Bool, true, false, cond, List, [], ◌∷◌, ◌++◌, length, refl, sym, ap, subst, ◌∙◌, arith, inl, inr, get_or, drop, length-append, nat_eq, add-one}
use Rattle.std.proofs.Math.ListN.{set, length-set}
use Rattle.std.proofs.lemmas.List.{get_or-set_same, get_or-set_other}
use Rattle.std.proofs.lemmas.Bool.{cases_Bool, eq-eqb}
use Rattle.std.proofs.lemmas.Bool.Decides.{eqb_tells}
use Rattle.tl_selector.specs.NodeSet.{is_in, is_at, mark_one, spread, child_at}

abbrev pub unmarked : List Bool → ℕ
unmarked [] = 0
unmarked (true ∷ bs) = unmarked bs
unmarked (false ∷ bs) = unmarked bs + 1

within : (xs : List Bool) (i : ℕ) → get_or xs i true ≡ false → i < length xs
within [] i h = cc
within (x ∷ xs) zero h = omega arith
within (x ∷ xs) (suc i) h = let w : i < length xs = within xs i h in omega arith

pub at-within : (xs : List Bool) (i : ℕ) → is_at xs i ≡ true → i < length xs
at-within [] i h = cc
at-within (x ∷ xs) zero h = omega arith
at-within (x ∷ xs) (suc i) h = let w : i < length xs = at-within xs i h in omega arith

same_default : (xs : List Bool) (i : ℕ) → i < length xs → get_or xs i true ≡ is_at xs i
same_default [] i h = absurd (omega arith)
same_default (x ∷ xs) zero h = refl
same_default (x ∷ xs) (suc i) h = same_default xs i (omega arith)

unmarked-set : (xs : List Bool) (i : ℕ) → get_or xs i true ≡ false → unmarked (set xs i true) + 1 ≡ unmarked xs
unmarked-set [] i h = cc
unmarked-set (true ∷ xs) zero h = cc
unmarked-set (false ∷ xs) zero h = refl
unmarked-set (true ∷ xs) (suc i) h = unmarked-set xs i h
unmarked-set (false ∷ xs) (suc i) h = let e = unmarked-set xs i h in omega arith

pub in-push : (xs : List ℕ) (c n : ℕ) → is_in (xs ++ c ∷ []) n ≡ true → (is_in xs n ≡ true) ⊎ (n ≡ c)
in-push [] c n h = elim (eqb_tells n c) [ inl w ↦ inr w.1 | inr w ↦ let k : false ≡ true = sym (ap (λ b. b || false) w.0) ∙ h in cc ]
in-push (x ∷ xs) c n h =
    elim (eqb_tells n x) [
      | inl w ↦ inl (rw w.0 refl)
      | inr w ↦
          let k : is_in (xs ++ c ∷ []) n ≡ true = rw w.0 at h in
          elim (in-push xs c n k) [ inl e ↦ inl (rw w.0 e) | inr e ↦ inr e ]
    ]

pub push-in : (xs : List ℕ) (c n : ℕ) → is_in xs n ≡ true → is_in (xs ++ c ∷ []) n ≡ true
push-in [] c n h = cc
push-in (x ∷ xs) c n h =
    elim (eqb_tells n x) [
      | inl w ↦ rw w.0 refl
      | inr w ↦ let k : is_in xs n ≡ true = rw w.0 at h in rw w.0 (push-in xs c n k)
    ]

pub push-last : (xs : List ℕ) (c : ℕ) → is_in (xs ++ c ∷ []) c ≡ true
push-last [] c = rw (eq-eqb c c refl) refl
push-last (x ∷ xs) c =
    elim (cases_Bool (nat_eq c x)) [ inl y ↦ rw y refl | inr n ↦ rw n (push-last xs c) ]

pub record Spreads (cs : List ℕ) (s t : List Bool × List ℕ) : Type 0 where
  pub kept : (n : ℕ) → is_at s.0 n ≡ true → is_at t.0 n ≡ true
  pub full : (n : ℕ) → is_in cs n ≡ true → n < length s.0 → is_at t.0 n ≡ true
  pub fresh : (n : ℕ) → is_at t.0 n ≡ true → (is_at s.0 n ≡ true) ⊎ ((is_in cs n ≡ true) × (is_in t.1 n ≡ true))
  pub queue : (n : ℕ) → is_in s.1 n ≡ true → is_in t.1 n ≡ true
  pub pushed : (n : ℕ) → is_in t.1 n ≡ true → (is_in s.1 n ≡ true) ⊎ (is_at t.0 n ≡ true)
  pub len : length t.0 ≡ length s.0
  pub count : unmarked t.0 + length t.1 ≡ unmarked s.0 + length s.1

none : (s : List Bool × List ℕ) → Spreads [] s s
none s = record { kept = λ n h. h; full = λ n h w. cc; fresh = λ n h. inl h; queue = λ n h. h; pushed = λ n h. inl h; len = refl; count = refl }

skip : (c : ℕ) (s : List Bool × List ℕ) → get_or s.0 c true ≡ true → Spreads (c ∷ []) s s
skip c s y =
    record {
      kept = λ n h. h;
      full = λ n h w. elim (in-push [] c n h) [ inl e ↦ cc | inr e ↦ sym (same_default s.0 n w) ∙ (ap (λ k. get_or s.0 k true) e ∙ y) ];
      fresh = λ n h. inl h;
      queue = λ n h. h;
      pushed = λ n h. inl h;
      len = refl;
      count = refl;
    }

push : (c : ℕ) (marks : List Bool) (queue : List ℕ) → get_or marks c true ≡ false → Spreads (c ∷ []) (marks, queue) (set marks c true, queue ++ c ∷ [])
push c marks queue un =
    let w : c < length marks = within marks c un in
    let here : is_at (set marks c true) c ≡ true = get_or-set_same marks c true false w in
    record {
      kept = λ n h. elim (eqb_tells n c) [ inl e ↦ ap (is_at (set marks c true)) e.1 ∙ here | inr e ↦ get_or-set_other marks c n true false e.1 ∙ h ];
      full = λ n h _. elim (in-push [] c n h) [ inl e ↦ cc | inr e ↦ ap (is_at (set marks c true)) e ∙ here ];
      fresh = λ n h. elim (eqb_tells n c) [
        | inl e ↦ inr (subst (λ k. is_in (c ∷ []) k ≡ true) (sym e.1) (push-last [] c), subst (λ k. is_in (queue ++ c ∷ []) k ≡ true) (sym e.1) (push-last queue c))
        | inr e ↦ inl (sym (get_or-set_other marks c n true false e.1) ∙ h)
      ];
      queue = λ n h. push-in queue c n h;
      pushed = λ n h. elim (in-push queue c n h) [ inl e ↦ inl e | inr e ↦ inr (ap (is_at (set marks c true)) e ∙ here) ];
      len = length-set marks c true;
      count = omega (arith, unmarked-set marks c un, length-append queue (c ∷ []));
    }

one : (c : ℕ) (s : List Bool × List ℕ) → Spreads (c ∷ []) s (mark_one c s)
one c s =
    elim (cases_Bool (get_or s.0 c true)) [
      | inl y ↦ subst (Spreads (c ∷ []) s) (sym (ap (λ b. cond b s (set s.0 c true, s.1 ++ c ∷ [])) y)) (skip c s y)
      | inr n ↦ subst (Spreads (c ∷ []) s) (sym (ap (λ b. cond b s (set s.0 c true, s.1 ++ c ∷ [])) n)) (push c s.0 s.1 n)
    ]

then : (c : ℕ) (cs : List ℕ) (s t u : List Bool × List ℕ) → Spreads (c ∷ []) s t → Spreads cs t u → Spreads (c ∷ cs) s u
then c cs s t u h k =
    record {
      kept = λ n e. k.kept n (h.kept n e);
      full = λ n e w. elim (eqb_tells n c) [
        | inl i ↦ k.kept n (h.full n (rw i.0 refl) w)
        | inr i ↦ let l : is_in cs n ≡ true = rw i.0 at e in k.full n l (omega (arith, h.len))
      ];
      fresh = λ n e. elim (k.fresh n e) [
        | inl m ↦ elim (h.fresh n m) [
          | inl o ↦ inl o
          | inr o ↦ elim (in-push [] c n o.0) [ inl x ↦ cc | inr x ↦ inr (rw (eq-eqb n c x) refl, k.queue n o.1) ]
        ]
        | inr m ↦ inr (elim (cases_Bool (nat_eq n c)) [ inl y ↦ rw y refl | inr x ↦ rw x m.0 ], m.1)
      ];
      queue = λ n e. k.queue n (h.queue n e);
      pushed = λ n e. elim (k.pushed n e) [
        | inl m ↦ elim (h.pushed n m) [ inl o ↦ inl o | inr o ↦ inr (k.kept n o) ]
        | inr m ↦ inr m
      ];
      len = k.len ∙ h.len;
      count = k.count ∙ h.count;
    }

pub spreads : (cs : List ℕ) (s : List Bool × List ℕ) → Spreads cs s (spread cs s)
spreads [] s = none s
spreads (c ∷ cs) s = then c cs s (mark_one c s) (spread cs (mark_one c s)) (one c s) (spreads cs (mark_one c s))

spread-next : (cs : List ℕ) (i : ℕ) (s : List Bool × List ℕ) → spread (drop (suc i) cs) (spread (child_at cs i) s) ≡ spread (drop i cs) s
spread-next [] zero s = refl
spread-next [] (suc i) s = refl
spread-next (c ∷ cs) zero s = refl
spread-next (c ∷ cs) (suc i) s = spread-next cs i s

-- one child more
pub spread_next : (cs : List ℕ) (i : ℕ) (s : List Bool × List ℕ) → spread (drop (i + 1) cs) (spread (child_at cs i) s) ≡ spread (drop i cs) s
spread_next cs i s = ap (λ k. spread (drop k cs) (spread (child_at cs i) s)) (add-one i) ∙ spread-next cs i s
