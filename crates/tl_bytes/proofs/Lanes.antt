-- From the mask of one load to how many bytes come before the first of a class.
use Rattle.std.proofs.Common.{◌≡◌, ℕ, ◌+◌, ◌%◌, ◌^◌, ◌<◌, ◌≤◌, eqb, cond, Bool, true, false, not, ◌||◌, List, [], ◌∷◌, map, length, get_or, replicate, Fits, w8, refl, sym, ap, ap₂, ◌∙◌, arith, inl, inr, bit_or, suc}
use Rattle.std.proofs.lemmas.Bool.{agree_below, agree_below_at, cases_eq, eq-eqb, ne_eqb, cond-true, cond-false}
use Rattle.std.proofs.lemmas.Simd.{map-map, mask_l-mod, length-chunk, get_or-chunk, leading_from_mask_l, trailing_mask_l}
use Rattle.std.proofs.lemmas.List.{length-map}
use Rattle.std.specs.List.{position_or_len}
use lib.Lanes.{chunk, zip2, mask_l, top}
use Rattle.tl_bytes.specs.Search.{lowest_bit, is_one_of}

zip2-map : (h : ℕ → ℕ → ℕ) (f g : ℕ → ℕ) (xs : List ℕ) → zip2 h (map f xs) (map g xs) ≡ map (λ x. h (f x) (g x)) xs
zip2-map h f g [] = refl
zip2-map h f g (x ∷ xs) = ap (λ r. h (f x) (g x) ∷ r) (zip2-map h f g xs)

-- an operation on two vectors that were computed lane by lane from v
pub joined : (h : ℕ → ℕ → ℕ) (f g : ℕ → ℕ) (v : List ℕ) {a b : List ℕ} → a ≡ map f v → b ≡ map g v → zip2 h a b ≡ map (λ x. h (f x) (g x)) v
joined h f g v p q = ap₂ (zip2 h) p q ∙ zip2-map h f g v

pub splat_is : (v : List ℕ) (n y : ℕ) → length v ≡ n → replicate n y ≡ map (λ _. y) v
splat_is [] n y e = ap (λ k. replicate k y) (sym e)
splat_is (x ∷ xs) n y e = ap (λ k. replicate k y) (sym e) ∙ ap (λ r. y ∷ r) (splat_is xs (length xs) y refl)

-- an operation on one vector that was computed lane by lane from v
pub each : (h f : ℕ → ℕ) (v : List ℕ) {a : List ℕ} → a ≡ map f v → map h a ≡ map (λ x. h (f x)) v
each h f v p = ap (map h) p ∙ map-map h f v

run_is : (p : ℕ → Bool) (v : List ℕ) → length v ≡ 16 → lowest_bit (mask_l (map p v)) ≡ position_or_len p v
run_is p v long =
    elim (cases_eq (mask_l (map p v)) 0) [
      | inl none ↦ cond-true _ _ _ (eq-eqb _ _ none) ∙ sym (leading_from_mask_l p v none ∙ long)
      | inr some ↦ cond-false _ _ _ (ne_eqb _ _ some) ∙ trailing_mask_l p 64 v (omega arith) (omega arith)
    ]

same_place : (p q : ℕ → Bool) (v : List ℕ) → ((k : ℕ) → k < length v → p (get_or v k 0) ≡ q (get_or v k 0)) → position_or_len p v ≡ position_or_len q v
same_place p q [] h = refl
same_place p q (x ∷ xs) h =
    ap₂ (λ b n. cond (not b) (1 + n) 0) (h 0 (omega arith)) (same_place p q xs (λ k l. h (suc k) (omega arith)))

-- z has, lane by lane, f of the load's bytes, and its top bits tell q
pub places : (q : ℕ → Bool) (d : List ℕ) (i : ℕ) (z : List ℕ) (f : ℕ → ℕ) → i + 16 ≤ length d → z ≡ map f (chunk i 16 d)
    → ((k : ℕ) → top 7 (f (get_or d k 0)) ≡ q (get_or d k 0))
    → lowest_bit (mask_l (map (top 7) z) % 2 ^ 64) ≡ position_or_len q (chunk i 16 d)
places q d i z f room lanes tells =
    let v = chunk i 16 d in
    let long = length-chunk i 16 d room in
    let stops : ℕ → Bool = λ x. top 7 (f x) in
    let mask = ap (λ l. mask_l l % 2 ^ 64) (ap (map (top 7)) lanes ∙ map-map (top 7) f v) ∙ mask_l-mod (map stops v) 64 (omega (arith, length-map v stops, long)) in
    ap lowest_bit mask ∙ run_is stops v long
    ∙ same_place stops q v (λ k l. let at = get_or-chunk i 16 d k 0 (omega (arith, long)) in ap stops at ∙ tells (i + k) ∙ ap q (sym at))

-- the same where a table of all 256 bytes shows it
pub places_by_table : (q : ℕ → Bool) (d : List ℕ) (i : ℕ) (z : List ℕ) (f : ℕ → ℕ) → i + 16 ≤ length d → z ≡ map f (chunk i 16 d)
    → ((k : ℕ) → Fits w8 (get_or d k 0)) → agree_below (λ x. top 7 (f x)) q 256 ≡ true
    → lowest_bit (mask_l (map (top 7) z) % 2 ^ 64) ≡ position_or_len q (chunk i 16 d)
places_by_table q d i z f room lanes fits all =
    places q d i z f room lanes (λ k. agree_below_at (λ x. top 7 (f x)) q 256 (get_or d k 0) all (fits k).fits)

pub four_of : (ns : List ℕ) (x : ℕ) → length ns ≡ 4
    → (eqb x (get_or ns 0 0) || (eqb x (get_or ns 1 0) || (eqb x (get_or ns 2 0) || (eqb x (get_or ns 3 0) || false)))) ≡ is_one_of ns x
four_of [] x e = absurd (omega arith)
four_of (a ∷ []) x e = absurd (omega arith)
four_of (a ∷ b ∷ []) x e = absurd (omega arith)
four_of (a ∷ b ∷ c ∷ []) x e = absurd (omega arith)
four_of (a ∷ b ∷ c ∷ d ∷ []) x e = refl
four_of (a ∷ b ∷ c ∷ d ∷ y ∷ ys) x e = absurd (omega arith)

pub lane_of : (b : Bool) → top 7 (cond b 255 0) ≡ b
lane_of true = refl
lane_of false = refl

pub any_of_four : (a b c d : Bool) → top 7 (bit_or (bit_or (bit_or (cond a 255 0) (cond b 255 0)) (cond c 255 0)) (cond d 255 0)) ≡ (a || (b || (c || (d || false))))
any_of_four true true true true = refl
any_of_four true true true false = refl
any_of_four true true false true = refl
any_of_four true true false false = refl
any_of_four true false true true = refl
any_of_four true false true false = refl
any_of_four true false false true = refl
any_of_four true false false false = refl
any_of_four false true true true = refl
any_of_four false true true false = refl
any_of_four false true false true = refl
any_of_four false true false false = refl
any_of_four false false true true = refl
any_of_four false false true false = refl
any_of_four false false false true = refl
any_of_four false false false false = refl
