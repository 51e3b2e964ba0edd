-- Where the first `-->` of a comment is, byte by byte.
use Rattle.std.proofs.Common.{◌≡◌, ℕ, zero, suc, true, false, ◌==◌, ◌&&◌, List, [], ◌∷◌, ◌++◌, drop, Option, Some, None, codes, refl, ap, sym, ◌∙◌, inl, inr, true≢false, arith, if◌then◌else◌}
use Rattle.std.specs.Prelude.{nat_lt}
use Rattle.std.specs.List.{starts_with}
use Rattle.std.proofs.lemmas.Bool.{cases_Bool, eqb-true}
use Rattle.tl_spec.specs.Lex.Runs.{after_needle}

-- how many dashes stand at the end of a text after so many, where no `-->` stands in it
abbrev pub scan : ℕ → List ℕ → Option ℕ
scan d [] = Some d
scan d (b ∷ w) = if b == 45 then scan (suc d) w else if (b == 62) && nat_lt 1 d then None else scan 0 w

pub scan_append : (d : ℕ) (w v : List ℕ) (k : ℕ) → scan d w ≡ Some k → scan d (w ++ v) ≡ scan k v
scan_append d [] v k h = let e : d ≡ k = cc in ap (λ n. scan n v) e
scan_append d (b ∷ w) v k h = elim (cases_Bool (b == 45)) [
  | inl y ↦ rw y (scan_append (suc d) w v k (rw y at h))
  | inr n ↦ elim (cases_Bool ((b == 62) && nat_lt 1 d)) [
    | inl y ↦ (let never : None ≡ Some k = rw (n, y) at h in cc)
    | inr m ↦ rw (n, m) (scan_append 0 w v k (rw (n, m) at h))
  ]
]

-- so many dashes before a text
abbrev dashed : ℕ → List ℕ → List ℕ
dashed zero s = s
dashed (suc d) s = 45 ∷ dashed d s

abbrev arrow : List ℕ
arrow = codes "-->"

later : (b : ℕ) (s : List ℕ) → starts_with ◌==◌ (b ∷ s) arrow ≡ false → after_needle arrow (b ∷ s) ≡ after_needle arrow s
later b s e = ap (λ v. elim v as (λ _. Option (List ℕ)) [ true ↦ Some (drop 3 (b ∷ s)) | false ↦ after_needle arrow s ]) e

shifted : (d : ℕ) (s : List ℕ) → dashed d (45 ∷ s) ≡ dashed (suc d) s
shifted zero s = refl
shifted (suc d) s = ap (λ t. 45 ∷ t) (shifted d s)

dashes_end : (d : ℕ) → after_needle arrow (dashed d arrow) ≡ Some []
dashes_end zero = refl
dashes_end (suc zero) = refl
dashes_end (suc (suc zero)) = refl
dashes_end (suc (suc (suc d))) = later 45 (dashed (suc (suc d)) arrow) refl ∙ dashes_end (suc (suc d))

flipped : (b c : ℕ) → (b == c) ≡ false → (c == b) ≡ false
flipped b c h = grind arith

-- a byte after dashes that is neither `-` nor `>`
past_dashes : (d b : ℕ) (s : List ℕ) → (b == 45) ≡ false → (b == 62) ≡ false → after_needle arrow (dashed d (b ∷ s)) ≡ after_needle arrow s
past_dashes zero b s n o = later b s (rw (flipped b 45 n) refl)
past_dashes (suc zero) b s n o = later 45 (b ∷ s) (rw (flipped b 45 n) refl) ∙ later b s (rw (flipped b 45 n) refl)
past_dashes (suc (suc zero)) b s n o = later 45 (45 ∷ b ∷ s) (rw (flipped b 62 o) refl) ∙ past_dashes (suc zero) b s n o
past_dashes (suc (suc (suc d))) b s n o = later 45 (dashed (suc (suc d)) (b ∷ s)) refl ∙ past_dashes (suc (suc d)) b s n o

one_below : (d : ℕ) → nat_lt 1 (suc (suc d)) ≡ true
one_below d = grind arith

-- a byte after dashes with which they are no `-->`
past_byte : (d b : ℕ) (s : List ℕ) → (b == 45) ≡ false → ((b == 62) && nat_lt 1 d) ≡ false → after_needle arrow (dashed d (b ∷ s)) ≡ after_needle arrow s
past_byte zero b s n m = later b s (rw (flipped b 45 n) refl)
past_byte (suc zero) b s n m = later 45 (b ∷ s) (rw (flipped b 45 n) refl) ∙ later b s (rw (flipped b 45 n) refl)
past_byte (suc (suc d)) b s n m = elim (cases_Bool (b == 62)) [
  | inl y ↦ (let no : nat_lt 1 (suc (suc d)) ≡ false = rw y at m in absurd (true≢false (sym (one_below d) ∙ no)))
  | inr o ↦ past_dashes (suc (suc d)) b s n o
]

scan_ends : (d : ℕ) (w : List ℕ) (k : ℕ) → scan d w ≡ Some k → after_needle arrow (dashed d (w ++ arrow)) ≡ Some []
scan_ends d [] k h = dashes_end d
scan_ends d (b ∷ w) k h = elim (cases_Bool (b == 45)) [
  | inl y ↦ ap (λ c. after_needle arrow (dashed d (c ∷ (w ++ arrow)))) (eqb-true b 45 y) ∙ ap (after_needle arrow) (shifted d (w ++ arrow)) ∙ scan_ends (suc d) w k (rw y at h)
  | inr n ↦ elim (cases_Bool ((b == 62) && nat_lt 1 d)) [
    | inl y ↦ (let never : None ≡ Some k = rw (n, y) at h in cc)
    | inr m ↦ past_byte d b (w ++ arrow) n m ∙ scan_ends 0 w k (rw (n, m) at h)
  ]
]

-- a comment of such bytes is cut by no `-->`
pub comment_ends : (bytes : List ℕ) (k : ℕ) → scan 2 bytes ≡ Some k → after_needle (codes "-->") (codes "--" ++ (bytes ++ codes "-->")) ≡ Some []
comment_ends bytes k h = scan_ends 2 bytes k h
