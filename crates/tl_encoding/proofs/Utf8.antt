-- The standard's decoder of UTF-8 gives what Table 3-7 of the Unicode Standard says (`bstr`).
use Rattle.std.proofs.Common.{◌≡◌, ◌∙◌, ℕ, zero, suc, ◌+◌, ◌-◌, ◌*◌, ◌<◌, ◌≤◌, true, false, nat_lt, List, [], ◌∷◌, drop, length, slice_index, refl, sym, ap, arith, inl, inr, ⊎_elim}
use Rattle.std.specs.Prelude.{◌==◌, ◌&&◌, nat_le}
use Rattle.std.specs.Int.{is_in_range}
use Rattle.std.proofs.lemmas.Bool.{cases_Bool, eqb-true}
use Rattle.std.proofs.lemmas.Bool.Decides.{nat_tests}
use Rattle.bstr.specs.Utf8.{Decoded, bad, good, decoded, continues, second, code_of_2, code_of_3, code_of_4, lossy_chars, or_replacement}
use Rattle.bstr.proofs.lemmas.PieceLemmas.{decoded_by-shape, lossy_chars-step, lossy_chars-nil}
use Rattle.tl_encoding.specs.Utf8.{outside, inside, lower, upper, decodes, utf_8}

lt_is_le : (a c : ℕ) → nat_lt a c ≡ nat_le (suc a) c
lt_is_le a c = elim (cases_Bool (nat_lt a c)) [
  | inl y ↦ (let other : nat_le (suc a) c ≡ true = grind (arith, nat_tests) in y ∙ sym other)
  | inr n ↦ (let other : nat_le (suc a) c ≡ false = grind (arith, nat_tests) in n ∙ sym other)
]

le_is_lt : (c h : ℕ) → nat_lt c (suc h) ≡ nat_le c h
le_is_lt c h = elim (cases_Bool (nat_lt c (suc h))) [
  | inl y ↦ (let other : nat_le c h ≡ true = grind (arith, nat_tests) in y ∙ sym other)
  | inr n ↦ (let other : nat_le c h ≡ false = grind (arith, nat_tests) in n ∙ sym other)
]

within : (l h c : ℕ) → (nat_lt l c && nat_lt c (suc h)) ≡ is_in_range (suc l) h c
within l h c = rw (lt_is_le l c, le_is_lt c h) refl

continues_is : (c : ℕ) → continues c ≡ is_in_range 0x80 0xBF c
continues_is c = within 0x7F 0xBF c

second_is : (b c : ℕ) → second b c ≡ is_in_range (lower b) (upper b) c
second_is b c = elim (cases_Bool (b == 0xE0)) [
  | inl y ↦ rw (eqb-true b 0xE0 y) (within 0x9F 0xBF c)
  | inr n ↦ elim (cases_Bool (b == 0xED)) [
    | inl y ↦ rw (eqb-true b 0xED y) (within 0x7F 0x9F c)
    | inr m ↦ elim (cases_Bool (b == 0xF0)) [
      | inl y ↦ rw (eqb-true b 0xF0 y) (within 0x8F 0xBF c)
      | inr k ↦ elim (cases_Bool (b == 0xF4)) [
        | inl y ↦ rw (eqb-true b 0xF4 y) (within 0x7F 0x8F c)
        | inr j ↦ rw (n, m, k, j) (within 0x7F 0xBF c)
      ]
    ]
  ]
]

-- what the decoder does at each kind of byte
ascii : (b : ℕ) (s : List ℕ) → b < 0x80 → decodes outside (b ∷ s) ≡ b ∷ decodes outside s
ascii b s h =
    let t : nat_lt b 0x80 ≡ true = grind (arith, nat_tests) in
    let u : nat_lt b 0xC2 ≡ true = grind (arith, nat_tests) in
    rw (t, u) refl

low : (b : ℕ) (s : List ℕ) → 0x80 ≤ b → b < 0xC2 → decodes outside (b ∷ s) ≡ 0xFFFD ∷ decodes outside s
low b s h k =
    let t : nat_lt b 0x80 ≡ false = grind (arith, nat_tests) in
    let u : nat_lt b 0xC2 ≡ true = grind (arith, nat_tests) in
    rw (t, u) refl

high : (b : ℕ) (s : List ℕ) → 0xF4 < b → decodes outside (b ∷ s) ≡ 0xFFFD ∷ decodes outside s
high b s h =
    let t : nat_lt b 0x80 ≡ false = grind (arith, nat_tests) in
    let u : nat_lt b 0xC2 ≡ false = grind (arith, nat_tests) in
    let v : nat_lt 0xF4 b ≡ true = grind (arith, nat_tests) in
    rw (t, u, v) refl

lead_2 : (b : ℕ) (s : List ℕ) → 0xC2 ≤ b → b < 0xE0 → decodes outside (b ∷ s) ≡ decodes (inside 0 (lower b) (upper b) (b - 0xC0)) s
lead_2 b s h k =
    let t : nat_lt b 0x80 ≡ false = grind (arith, nat_tests) in
    let u : nat_lt b 0xC2 ≡ false = grind (arith, nat_tests) in
    let v : nat_lt 0xF4 b ≡ false = grind (arith, nat_tests) in
    let w : nat_lt b 0xE0 ≡ true = grind (arith, nat_tests) in
    rw (t, u, v, w) refl

lead_3 : (b : ℕ) (s : List ℕ) → 0xE0 ≤ b → b < 0xF0 → decodes outside (b ∷ s) ≡ decodes (inside 1 (lower b) (upper b) (b - 0xE0)) s
lead_3 b s h k =
    let t : nat_lt b 0x80 ≡ false = grind (arith, nat_tests) in
    let u : nat_lt b 0xC2 ≡ false = grind (arith, nat_tests) in
    let v : nat_lt 0xF4 b ≡ false = grind (arith, nat_tests) in
    let w : nat_lt b 0xE0 ≡ false = grind (arith, nat_tests) in
    let x : nat_lt b 0xF0 ≡ true = grind (arith, nat_tests) in
    rw (t, u, v, w, x) refl

lead_4 : (b : ℕ) (s : List ℕ) → 0xF0 ≤ b → b ≤ 0xF4 → decodes outside (b ∷ s) ≡ decodes (inside 2 (lower b) (upper b) (b - 0xF0)) s
lead_4 b s h k =
    let t : nat_lt b 0x80 ≡ false = grind (arith, nat_tests) in
    let u : nat_lt b 0xC2 ≡ false = grind (arith, nat_tests) in
    let v : nat_lt 0xF4 b ≡ false = grind (arith, nat_tests) in
    let w : nat_lt b 0xE0 ≡ false = grind (arith, nat_tests) in
    let x : nat_lt b 0xF0 ≡ false = grind (arith, nat_tests) in
    rw (t, u, v, w, x) refl

-- a byte that begins a character, whatever it needs
pub record Leads (b : ℕ) : Type 0 where
  pub more : ℕ
  pub point : ℕ
  pub is : (s : List ℕ) → decodes outside (b ∷ s) ≡ decodes (inside more (lower b) (upper b) point) s

leads : (b : ℕ) → 0xC2 ≤ b → b ≤ 0xF4 → Leads b
leads b h k = elim (cases_Bool (nat_lt b 0xE0)) [
  | inl y ↦ record { more = 0; point = b - 0xC0; is = λ s. lead_2 b s h (grind (arith, nat_tests)) }
  | inr n ↦ elim (cases_Bool (nat_lt b 0xF0)) [
    | inl y ↦ record { more = 1; point = b - 0xE0; is = λ s. lead_3 b s (grind (arith, nat_tests)) (grind (arith, nat_tests)) }
    | inr m ↦ record { more = 2; point = b - 0xF0; is = λ s. lead_4 b s (grind (arith, nat_tests)) k }
  ]
]

-- one that needs two more at least
pub record LeadsLong (b : ℕ) : Type 0 where
  pub more : ℕ
  pub point : ℕ
  pub is : (s : List ℕ) → decodes outside (b ∷ s) ≡ decodes (inside (suc more) (lower b) (upper b) point) s

leads_long : (b : ℕ) → 0xE0 ≤ b → b ≤ 0xF4 → LeadsLong b
leads_long b h k = elim (cases_Bool (nat_lt b 0xF0)) [
  | inl y ↦ record { more = 0; point = b - 0xE0; is = λ s. lead_3 b s h (grind (arith, nat_tests)) }
  | inr m ↦ record { more = 1; point = b - 0xF0; is = λ s. lead_4 b s (grind (arith, nat_tests)) k }
]

-- inside of a character
last : (l h p b : ℕ) (s : List ℕ) → is_in_range l h b ≡ true → decodes (inside 0 l h p) (b ∷ s) ≡ (p * 64 + (b - 0x80)) ∷ decodes outside s
last l h p b s y = rw y refl

more : (m l h p b : ℕ) (s : List ℕ) → is_in_range l h b ≡ true → decodes (inside (suc m) l h p) (b ∷ s) ≡ decodes (inside m 0x80 0xBF (p * 64 + (b - 0x80))) s
more m l h p b s y = rw y refl

restored : (m l h p b : ℕ) (s : List ℕ) → is_in_range l h b ≡ false → decodes (inside m l h p) (b ∷ s) ≡ 0xFFFD ∷ decodes outside (b ∷ s)
restored zero l h p b s n = rw n refl
restored (suc m) l h p b s n = rw n refl

-- one piece, as `bstr` reads it, and what is left
read : (b : ℕ) (s : List ℕ) (r : Decoded) → decoded (b ∷ s) ≡ r → lossy_chars (b ∷ s) ≡ or_replacement r.char ∷ lossy_chars (drop r.size (b ∷ s))
read b s r e = lossy_chars-step (b ∷ s) (omega arith) ∙ ap (λ (d : Decoded). or_replacement d.char ∷ lossy_chars (drop d.size (b ∷ s))) e

one_bad : (b : ℕ) (s : List ℕ) → decoded (b ∷ s) ≡ bad 1 → decodes outside (b ∷ s) ≡ 0xFFFD ∷ decodes outside s → decodes outside s ≡ lossy_chars s → decodes outside (b ∷ s) ≡ lossy_chars (b ∷ s)
one_bad b s e d again = d ∙ ap (λ t. 0xFFFD ∷ t) again ∙ sym (read b s (bad 1) e)

module _ (n : ℕ) (again : (t : List ℕ) → length t ≤ n → decodes outside t ≡ lossy_chars t) where
  cut_1 : (b : ℕ) (s : List ℕ) → length s ≤ n → 0xC2 ≤ b → b ≤ 0xF4 → length (b ∷ s) < 2 → decoded (b ∷ s) ≡ bad 1 → decodes outside (b ∷ s) ≡ lossy_chars (b ∷ s)
  cut_1 b [] f h k l e = one_bad b [] e ((leads b h k).is []) (again [] f)
  cut_1 b (c ∷ t) f h k l e = absurd (omega arith)

  stray_1 : (b : ℕ) (s : List ℕ) → length s ≤ n → 0xC2 ≤ b → b ≤ 0xF4 → 2 ≤ length (b ∷ s) → second b (slice_index (b ∷ s) 1) ≡ false → decoded (b ∷ s) ≡ bad 1 → decodes outside (b ∷ s) ≡ lossy_chars (b ∷ s)
  stray_1 b [] f h k l x e = absurd (omega arith)
  stray_1 b (c ∷ t) f h k l x e =
      let d = leads b h k in
      one_bad b (c ∷ t) e (d.is (c ∷ t) ∙ restored d.more (lower b) (upper b) d.point c t (sym (second_is b c) ∙ x)) (again (c ∷ t) f)

  two : (b : ℕ) (s : List ℕ) → length s ≤ n → 0xC2 ≤ b → b < 0xE0 → 2 ≤ length (b ∷ s) → second b (slice_index (b ∷ s) 1) ≡ true → decoded (b ∷ s) ≡ good (code_of_2 b (slice_index (b ∷ s) 1)) 2 → decodes outside (b ∷ s) ≡ lossy_chars (b ∷ s)
  two b [] f h k l x e = absurd (omega arith)
  two b (c ∷ t) f h k l x e =
      lead_2 b (c ∷ t) h k ∙ last (lower b) (upper b) (b - 0xC0) c t (sym (second_is b c) ∙ x)
      ∙ ap (λ u. code_of_2 b c ∷ u) (again t (omega arith)) ∙ sym (read b (c ∷ t) (good (code_of_2 b c) 2) e)

  cut_2 : (b : ℕ) (s : List ℕ) → length s ≤ n → 0xE0 ≤ b → b ≤ 0xF4 → 2 ≤ length (b ∷ s) → second b (slice_index (b ∷ s) 1) ≡ true → length (b ∷ s) < 3 → decoded (b ∷ s) ≡ bad 2 → decodes outside (b ∷ s) ≡ lossy_chars (b ∷ s)
  cut_2 b [] f h k l x m e = absurd (omega arith)
  cut_2 b (c ∷ []) f h k l x m e =
      let d = leads_long b h k in
      d.is (c ∷ []) ∙ more d.more (lower b) (upper b) d.point c [] (sym (second_is b c) ∙ x)
      ∙ ap (λ u. 0xFFFD ∷ u) (again [] (omega arith)) ∙ sym (read b (c ∷ []) (bad 2) e)
  cut_2 b (c ∷ d ∷ t) f h k l x m e = absurd (omega arith)

  stray_2 : (b : ℕ) (s : List ℕ) → length s ≤ n → 0xE0 ≤ b → b ≤ 0xF4 → 3 ≤ length (b ∷ s) → second b (slice_index (b ∷ s) 1) ≡ true → continues (slice_index (b ∷ s) 2) ≡ false → decoded (b ∷ s) ≡ bad 2 → decodes outside (b ∷ s) ≡ lossy_chars (b ∷ s)
  stray_2 b [] f h k l x y e = absurd (omega arith)
  stray_2 b (c ∷ []) f h k l x y e = absurd (omega arith)
  stray_2 b (c ∷ d ∷ t) f h k l x y e =
      let g = leads_long b h k in
      g.is (c ∷ d ∷ t) ∙ more g.more (lower b) (upper b) g.point c (d ∷ t) (sym (second_is b c) ∙ x)
      ∙ restored g.more 0x80 0xBF (g.point * 64 + (c - 0x80)) d t (sym (continues_is d) ∙ y)
      ∙ ap (λ u. 0xFFFD ∷ u) (again (d ∷ t) (omega arith)) ∙ sym (read b (c ∷ d ∷ t) (bad 2) e)

  three : (b : ℕ) (s : List ℕ) → length s ≤ n → 0xE0 ≤ b → b < 0xF0 → 3 ≤ length (b ∷ s) → second b (slice_index (b ∷ s) 1) ≡ true → continues (slice_index (b ∷ s) 2) ≡ true → decoded (b ∷ s) ≡ good (code_of_3 b (slice_index (b ∷ s) 1) (slice_index (b ∷ s) 2)) 3 → decodes outside (b ∷ s) ≡ lossy_chars (b ∷ s)
  three b [] f h k l x y e = absurd (omega arith)
  three b (c ∷ []) f h k l x y e = absurd (omega arith)
  three b (c ∷ d ∷ t) f h k l x y e =
      lead_3 b (c ∷ d ∷ t) h k ∙ more 0 (lower b) (upper b) (b - 0xE0) c (d ∷ t) (sym (second_is b c) ∙ x)
      ∙ last 0x80 0xBF ((b - 0xE0) * 64 + (c - 0x80)) d t (sym (continues_is d) ∙ y)
      ∙ ap (λ u. code_of_3 b c d ∷ u) (again t (omega arith)) ∙ sym (read b (c ∷ d ∷ t) (good (code_of_3 b c d) 3) e)

  cut_3 : (b : ℕ) (s : List ℕ) → length s ≤ n → 0xF0 ≤ b → b ≤ 0xF4 → 3 ≤ length (b ∷ s) → second b (slice_index (b ∷ s) 1) ≡ true → continues (slice_index (b ∷ s) 2) ≡ true → length (b ∷ s) < 4 → decoded (b ∷ s) ≡ bad 3 → decodes outside (b ∷ s) ≡ lossy_chars (b ∷ s)
  cut_3 b [] f h k l x y m e = absurd (omega arith)
  cut_3 b (c ∷ []) f h k l x y m e = absurd (omega arith)
  cut_3 b (c ∷ d ∷ []) f h k l x y m e =
      lead_4 b (c ∷ d ∷ []) h k ∙ more 1 (lower b) (upper b) (b - 0xF0) c (d ∷ []) (sym (second_is b c) ∙ x)
      ∙ more 0 0x80 0xBF ((b - 0xF0) * 64 + (c - 0x80)) d [] (sym (continues_is d) ∙ y)
      ∙ ap (λ u. 0xFFFD ∷ u) (again [] (omega arith)) ∙ sym (read b (c ∷ d ∷ []) (bad 3) e)
  cut_3 b (c ∷ d ∷ g ∷ t) f h k l x y m e = absurd (omega arith)

  stray_3 : (b : ℕ) (s : List ℕ) → length s ≤ n → 0xF0 ≤ b → b ≤ 0xF4 → 4 ≤ length (b ∷ s) → second b (slice_index (b ∷ s) 1) ≡ true → continues (slice_index (b ∷ s) 2) ≡ true → continues (slice_index (b ∷ s) 3) ≡ false → decoded (b ∷ s) ≡ bad 3 → decodes outside (b ∷ s) ≡ lossy_chars (b ∷ s)
  stray_3 b [] f h k l x y z e = absurd (omega arith)
  stray_3 b (c ∷ []) f h k l x y z e = absurd (omega arith)
  stray_3 b (c ∷ d ∷ []) f h k l x y z e = absurd (omega arith)
  stray_3 b (c ∷ d ∷ g ∷ t) f h k l x y z e =
      lead_4 b (c ∷ d ∷ g ∷ t) h k ∙ more 1 (lower b) (upper b) (b - 0xF0) c (d ∷ g ∷ t) (sym (second_is b c) ∙ x)
      ∙ more 0 0x80 0xBF ((b - 0xF0) * 64 + (c - 0x80)) d (g ∷ t) (sym (continues_is d) ∙ y)
      ∙ restored 0 0x80 0xBF (((b - 0xF0) * 64 + (c - 0x80)) * 64 + (d - 0x80)) g t (sym (continues_is g) ∙ z)
      ∙ ap (λ u. 0xFFFD ∷ u) (again (g ∷ t) (omega arith)) ∙ sym (read b (c ∷ d ∷ g ∷ t) (bad 3) e)

  four : (b : ℕ) (s : List ℕ) → length s ≤ n → 0xF0 ≤ b → b ≤ 0xF4 → 4 ≤ length (b ∷ s) → second b (slice_index (b ∷ s) 1) ≡ true → continues (slice_index (b ∷ s) 2) ≡ true → continues (slice_index (b ∷ s) 3) ≡ true → decoded (b ∷ s) ≡ good (code_of_4 b (slice_index (b ∷ s) 1) (slice_index (b ∷ s) 2) (slice_index (b ∷ s) 3)) 4 → decodes outside (b ∷ s) ≡ lossy_chars (b ∷ s)
  four b [] f h k l x y z e = absurd (omega arith)
  four b (c ∷ []) f h k l x y z e = absurd (omega arith)
  four b (c ∷ d ∷ []) f h k l x y z e = absurd (omega arith)
  four b (c ∷ d ∷ g ∷ t) f h k l x y z e =
      lead_4 b (c ∷ d ∷ g ∷ t) h k ∙ more 1 (lower b) (upper b) (b - 0xF0) c (d ∷ g ∷ t) (sym (second_is b c) ∙ x)
      ∙ more 0 0x80 0xBF ((b - 0xF0) * 64 + (c - 0x80)) d (g ∷ t) (sym (continues_is d) ∙ y)
      ∙ last 0x80 0xBF (((b - 0xF0) * 64 + (c - 0x80)) * 64 + (d - 0x80)) g t (sym (continues_is g) ∙ z)
      ∙ ap (λ u. code_of_4 b c d g ∷ u) (again t (omega arith)) ∙ sym (read b (c ∷ d ∷ g ∷ t) (good (code_of_4 b c d g) 4) e)

  step : (b : ℕ) (s : List ℕ) → length s ≤ n → decodes outside (b ∷ s) ≡ lossy_chars (b ∷ s)
  step b s f =
      ⊎_elim (λ p. absurd (omega (arith, p.0)))
      (⊎_elim (λ p. ascii b s p.1 ∙ ap (λ t. b ∷ t) (again s f) ∙ sym (read b s (good b 1) p.2))
      (⊎_elim (λ p. one_bad b s p.3 (low b s p.1 p.2) (again s f))
      (⊎_elim (λ p. one_bad b s p.2 (high b s p.1) (again s f))
      (⊎_elim (λ p. cut_1 b s f p.1 p.2 p.3 p.4)
      (⊎_elim (λ p. stray_1 b s f p.1 p.2 p.0 p.3 p.4)
      (⊎_elim (λ p. two b s f p.1 p.2 p.0 p.3 p.4)
      (⊎_elim (λ p. cut_2 b s f p.1 p.2 p.0 p.3 p.4 p.5)
      (⊎_elim (λ p. stray_2 b s f p.1 p.2 p.0 p.3 p.4 p.5)
      (⊎_elim (λ p. three b s f p.1 p.2 p.0 p.3 p.4 p.5)
      (⊎_elim (λ p. cut_3 b s f p.1 p.2 p.0 p.3 p.4 p.5 p.6)
      (⊎_elim (λ p. stray_3 b s f p.1 p.2 p.0 p.3 p.4 p.5 p.6)
      (λ p. four b s f p.1 p.2 p.0 p.3 p.4 p.5 p.6))))))))))))
      (decoded_by-shape (length (b ∷ s)) (slice_index (b ∷ s) 0) (slice_index (b ∷ s) 1) (slice_index (b ∷ s) 2) (slice_index (b ∷ s) 3))

decodes_within : (n : ℕ) (bs : List ℕ) → length bs ≤ n → decodes outside bs ≡ lossy_chars bs
decodes_within n [] h = sym lossy_chars-nil
decodes_within zero (b ∷ s) h = absurd (omega arith)
decodes_within (suc n) (b ∷ s) h = step n (decodes_within n) b s (omega arith)

pub decoder : (bytes : List ℕ) → utf_8 bytes ≡ lossy_chars bytes
decoder bytes = decodes_within (length bytes) bytes (omega arith)
