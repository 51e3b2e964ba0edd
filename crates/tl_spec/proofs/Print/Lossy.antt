-- What stays of a piece that is made text.
use Rattle.std.proofs.Common.{◌≡◌, ℕ, zero, suc, ◌+◌, ◌<◌, ◌≤◌, Bool, true, false, not, ◌==◌, nat_le, nat_lt, List, [], ◌∷◌, ◌++◌, length, take, drop, get_or, Option, Some, None, IsUtf8, IsAscii, refl, ap, ap₂, sym, ◌∙◌, arith, subst, inl, inr, ⊎_elim, length-drop, take-append-drop, drop-drop, true≢false, eq-eqb, ne_eqb, leb-false}
use Rattle.std.specs.Prelude.{unwrap_or, codes, ◌&&◌}
use Rattle.std.specs.List.{starts_with, slice_index_or}
use Rattle.std.specs.Int.{is_in_range}
use Rattle.std.specs.Str.{IsValidUpTo}
use Rattle.std.specs.Str.Lossy.{utf8_valid_len, utf8_error_len, utf8_invalid_len, second_byte_min, second_byte_max, error_len_after_two, error_len_after_one, error_len_of_some, after_first_chunk, utf8_lossy_within, utf8_lossy}
use Rattle.std.proofs.lemmas.Bool.{cases_Bool, cond-true, cond-false, cond_both, and_parts, eqb-true, ltb-true, true_from_ne_false, false_from_ne_true, not-true}
use Rattle.std.proofs.lemmas.Bool.Decides.{nat_tests}
use Rattle.std.proofs.lemmas.Grind.{common_steps}
use Rattle.std.proofs.lemmas.List.{take_more, drop_more}
use Rattle.std.proofs.lemmas.Str.{IsUtf8-append, IsUtf8-from_ascii, utf8_valid_len-IsUtf8, utf8_lossy-IsUtf8, IsUtf8-nil}
use Rattle.std.proofs.lemmas.Str.Ascii.{IsAscii-nil, IsAscii-cons}
use lib.Utf8.{encode}
use Rattle.bstr.proofs.lemmas.LossyLemmas.{utf8_valid_len-cases}
use Rattle.tl_spec.specs.Lex.ByteClass.{is_blank, is_ident}
use Rattle.tl_spec.specs.Print.Clean.{HasCommentForm}
use Rattle.tl_spec.specs.Lex.Runs.{after_needle}
use Rattle.tl_spec.proofs.Lex.Bytes.{AllPass, AllPass-also, passes}

-- a byte that is no ASCII
abbrev high : ℕ → Bool
high b = nat_le 128 b

abbrev IsHigh : List ℕ → Type 0
IsHigh [] = ⊥
IsHigh (b ∷ u) = AllPass high (b ∷ u)

-- t is s with U+FFFD in place of some runs of bytes that are no ASCII
data Similar : List ℕ → List ℕ → Type 0 where
  over : Similar [] []
  same : {s t : List ℕ} (x : ℕ) → Similar s t → Similar (x ∷ s) (x ∷ t)
  broken : {s t : List ℕ} (u : List ℕ) → IsHigh u → Similar s t → Similar (u ++ s) (239 ∷ 191 ∷ 189 ∷ t)

Similar-refl : (s : List ℕ) → Similar s s
Similar-refl [] = over
Similar-refl (x ∷ s) = same x (Similar-refl s)

Similar-front : (r : List ℕ) {s t : List ℕ} → Similar s t → Similar (r ++ s) (r ++ t)
Similar-front [] h = h
Similar-front (x ∷ r) h = same x (Similar-front r h)

-- what one U+FFFD stands for

second_high : (x y : ℕ) → is_in_range (second_byte_min x) (second_byte_max x) y ≡ true → high y ≡ true
second_high x y h = grind (arith, common_steps, nat_tests)

third_high : (y : ℕ) → is_in_range 0x80 0xBF y ≡ true → high y ≡ true
third_high y h = (and_parts _ _ h).0

invalid_high : (b : ℕ) (w : List ℕ) → high b ≡ true → IsHigh (take (utf8_invalid_len (b ∷ w)) (b ∷ w))
unfolding utf8_error_len
invalid_high b [] h =
    let P : Option ℕ → Type 0 = λ o. IsHigh (take (unwrap_or o 1) (b ∷ [])) in
    cond_both (is_in_range 0xC2 0xF4 b) None (Some 1) P (λ _. (h, tt)) (λ _. (h, tt))
invalid_high b (c ∷ []) h =
    let P : Option ℕ → Type 0 = λ o. IsHigh (take (unwrap_or o 2) (b ∷ c ∷ [])) in
    cond_both (is_in_range 0xC2 0xF4 b) _ (Some 1) P
    (λ _. cond_both (is_in_range (second_byte_min b) (second_byte_max b) c) None (Some 1) P (λ s. (h, (second_high b c s, tt))) (λ _. (h, tt)))
    (λ _. (h, tt))
invalid_high b (c ∷ d ∷ []) h =
    let P : Option ℕ → Type 0 = λ o. IsHigh (take (unwrap_or o 3) (b ∷ c ∷ d ∷ [])) in
    cond_both (is_in_range 0xC2 0xF4 b) _ (Some 1) P
    (λ _. cond_both (is_in_range (second_byte_min b) (second_byte_max b) c) _ (Some 1) P
    (λ s. cond_both (is_in_range 0x80 0xBF d) None (Some 2) P (λ t. (h, (second_high b c s, (third_high d t, tt)))) (λ _. (h, (second_high b c s, tt))))
    (λ _. (h, tt)))
    (λ _. (h, tt))
invalid_high b (c ∷ d ∷ e ∷ w) h =
    let n : ℕ = length (b ∷ c ∷ d ∷ e ∷ w) in
    let P : Option ℕ → Type 0 = λ o. IsHigh (take (unwrap_or o n) (b ∷ c ∷ d ∷ e ∷ w)) in
    let one : P (Some 1) = (h, tt) in
    let short : (k : ℕ) → k ≤ 4 → nat_lt n k ≡ true → ⊥ = λ k l t. omega (arith, ltb-true n k t) in
    cond_both (n == 0) None (error_len_of_some (b ∷ c ∷ d ∷ e ∷ w)) P (λ t. absurd (omega (arith, eqb-true n 0 t)))
    (λ _. cond_both (is_in_range 0xC2 0xF4 b) (error_len_after_one (b ∷ c ∷ d ∷ e ∷ w)) (Some 1) P
    (λ _. cond_both (nat_lt n 2) None _ P (λ t. absurd (short 2 (omega arith) t))
    (λ _. cond_both (is_in_range (second_byte_min b) (second_byte_max b) c) (error_len_after_two (b ∷ c ∷ d ∷ e ∷ w)) (Some 1) P
    (λ s. let two : P (Some 2) = (h, (second_high b c s, tt)) in
    cond_both (nat_lt n 3) None _ P (λ t. absurd (short 3 (omega arith) t))
    (λ _. cond_both (is_in_range 0x80 0xBF d) _ (Some 2) P
    (λ t. let three : P (Some 3) = (h, (second_high b c s, (third_high d t, tt))) in
    cond_both (nat_lt n 4) None (Some 3) P (λ t. absurd (short 4 (omega arith) t)) (λ _. three))
    (λ _. two)))
    (λ _. one)))
    (λ _. one))

-- the byte at which text stops is no ASCII
stop_high : (bs : List ℕ) (n : ℕ) → IsValidUpTo bs n → high (get_or bs n 0) ≡ true
stop_high bs n v = true_from_ne_false (high (get_or bs n 0)) (λ e.
    let l : get_or bs n 0 < 128 = leb-false 128 (get_or bs n 0) e in
    let u : IsUtf8 (get_or bs n 0 ∷ []) = IsUtf8-from_ascii _ (IsAscii-cons (get_or bs n 0) [] l IsAscii-nil) in
    v.longest (n + 1) (omega arith) (subst IsUtf8 (sym (take_more bs n 0 v.short)) (IsUtf8-append _ _ v.front u)))

-- what one U+FFFD stands for, after the text at the front
gap_high : (bs : List ℕ) (n : ℕ) → IsValidUpTo bs n → IsHigh (take (utf8_invalid_len (drop n bs)) (drop n bs))
gap_high bs n v =
    subst (λ s. IsHigh (take (utf8_invalid_len s) s)) (sym (drop_more bs n 0 v.short)) (invalid_high (get_or bs n 0) (drop (n + 1) bs) (stop_high bs n v))

some_len : (m : ℕ) (w : List ℕ) → IsHigh (take m w) → 0 < m
some_len zero w h = absurd h
some_len (suc m) w h = omega arith

replacement_text : IsUtf8 (239 ∷ 191 ∷ 189 ∷ [])
unfolding encode
replacement_text = (65533 ∷ [], (refl, refl))

-- what is made text is text, and is like what it was made of
record Made (bs t : List ℕ) : Type 0 where
  like : Similar bs t
  text : IsUtf8 t

made_within : (k : ℕ) (bs : List ℕ) → length bs ≤ k → Made bs (utf8_lossy_within k bs)
made_within zero [] l = record { like = over; text = IsUtf8-nil }
made_within zero (b ∷ bs) l = absurd (omega arith)
made_within (suc k) bs l = ⊎_elim
    (λ u. subst (Made bs) (sym (cond-true _ _ _ (eq-eqb (utf8_valid_len bs) (length bs) (utf8_valid_len-IsUtf8 bs u)))) (record { like = Similar-refl bs; text = u }))
    (λ v.
    let n : ℕ = utf8_valid_len bs in
    let w : List ℕ = drop n bs in
    let m : ℕ = utf8_invalid_len w in
    let h = gap_high bs n v in
    let short : n < length bs = v.short in
    let rest : after_first_chunk bs ≡ drop m w = sym (drop-drop m n bs) in
    let less : length (drop m w) ≤ k = omega (arith, length-drop m w, length-drop n bs, some_len m w h) in
    let i = made_within k (drop m w) less in
    let parts : take n bs ++ (take m w ++ drop m w) ≡ bs = ap (λ x. take n bs ++ x) (take-append-drop m w) ∙ take-append-drop n bs in
    let t : List ℕ = 239 ∷ 191 ∷ 189 ∷ utf8_lossy_within k (drop m w) in
    let e : utf8_lossy_within (suc k) bs ≡ take n bs ++ t =
    cond-false _ _ _ (ne_eqb n (length bs) (omega arith)) ∙ ap (λ x. take n bs ++ (239 ∷ 191 ∷ 189 ∷ utf8_lossy_within k x)) rest in
    subst (Made bs) (sym e) (record {
      like = subst (λ x. Similar x (take n bs ++ t)) parts (Similar-front (take n bs) (broken (take m w) h i.like));
      text = IsUtf8-append (take n bs) t v.front (IsUtf8-append (239 ∷ 191 ∷ 189 ∷ []) _ replacement_text i.text);
    }))
    (utf8_valid_len-cases bs)

made : (bs : List ℕ) → Made bs (utf8_lossy bs)
unfolding utf8_lossy
made bs = made_within (length bs) bs (omega arith)

pub lossy-IsUtf8 : (s : List ℕ) → IsUtf8 (utf8_lossy s)
lossy-IsUtf8 s = (made s).text

-- names

ident_ascii : (b : ℕ) → is_ident b ≡ true → b < 128
ident_ascii b h = grind (arith, nat_tests)

IsAscii-ident : (n : List ℕ) → AllPass is_ident n → IsAscii n
IsAscii-ident [] h = IsAscii-nil
IsAscii-ident (b ∷ n) h = IsAscii-cons b n (ident_ascii b h.0) (IsAscii-ident n h.1)

pub lossy-ident : (n : List ℕ) → AllPass is_ident n → utf8_lossy n ≡ n
lossy-ident n h = utf8_lossy-IsUtf8 n (IsUtf8-from_ascii n (IsAscii-ident n h))

pub lossy-nil : utf8_lossy [] ≡ []
lossy-nil = lossy-ident [] tt

-- tests that U+FFFD passes

AllPass-back : (p : ℕ → Bool) (u s : List ℕ) → AllPass p (u ++ s) → AllPass p s
AllPass-back p [] s h = h
AllPass-back p (b ∷ u) s h = AllPass-back p u s h.1

AllPass-similar : (p : ℕ → Bool) → p 239 ≡ true → p 191 ≡ true → p 189 ≡ true → {s t : List ℕ} → Similar s t → AllPass p s → AllPass p t
AllPass-similar p a b c over h = tt
AllPass-similar p a b c (same x r) h = (h.0, AllPass-similar p a b c r h.1)
AllPass-similar p a b c (broken {s = s} u k r) h = (a, (b, (c, AllPass-similar p a b c r (AllPass-back p u s h))))

pub lossy-AllPass : (p : ℕ → Bool) → p 239 ≡ true → p 191 ≡ true → p 189 ≡ true → (s : List ℕ) → AllPass p s → AllPass p (utf8_lossy s)
lossy-AllPass p a b c s h = AllPass-similar p a b c (made s).like h

-- comments

not_high : (x : ℕ) (u : List ℕ) (y : ℕ) → high y ≡ true → y ≡ x → high x ≡ false → ⊥
not_high x u y h e l = true≢false (sym h ∙ ap high e ∙ l)

-- an ASCII byte stays
low_from : {w t : List ℕ} → Similar w t → (x : ℕ) (s : List ℕ) → w ≡ x ∷ s → high x ≡ false → (r : List ℕ) × (t ≡ x ∷ r) × Similar s r
low_from over x s e l = absurd (cc)
low_from (same {s = v} {t = t} y r) x s e l =
    let a : y ≡ x = cc in
    let b : v ≡ s = cc in
    (t, ap (λ z. z ∷ t) a, subst (λ z. Similar z t) b r)
low_from (broken [] h r) x s e l = absurd h
low_from (broken {s = v} (y ∷ u) h r) x s e l = let a : y ≡ x = cc in absurd (not_high x u y h.0 a l)

-- and none is new
low_to : {s w : List ℕ} → Similar s w → (x : ℕ) (t : List ℕ) → w ≡ x ∷ t → high x ≡ false → (r : List ℕ) × (s ≡ x ∷ r) × Similar r t
low_to over x t e l = absurd (cc)
low_to (same {s = s} {t = v} y r) x t e l =
    let a : y ≡ x = cc in
    let b : v ≡ t = cc in
    (s, ap (λ z. z ∷ s) a, subst (λ z. Similar s z) b r)
low_to (broken u h r) x t e l = let a : 239 ≡ x = cc in absurd (not_high x u 239 refl a l)

abbrev low : ℕ → Bool
low b = not (high b)

lows_from : (xs : List ℕ) {s t : List ℕ} → AllPass low xs → Similar (xs ++ s) t → (r : List ℕ) × (t ≡ xs ++ r) × Similar s r
lows_from [] {t = t} h m = (t, refl, m)
lows_from (x ∷ xs) {s = s} h m =
    let f = low_from m x (xs ++ s) refl (not-true (high x) h.0) in
    let g = lows_from xs h.1 f.2 in
    (g.0, f.1 ∙ ap (λ z. x ∷ z) g.1, g.2)

lows_to : (xs : List ℕ) {s t : List ℕ} → AllPass low xs → Similar s (xs ++ t) → (r : List ℕ) × (s ≡ xs ++ r) × Similar r t
lows_to [] {s = s} h m = (s, refl, m)
lows_to (x ∷ xs) {t = t} h m =
    let f = low_to m x (xs ++ t) refl (not-true (high x) h.0) in
    let g = lows_to xs h.1 f.2 in
    (g.0, f.1 ∙ ap (λ z. x ∷ z) g.1, g.2)

nil_from : {s t : List ℕ} → Similar s t → s ≡ [] → t ≡ []
nil_from over e = refl
nil_from (same x r) e = absurd (cc)
nil_from (broken [] h r) e = absurd h
nil_from (broken (y ∷ u) h r) e = absurd (cc)

unfoldable pub begins_dashes : List ℕ → Bool
begins_dashes s = starts_with ◌==◌ s (codes "--")

unfoldable pub begins_arrow : List ℕ → Bool
begins_arrow s = starts_with ◌==◌ s (codes "-->")

pub dashes_parts : (s : List ℕ) → begins_dashes s ≡ true → (r : List ℕ) × (s ≡ 45 ∷ 45 ∷ r)
unfolding begins_dashes
dashes_parts [] h = absurd (cc)
dashes_parts (a ∷ []) h = let p = and_parts (45 == a) false h in absurd (true≢false (sym p.1))
dashes_parts (a ∷ b ∷ s) h =
    let p = and_parts (45 == a) ((45 == b) && true) h in
    let q = and_parts (45 == b) true p.1 in
    (s, ap₂ (λ x y. x ∷ y ∷ s) (sym (eqb-true 45 a p.0)) (sym (eqb-true 45 b q.0)))

pub arrow_parts : (s : List ℕ) → begins_arrow s ≡ true → (r : List ℕ) × (s ≡ 45 ∷ 45 ∷ 62 ∷ r)
unfolding begins_arrow
arrow_parts [] h = absurd (cc)
arrow_parts (a ∷ []) h = let p = and_parts (45 == a) false h in absurd (true≢false (sym p.1))
arrow_parts (a ∷ b ∷ []) h =
    let p = and_parts (45 == a) ((45 == b) && false) h in
    let q = and_parts (45 == b) false p.1 in
    absurd (true≢false (sym q.1))
arrow_parts (a ∷ b ∷ c ∷ s) h =
    let p = and_parts (45 == a) ((45 == b) && ((62 == c) && true)) h in
    let q = and_parts (45 == b) ((62 == c) && true) p.1 in
    let r = and_parts (62 == c) true q.1 in
    (s, ap₂ (λ x y. x ∷ y) (sym (eqb-true 45 a p.0)) (ap₂ (λ x y. x ∷ y ∷ s) (sym (eqb-true 45 b q.0)) (sym (eqb-true 62 c r.0))))

arrow-high : (b : ℕ) (s : List ℕ) → high b ≡ true → begins_arrow (b ∷ s) ≡ false
arrow-high b s h = false_from_ne_true _ (λ y.
    let p = arrow_parts (b ∷ s) y in
    let is : b ≡ 45 = ap (λ (x : List ℕ). slice_index_or x 0 0) p.1 in
    true≢false (sym h ∙ ap high is))

unfoldable pub past_arrow : List ℕ → Option (List ℕ)
past_arrow s = after_needle (codes "-->") s

pub arrow-here : (s r : List ℕ) → s ≡ 45 ∷ 45 ∷ 62 ∷ r → past_arrow s ≡ Some r
unfolding past_arrow
arrow-here s r e = ap (after_needle (codes "-->")) e

pub arrow-later : (b : ℕ) (s : List ℕ) → begins_arrow (b ∷ s) ≡ false → past_arrow (b ∷ s) ≡ past_arrow s
unfolding past_arrow begins_arrow
arrow-later b s e = ap (λ v. elim v as (λ _. Option (List ℕ)) [ true ↦ Some (drop 3 (b ∷ s)) | false ↦ after_needle (codes "-->") s ]) e

past_arrow-high : (u s : List ℕ) → AllPass high u → past_arrow (u ++ s) ≡ past_arrow s
past_arrow-high [] s h = refl
past_arrow-high (b ∷ u) s h = arrow-later b (u ++ s) (arrow-high b (u ++ s) h.0) ∙ past_arrow-high u s h.1

IsHigh-AllPass : (u : List ℕ) → IsHigh u → AllPass high u
IsHigh-AllPass [] h = absurd h
IsHigh-AllPass (b ∷ u) h = h

pub begins_arrow-is : (r : List ℕ) → begins_arrow (45 ∷ 45 ∷ 62 ∷ r) ≡ true
unfolding begins_arrow
begins_arrow-is r = refl

pub none_found : (r : List ℕ) → past_arrow [] ≡ Some r → ⊥
unfolding past_arrow
none_found r h = cc

pub nothing_found : past_arrow [] ≡ Some [] → ⊥
unfolding past_arrow
nothing_found h = cc

past_arrow-similar : {s t : List ℕ} → Similar s t → past_arrow s ≡ Some [] → past_arrow t ≡ Some []
past_arrow-similar over h = absurd (nothing_found h)
past_arrow-similar (same {s = s} {t = t} x r) h = elim (cases_Bool (begins_arrow (x ∷ s))) [
  | inl y ↦ (
      let p = arrow_parts (x ∷ s) y in
      let f = lows_from (45 ∷ 45 ∷ 62 ∷ []) {s = p.0} (refl, (refl, (refl, tt))) (subst (λ z. Similar z (x ∷ t)) p.1 (same x r)) in
      let e : Some p.0 ≡ Some [] = sym (arrow-here (x ∷ s) p.0 p.1) ∙ h in
      let n : p.0 ≡ [] = cc in
      arrow-here (x ∷ t) [] (f.1 ∙ ap (λ z. 45 ∷ 45 ∷ 62 ∷ z) (nil_from f.2 n)))
  | inr n ↦ (
      let i = past_arrow-similar r (sym (arrow-later x s n) ∙ h) in
      let no : begins_arrow (x ∷ t) ≡ false = false_from_ne_true _ (λ y.
      let p = arrow_parts (x ∷ t) y in
      let f = lows_to (45 ∷ 45 ∷ 62 ∷ []) {t = p.0} (refl, (refl, (refl, tt))) (subst (λ z. Similar (x ∷ s) z) p.1 (same x r)) in
      true≢false (sym (ap begins_arrow f.1 ∙ begins_arrow-is f.0) ∙ n)) in
      arrow-later x t no ∙ i)
]
past_arrow-similar (broken {s = s} {t = t} u k r) h =
    past_arrow-high (239 ∷ 191 ∷ 189 ∷ []) t (refl, (refl, (refl, tt)))
    ∙ past_arrow-similar r (sym (past_arrow-high u s (IsHigh-AllPass u k)) ∙ h)

blank_low : (b : ℕ) → is_blank b ≡ true → low b ≡ true
blank_low b h = grind (arith, nat_tests)

pub begins_dashes-is : (r : List ℕ) → begins_dashes (45 ∷ 45 ∷ r) ≡ true
unfolding begins_dashes
begins_dashes-is r = refl

dashes-similar : (s t : List ℕ) → Similar s t → begins_dashes s ≡ true → begins_dashes t ≡ true
dashes-similar s t m h =
    let p = dashes_parts s h in
    let f = lows_from (45 ∷ 45 ∷ []) {s = p.0} (refl, (refl, tt)) (subst (λ z. Similar z t) p.1 m) in
    ap begins_dashes f.1 ∙ begins_dashes-is f.0

pub lossy-comment : (c : List ℕ) → HasCommentForm c → HasCommentForm (utf8_lossy c)
unfolding begins_dashes past_arrow
lossy-comment c h =
    let lt = low_from (made c).like 60 (h.blanks ++ 33 ∷ h.inside) h.whole refl in
    let blanks = lows_from h.blanks {s = 33 ∷ h.inside} (AllPass-also is_blank low blank_low h.blanks (passes is_blank h.blanks h.all_blank)) lt.2 in
    let bang = low_from blanks.2 33 h.inside refl refl in
    record {
      blanks = h.blanks;
      inside = bang.0;
      whole = lt.1 ∙ ap (λ x. 60 ∷ x) (blanks.1 ∙ ap (λ x. h.blanks ++ x) bang.1);
      all_blank = h.all_blank;
      opens = dashes-similar h.inside bang.0 bang.2 h.opens;
      ends = past_arrow-similar bang.2 h.ends;
    }
