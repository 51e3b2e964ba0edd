-- Tests of values.
use Rattle.std.proofs.Common.{◌≡◌, ◌≢◌, ◌<◌, ◌≤◌, ◌+◌, ◌-◌, ◌↔◌, ◌⊎◌, ◌++◌, ◌∷◌, [], ℕ, suc, List, Bool, true, false, cond, IsTrue, length, take, drop, sym, ap, ◌∙◌, refl, arith, inl, inr, subst, eqb, append_assoc, append-nil, length-append, take-append-drop}
use Rattle.std.specs.List.{AllByRecursion, Contains, list_any, slice_split, onto_first, starts_with, ends_with}
use Rattle.std.specs.Str.{byte, bytes_eq}
use Rattle.std.proofs.lemmas.Bool.{false≢true, or_cases}
use Rattle.std.proofs.lemmas.Bool.Decides.{Decides-eqb}
use Rattle.std.proofs.lemmas.List.{append_cancel_left}
use Rattle.std.proofs.lemmas.List.Elements.{All-from_recursion}
use Rattle.std.proofs.lemmas.List.Folds.{list_any_at}
use Rattle.std.proofs.lemmas.Slice.Eq.{bytes_eq-Decides, starts_is, ends_is}
use Rattle.std.proofs.Math.Seq.{take-append_seam, drop-append_seam}
use Rattle.bstr.specs.Text.{Contains as Occurs}
use Rattle.memchr.proofs.lemmas.MatchLemmas.{OccursAt-split, OccursAt-from_part}
use Rattle.tl_css.specs.Bytes.{is_white}
use Rattle.tl_tree_select.specs.Meaning.{Passes}
use Rattle.tl_css.specs.declared.selector.Op.{Op}
use Rattle.tl_css.specs.declared.selector.Op.TheVariants.{Equals, Word, Dashed, Starts, Ends, Inside}

filled : (value : List ℕ) → 0 < length value → value ≢ []
filled value long e = omega (arith, long, ap length e)

pub begins_is : (own value : List ℕ) (r : Bool) → 0 < length value → r ≡ starts_with eqb own value → (r ≡ true) ↔ Passes Starts value own
begins_is own value r long e =
    let s = starts_is Decides-eqb own value r e in
    (λ t. (filled value long, drop (length value) own, s.0 t), λ h. s.1 h.1 h.2)

pub ends_is_so : (own value : List ℕ) (r : Bool) → 0 < length value → r ≡ ends_with eqb own value → (r ≡ true) ↔ Passes Ends value own
ends_is_so own value r long e =
    let s = ends_is Decides-eqb own value r e in
    (λ t. (filled value long, take (length own - length value) own, s.0 t), λ h. s.1 h.1 h.2)

pub not_dashed : (own value : List ℕ) → ((rest : List ℕ) → own ≢ value ++ rest) → (false ≡ true) ↔ Passes Dashed value own
not_dashed own value never = (
  λ e. absurd (false≢true e),
  λ h. elim h [
    | inl e ↦ absurd (never [] (e ∙ sym (append-nil value)))
    | inr k ↦ absurd (never (byte "-" ∷ k.0) k.1)
  ],
)

pub dashed_is : (own value rest : List ℕ) (r : Bool) → own ≡ value ++ rest
    → ((r ≡ true) ↔ ((rest ≡ []) ⊎ ((more : List ℕ) × (rest ≡ byte "-" ∷ more)))) → (r ≡ true) ↔ Passes Dashed value own
dashed_is own value rest r at is = (
  λ t. elim (is.0 t) [
    | inl e ↦ inl (at ∙ ap (λ r. value ++ r) e ∙ append-nil value)
    | inr k ↦ inr (k.0, at ∙ ap (λ r. value ++ r) k.1)
  ],
  λ h. is.1 (elim h [
    | inl e ↦ inl (append_cancel_left value rest [] (sym at ∙ e ∙ sym (append-nil value)))
    | inr k ↦ inr (k.0, append_cancel_left value rest (byte "-" ∷ k.0) (sym at ∙ k.1))
  ]),
)

pub inside_is : (own value : List ℕ) (r : Bool) → 0 < length value → (IsTrue r ↔ Occurs own value) → (r ≡ true) ↔ Passes Inside value own
inside_is own value r long is = (
  λ t.
      let o = is.0 t in
      let behind = drop (o.0 + length value) own in (
        filled value long,
        take o.0 own,
        behind,
        sym (take-append-drop o.0 own) ∙ ap (λ z. take o.0 own ++ z) (OccursAt-split own value o.0 o.1) ∙ sym (append_assoc (take o.0 own) value behind),
      ),
  λ h.
      let before = h.1 in
      let behind = h.2 in
      let e : own ≡ before ++ (value ++ behind) = h.3 ∙ append_assoc before value behind in
      let len : length own ≡ length before + (length value + length behind) = ap length e ∙ length-append before (value ++ behind) ∙ ap (λ n. length before + n) (length-append value behind) in
      let at : take (length value) (drop (length before) own) ≡ value =
      ap (λ z. take (length value) (drop (length before) z)) e ∙ ap (take (length value)) (drop-append_seam before (value ++ behind)) ∙ take-append_seam value behind in
      is.1 (length before, OccursAt-from_part own value (length before) (omega (arith, len)) at),
)

pub word_is : (word : List ℕ) (parts : List (List ℕ)) (r : Bool) → r ≡ list_any (λ part. bytes_eq part word) parts → (r ≡ true) ↔ Contains parts word
word_is word parts r e = (
  λ t. found parts (sym e ∙ t),
  λ h. e ∙ list_any_at (λ part. bytes_eq part word) parts h.0 word h.1 ((bytes_eq-Decides _ word).1 h.2),
)
  where
    found : (parts : List (List ℕ)) → list_any (λ part. bytes_eq part word) parts ≡ true → Contains parts word
    found [] e = absurd (false≢true e)
    found (x ∷ xs) e = elim (or_cases (bytes_eq x word) (list_any (λ part. bytes_eq part word) xs) e) [
      | inl h ↦ (0, omega arith, (bytes_eq-Decides x word).0 h)
      | inr h ↦ (let c = found xs h in (suc c.0, omega (arith, c.1), c.2))
    ]

-- What passes is no longer than the value

weaken : (n : ℕ) (ps : List (List ℕ)) → AllByRecursion (λ p. length p ≤ n) ps → AllByRecursion (λ p. length p ≤ suc n) ps
weaken n [] h = tt
weaken n (p ∷ ps) h = (let l = h.0 in omega (arith, l), weaken n ps h.1)

onto : (x n : ℕ) (ps : List (List ℕ)) → AllByRecursion (λ p. length p ≤ n) ps → AllByRecursion (λ p. length p ≤ suc n) (onto_first x ps)
onto x n [] h = (omega arith, tt)
onto x n (p ∷ ps) h = (let l = h.0 in omega (arith, l), weaken n ps h.1)

short : (q : ℕ → Bool) (xs : List ℕ) → AllByRecursion (λ p. length p ≤ length xs) (slice_split q xs)
short q [] = (omega arith, tt)
short q (x ∷ xs) = elim (q x) as (λ b. AllByRecursion (λ p. length p ≤ suc (length xs)) (cond b ([] ∷ slice_split q xs) (onto_first x (slice_split q xs)))) [
  | true ↦ (omega arith, weaken (length xs) (slice_split q xs) (short q xs))
  | false ↦ onto x (length xs) (slice_split q xs) (short q xs)
]

word_short : (word own : List ℕ) → Contains (slice_split is_white own) word → length word ≤ length own
word_short word own h =
    subst (λ (p : List ℕ). length p ≤ length own) h.2
    (All-from_recursion (λ p. length p ≤ length own) (slice_split is_white own) (short is_white own) h.0 word h.1)

-- A word that is as long as the value is the value

whole_none : (x : ℕ) (xs : List ℕ) (ps : List (List ℕ)) → AllByRecursion (λ p. length p ≤ length xs) ps → AllByRecursion (λ p. suc (length xs) ≤ length p → p ≡ x ∷ xs) ps
whole_none x xs [] h = tt
whole_none x xs (p ∷ ps) h = (λ le. absurd (let l = h.0 in omega (arith, l, le)), whole_none x xs ps h.1)

only : (x : ℕ) (xs : List ℕ) → length xs ≤ 0 → x ∷ [] ≡ x ∷ xs
only x [] le = refl
only x (y ∷ ys) le = absurd (omega (arith, le))

whole_onto : (x : ℕ) (xs : List ℕ) (ps : List (List ℕ)) → AllByRecursion (λ p. length p ≤ length xs) ps → AllByRecursion (λ p. length xs ≤ length p → p ≡ xs) ps
    → AllByRecursion (λ p. suc (length xs) ≤ length p → p ≡ x ∷ xs) (onto_first x ps)
whole_onto x xs [] h w = (λ le. only x xs (omega (arith, le)), tt)
whole_onto x xs (p ∷ ps) h w = (λ le. ap (λ (p : List ℕ). x ∷ p) (w.0 (omega (arith, le))), whole_none x xs ps h.1)

whole : (q : ℕ → Bool) (xs : List ℕ) → AllByRecursion (λ p. length xs ≤ length p → p ≡ xs) (slice_split q xs)
whole q [] = (λ le. refl, tt)
whole q (x ∷ xs) = elim (q x) as (λ b. AllByRecursion (λ p. suc (length xs) ≤ length p → p ≡ x ∷ xs) (cond b ([] ∷ slice_split q xs) (onto_first x (slice_split q xs)))) [
  | true ↦ (λ le. absurd (omega (arith, le)), whole_none x xs (slice_split q xs) (short q xs))
  | false ↦ whole_onto x xs (slice_split q xs) (short q xs) (whole q xs)
]

word_whole : (word own : List ℕ) → Contains (slice_split is_white own) word → length own ≤ length word → word ≡ own
word_whole word own h le =
    subst (λ (p : List ℕ). length own ≤ length p → p ≡ own) h.2
    (All-from_recursion (λ p. length own ≤ length p → p ≡ own) (slice_split is_white own) (whole is_white own) h.0 word h.1) le

pub other_word : (value own : List ℕ) → length own ≤ length value → (own ≡ value → ⊥) → (false ≡ true) ↔ Passes Word value own
other_word value own le other = (
  λ e. absurd (false≢true e),
  λ h. absurd (other (sym (word_whole value own h.1 le))),
)

pub none_longer : (op : Op) (value own : List ℕ) → length own < length value → Passes op value own → ⊥
none_longer Equals value own lt h = omega (arith, lt, ap length h)
none_longer Word value own lt h = (let le = word_short value own h.1 in omega (arith, lt, le))
none_longer Dashed value own lt (inl e) = omega (arith, lt, ap length e)
none_longer Dashed value own lt (inr k) = omega (arith, lt, ap length k.1 ∙ length-append value (byte "-" ∷ k.0))
none_longer Starts value own lt h = omega (arith, lt, ap length h.2 ∙ length-append value h.1)
none_longer Ends value own lt h = omega (arith, lt, ap length h.2 ∙ length-append h.1 value)
none_longer Inside value own lt h =
    omega (arith, lt, ap length h.3 ∙ length-append (h.1 ++ value) h.2, length-append h.1 value)
