-- What stands after a part is shorter, so the bounds on steps bound nothing.
use Rattle.std.proofs.Common.{◌≡◌, ◌∙◌, ℕ, ◌<◌, ◌≤◌, ◌==◌, List, [], ◌∷◌, Option, None, Some, false, inl, inr, ap, arith, codes, drop, length, refl, suc, sym, zero}
use Rattle.std.specs.List.{prefix_len}
use Rattle.std.specs.Option.{option_or}
use Rattle.std.proofs.lemmas.Bool.{cases_Bool}
use Rattle.std.proofs.lemmas.List.{length-drop}
use Rattle.tl_encoding.specs.Attributes.{after_attributes, after_key, after_value, is_end, is_named, key_len, next, next_of, tag_end, value_among, value_at}
use Rattle.tl_encoding.specs.Charset.{comment_end, is_markup, is_meta, is_tag, item_end, meta_label, prescanned, said_within}
use Rattle.tl_encoding.specs.Runs.{after, after_equals, begins, begins_with, from_word, is_of, is_quote, rest_after_equals}
use Rattle.tl_encoding.specs.declared.run.ByteClass.{ByteClass}
use Rattle.tl_encoding.specs.declared.run.ByteClass.TheVariants.{Space, Gap, Bare, Except}

drop-le : (k : ℕ) (s : List ℕ) → length (drop k s) ≤ length s
drop-le k s = omega (arith, length-drop k s)

after-le : (class : ByteClass) (s : List ℕ) → length (after class s) ≤ length s
after-le class s = drop-le (prefix_len (is_of class) s) s

rest_after_equals-le : (s r : List ℕ) → rest_after_equals Space s ≡ Some r → length r ≤ length s
rest_after_equals-le [] r e = cc
rest_after_equals-le (b ∷ s) r e = elim (cases_Bool (b == 61)) [
  | inl y ↦ (let f : after Space s ≡ r = cc (rw y at e) in omega (arith, after-le Space s, ap length f))
  | inr n ↦ cc (rw n at e)
]

after_value-le : (s : List ℕ) → length (after_value s) ≤ length s
after_value-le [] = omega arith
after_value-le (b ∷ s) = elim (cases_Bool (is_quote b)) [
  | inl y ↦ rw y (omega (arith, drop-le 1 (after (Except b) s), after-le (Except b) s))
  | inr n ↦ rw n (after-le Bare (b ∷ s))
]

next_of-le : (s : List ℕ) (o : Option (List ℕ)) → after_equals Space (after_key s) ≡ o → length (next_of s o) ≤ length (after_key s)
next_of-le s None e = after-le Gap (after_key s)
next_of-le s (Some r) e = omega (arith, after-le Gap (after_value r), after_value-le r, rest_after_equals-le (after Space (after_key s)) r e, after-le Space (after_key s))

after_key-lt : (s : List ℕ) → is_end s ≡ false → length (after_key s) < length s
after_key-lt [] e = cc
after_key-lt (b ∷ s) e = omega (arith, length-drop (key_len (b ∷ s)) (b ∷ s))

pub next-lt : (s : List ℕ) → is_end s ≡ false → length (next s) < length s
next-lt s e = omega (arith, next_of-le s (after_equals Space (after_key s)) refl, after_key-lt s e)

after_attributes-le : (n : ℕ) (s : List ℕ) → length (after_attributes n s) ≤ length s
after_attributes-le zero s = omega arith
after_attributes-le (suc n) s = elim (cases_Bool (is_end s)) [
  | inl y ↦ rw y (omega arith)
  | inr f ↦ rw f (omega (arith, after_attributes-le n (next s), next-lt s f))
]

tag_end-le : (tag : List ℕ) → length (tag_end tag) ≤ length tag
tag_end-le tag = omega (arith, after_attributes-le (length tag) (after Gap tag), after-le Gap tag)

from_word-le : (word s : List ℕ) → length (from_word word s) ≤ length s
from_word-le word [] = omega arith
from_word-le word (b ∷ s) = elim (cases_Bool (begins word (b ∷ s))) [
  | inl y ↦ rw y (omega arith)
  | inr n ↦ rw n (omega (arith, from_word-le word s))
]

comment_end-le : (s : List ℕ) → length (comment_end s) ≤ length s
comment_end-le s = omega (arith, drop-le 2 (from_word (codes "-->") s), from_word-le (codes "-->") s)

item_end-le : (s : List ℕ) → length (item_end s) ≤ length s
item_end-le s = elim (cases_Bool (begins_with (codes "<!--") s)) [
  | inl y ↦ rw y (omega (arith, comment_end-le (drop 2 s), drop-le 2 s))
  | inr n ↦ rw n (elim (cases_Bool (is_meta s)) [
    | inl y ↦ rw y (omega (arith, tag_end-le (drop 5 s), drop-le 5 s))
    | inr m ↦ rw m (elim (cases_Bool (is_tag s)) [
      | inl y ↦ rw y (omega (arith, tag_end-le (after Bare s), after-le Bare s))
      | inr t ↦ rw t (elim (cases_Bool (is_markup s)) [
        | inl y ↦ rw y (after-le (Except 62) s)
        | inr k ↦ rw k (omega arith)
      ])
    ])
  ])
]

-- as many steps as there are bytes, and more, give the same
values-same : (n m : ℕ) (word s : List ℕ) → length s ≤ n → length s ≤ m → value_among n word s ≡ value_among m word s
values-same zero zero word s h k = refl
values-same zero (suc m) word [] h k = refl
values-same zero (suc m) word (b ∷ s) h k = absurd (omega arith)
values-same (suc n) zero word [] h k = refl
values-same (suc n) zero word (b ∷ s) h k = absurd (omega arith)
values-same (suc n) (suc m) word s h k = elim (cases_Bool (is_end s)) [
  | inl y ↦ rw y refl
  | inr f ↦ rw f (elim (cases_Bool (is_named word s)) [
    | inl y ↦ rw y refl
    | inr g ↦ rw g (values-same n m word (next s) (omega (arith, next-lt s f)) (omega (arith, next-lt s f)))
  ])
]

ends-same : (n m : ℕ) (s : List ℕ) → length s ≤ n → length s ≤ m → after_attributes n s ≡ after_attributes m s
ends-same zero zero s h k = refl
ends-same zero (suc m) [] h k = refl
ends-same zero (suc m) (b ∷ s) h k = absurd (omega arith)
ends-same (suc n) zero [] h k = refl
ends-same (suc n) zero (b ∷ s) h k = absurd (omega arith)
ends-same (suc n) (suc m) s h k = elim (cases_Bool (is_end s)) [
  | inl y ↦ rw y refl
  | inr f ↦ rw f (ends-same n m (next s) (omega (arith, next-lt s f)) (omega (arith, next-lt s f)))
]

nothing-said : (n : ℕ) → said_within n [] ≡ None
nothing-said zero = refl
nothing-said (suc n) = nothing-said n

step-lt : (b : ℕ) (s : List ℕ) → length (drop 1 (item_end (b ∷ s))) ≤ length s
step-lt b s = omega (arith, length-drop 1 (item_end (b ∷ s)), item_end-le (b ∷ s))

said-same : (n m : ℕ) (s : List ℕ) → length s ≤ n → length s ≤ m → said_within n s ≡ said_within m s
said-same zero zero s h k = refl
said-same zero (suc m) [] h k = sym (nothing-said m)
said-same zero (suc m) (b ∷ s) h k = absurd (omega arith)
said-same (suc n) zero [] h k = nothing-said n
said-same (suc n) zero (b ∷ s) h k = absurd (omega arith)
said-same (suc n) (suc m) [] h k = nothing-said n ∙ sym (nothing-said m)
said-same (suc n) (suc m) (b ∷ s) h k = ap (λ (said : Option (List ℕ)). option_or (meta_label (b ∷ s)) said) (said-same n m (drop 1 (item_end (b ∷ s))) (omega (arith, step-lt b s)) (omega (arith, step-lt b s)))

pub value-wide : (n : ℕ) (word tag : List ℕ) → length tag ≤ n → value_among n word (after Gap tag) ≡ value_at word tag
value-wide n word tag h = values-same n (length tag) word (after Gap tag) (omega (arith, after-le Gap tag)) (after-le Gap tag)

pub end-wide : (n : ℕ) (tag : List ℕ) → length tag ≤ n → after_attributes n (after Gap tag) ≡ tag_end tag
end-wide n tag h = ends-same n (length tag) (after Gap tag) (omega (arith, after-le Gap tag)) (after-le Gap tag)

pub said-wide : (n : ℕ) (page : List ℕ) → length page ≤ n → said_within n page ≡ prescanned page
said-wide n page h = said-same n (length page) page h (omega arith)

pub ruleset wide = (value-wide, end-wide, said-wide)
