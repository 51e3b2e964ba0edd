-- What references give holds no NUL.
use Rattle.std.proofs.Common.{Bool, List, None, Option, Some, [], ap, arith, codes, cond, drop, false, if◌then◌else◌, inl, inr, length, nat_lt, not, refl, subst, suc, sym, true, zero, ℕ, ◌&&◌, ◌+◌, ◌++◌, ◌==◌, ◌∙◌, ◌≡◌, ◌∷◌, ◌||◌}
use Rattle.std.specs.Prelude.{take_while}
use Rattle.std.specs.Char.{encode_utf8}
use Rattle.std.specs.List.{list_all, prefix_len, starts_with}
use Rattle.std.proofs.lemmas.Bool.{and_from, and_parts, cases_Bool, cond_both, ne_eqb}
use Rattle.std.proofs.lemmas.List.Sums.{take_while-cons}
use Rattle.tl_html_print.proofs.Reread.{neither-two}
use lib.Dec.{ltb}
use Rattle.tl_names.specs.References.{table_of}
use Rattle.tl_html_spec.specs.References.{Reference, Row, first_row, is_left, is_no_character, named, named_reference, named_value, not_equals, not_zero, number_value, resolved, rows, rows_within, windows_1252}

abbrev pub HasNoNul : List ℕ → Type 0
HasNoNul bytes = list_all not_zero bytes ≡ true

pub both_all : (p : ℕ → Bool) (w v : List ℕ) → list_all p w ≡ true → list_all p v ≡ true → list_all p (w ++ v) ≡ true
both_all p [] v h k = k
both_all p (b ∷ w) v h k = let q = and_parts (p b) (list_all p w) h in and_from _ _ q.0 (both_all p w v q.1 k)

pub drop_all : (p : ℕ → Bool) (n : ℕ) (w : List ℕ) → list_all p w ≡ true → list_all p (drop n w) ≡ true
drop_all p zero w h = h
drop_all p (suc n) [] h = refl
drop_all p (suc n) (b ∷ w) h = drop_all p n w (and_parts (p b) (list_all p w) h).1

-- names

taken : (w : List ℕ) → HasNoNul (take_while not_zero w)
taken [] = refl
taken (b ∷ w) = elim (cases_Bool (not_zero b)) [
  | inl y ↦ subst HasNoNul (sym (take_while-cons not_zero b w ∙ ap (λ v. cond v (b ∷ take_while not_zero w) []) y)) (and_from _ _ y (taken w))
  | inr n ↦ subst HasNoNul (sym (take_while-cons not_zero b w ∙ ap (λ v. cond v (b ∷ take_while not_zero w) []) n)) refl
]

abbrev Each : List Row → Type 0
Each rows = list_all (λ (row : Row). list_all not_zero row.1) rows ≡ true

each_within : (n : ℕ) (table : List ℕ) → Each (rows_within n table)
each_within zero table = refl
each_within (suc n) [] = refl
each_within (suc n) (b ∷ table) =
    let value = drop (suc (prefix_len not_equals (b ∷ table))) (b ∷ table) in
    and_from _ _ (taken value) (each_within n (drop (suc (prefix_len not_zero value)) value))

first_kept : (rows : List Row) (letters : List ℕ) (row : Row) → Each rows → first_row rows letters ≡ Some row → HasNoNul row.1
first_kept [] letters row h e = absurd (cc)
first_kept (r ∷ rows) letters row h e =
    let p = and_parts (list_all not_zero r.1) (list_all (λ (row : Row). list_all not_zero row.1) rows) h in
    elim (cases_Bool (starts_with ◌==◌ letters r.0)) [
      | inl y ↦ (
          let one : Some r ≡ Some row = rw y at e in
          let is : r ≡ row = cc in
          subst (λ (x : Row). HasNoNul x.1) is p.0)
      | inr n ↦ first_kept rows letters row p.1 (rw n at e)
    ]

named_kept : (s : List ℕ) (row : Row) → named s ≡ Some row → HasNoNul row.1
named_kept [] row e = absurd (cc)
named_kept (b ∷ s) row e = first_kept (rows (table_of b)) (b ∷ s) row (each_within (length (table_of b)) (table_of b)) e

Gives : Option Reference → Type 0
Gives o = (r : Reference) → o ≡ Some r → HasNoNul r.gives

no_gift : Gives None
unfolding Gives
no_gift r e = absurd (cc)

one_gift : (r : Reference) → HasNoNul r.gives → Gives (Some r)
unfolding Gives
one_gift r h s e = let is : r ≡ s = cc in subst (λ (x : Reference). HasNoNul x.gives) is h

reference_gives : (v : Bool) (s : List ℕ) → Gives (named_reference v s)
reference_gives v s = of_row (named s) (named_kept s)
  where
    of_row : (o : Option Row) → ((row : Row) → o ≡ Some row → HasNoNul row.1) → Gives (elim o as (λ _. Option Reference) [
      | None ↦ None
      | Some row ↦
          if v && is_left row.0 (drop (length row.0) s) then None
          else Some (record { gives = row.1; takes = length row.0 })
    ])
    of_row None h = no_gift
    of_row (Some row) h =
        cond_both (v && is_left row.0 (drop (length row.0) s)) None (Some (record { gives = row.1; takes = length row.0 })) Gives
        (λ _. no_gift) (λ _. one_gift (record { gives = row.1; takes = length row.0 }) (h row refl))

resolved_kept : (o : Option Reference) (bytes : List ℕ) → HasNoNul bytes → Gives o → HasNoNul (resolved o bytes)
unfolding Gives
resolved_kept None bytes h g = both_all not_zero (codes "&") bytes refl h
resolved_kept (Some r) bytes h g = both_all not_zero r.gives (drop r.takes bytes) (g r refl) (drop_all not_zero r.takes bytes h)

pub named_has_none : (v : Bool) (letters after : List ℕ) → HasNoNul letters → HasNoNul (named_value v letters after)
named_has_none v letters after h = resolved_kept (named_reference v (letters ++ after)) letters h (reference_gives v (letters ++ after))

-- numbers

over : (n m : ℕ) → not_zero (suc n + m) ≡ true
over n m = ap not (ne_eqb (suc n + m) 0 (λ e. omega (arith, e)))

record Plain (w : List ℕ) : Type 0 where
  has_none : HasNoNul w

either : (v : Bool) (x y : List ℕ) → Plain x → Plain y → Plain (cond v x y)
either true x y h k = h
either false x y h k = k

lead : (n m : ℕ) (w : List ℕ) → Plain w → Plain ((suc n + m) ∷ w)
lead n m w h = record { has_none = and_from _ _ (over n m) h.has_none }

nothing : Plain []
nothing = record { has_none = refl }

encoded : (c : ℕ) → (c == 0) ≡ false → Plain (encode_utf8 c)
unfolding encode_utf8
encoded c z =
    either (ltb c 128) _ _ (record { has_none = and_from _ _ (ap not z) refl })
    (either (ltb c 2048) _ _ (lead 191 _ _ (lead 127 _ _ nothing))
    (either (ltb c 65536) _ _ (lead 223 _ _ (lead 127 _ _ (lead 127 _ _ nothing))) (lead 239 _ _ (lead 127 _ _ (lead 127 _ _ (lead 127 _ _ nothing))))))

record IsSet (c : ℕ) : Type 0 where
  is : (c == 0) ≡ false

or_else : (v : Bool) (x y : ℕ) → IsSet x → IsSet y → IsSet (if v then x else y)
or_else true x y h k = h
or_else false x y h k = k

windows_set : (c : ℕ) → IsSet c → IsSet (windows_1252 c)
windows_set c z =
    (or_else (c == 128) 8364 _ (record { is = refl })
    (or_else (c == 130) 8218 _ (record { is = refl })
    (or_else (c == 131) 402 _ (record { is = refl })
    (or_else (c == 132) 8222 _ (record { is = refl })
    (or_else (c == 133) 8230 _ (record { is = refl })
    (or_else (c == 134) 8224 _ (record { is = refl })
    (or_else (c == 135) 8225 _ (record { is = refl })
    (or_else (c == 136) 710 _ (record { is = refl })
    (or_else (c == 137) 8240 _ (record { is = refl })
    (or_else (c == 138) 352 _ (record { is = refl })
    (or_else (c == 139) 8249 _ (record { is = refl })
    (or_else (c == 140) 338 _ (record { is = refl })
    (or_else (c == 142) 381 _ (record { is = refl })
    (or_else (c == 145) 8216 _ (record { is = refl })
    (or_else (c == 146) 8217 _ (record { is = refl })
    (or_else (c == 147) 8220 _ (record { is = refl })
    (or_else (c == 148) 8221 _ (record { is = refl })
    (or_else (c == 149) 8226 _ (record { is = refl })
    (or_else (c == 150) 8211 _ (record { is = refl })
    (or_else (c == 151) 8212 _ (record { is = refl })
    (or_else (c == 152) 732 _ (record { is = refl })
    (or_else (c == 153) 8482 _ (record { is = refl })
    (or_else (c == 154) 353 _ (record { is = refl })
    (or_else (c == 155) 8250 _ (record { is = refl })
    (or_else (c == 156) 339 _ (record { is = refl })
    (or_else (c == 158) 382 _ (record { is = refl })
    (or_else (c == 159) 376 _ (record { is = refl }) z)))))))))))))))))))))))))))

pub number_has_none : (code : ℕ) → HasNoNul (number_value code)
number_has_none code =
    cond_both (is_no_character code) _ _ HasNoNul (λ _. (encoded 0xFFFD refl).has_none)
    (λ n. (encoded (windows_1252 code) (windows_set code (record { is = (neither-two (code == 0) _ (neither-two (code == 0 || nat_lt 0x10FFFF code) _ n).0).0 })).is).has_none)
