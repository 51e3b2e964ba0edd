-- Tables as JSON: what is too long so far is too long as a whole.
use Rattle.json.proofs.Printed.Tokens.{print_from-append}
use Rattle.json.specs.Print.{ends, print, print_from, separator, token_text}
use Rattle.json.specs.Token.{Token, end_array, end_object, string}
use Rattle.std.proofs.Common.{Bool, List, None, Option, Some, [], ap, append-nil, append_assoc, arith, false, inl, inr, length, length-append, refl, subst, suc, sym, zero, ℕ, ◌*◌, ◌+◌, ◌++◌, ◌<◌, ◌∙◌, ◌≡◌, ◌≤◌, ◌∷◌}
use Rattle.std.proofs.Math.Nat.{eq-or-lt_of_le}
use Rattle.std.specs.Prelude.{fold}
use Rattle.std.specs.Str.Lossy.{utf8_lossy}
use Rattle.tl_tree.specs.Rows.{Row}
use Rattle.tl_tree_extract.proofs.Sinks.{after_both}
use Rattle.tl_tree_extract.specs.Inner.Sinks.{IsOver, after, text_taken}
use Rattle.tl_tree_extract.specs.Sheet.{slot_words}
use Rattle.tl_tree_extract.specs.SheetJson.{array_of_rows, row_array, row_arrays, slot_strings, table_line, with_file}
use Rattle.tl_tree_extract.specs.Table.{TableModel, table_of}
use Rattle.tl_tree_extract.specs.declared.sheet.Spans.{Spans}

abbrev Taken : Type 0
Taken = List Token → List ℕ × List Token

-- More tokens are no shorter

print_longer : (a : Bool) (ts us : List Token) → length (print_from a ts) ≤ length (print_from a (ts ++ us))
print_longer a ts us =
    let whole = ap (λ (v : List ℕ). length v) (print_from-append a ts us)
    ∙ length-append (print_from a ts) (print_from (fold (λ _ u. ends u) a ts) us) in
    omega (arith, whole)

over_more : (most : ℕ) (o : List ℕ) (a : Bool) (ts us : List Token) → IsOver most (after ts (text_taken o a)) → IsOver most (after (ts ++ us) (text_taken o a))
unfolding after
over_more most o a ts us over =
    let short = ap (λ (v : List Token). length (print_from a v)) (append-nil ts) in
    let long = ap (λ (v : List Token). length (print_from a v)) (append-nil (ts ++ us)) in
    let more = print_longer a ts us in
    let here = length-append o (print_from a (ts ++ [])) in
    let whole = length-append o (print_from a ((ts ++ us) ++ [])) in
    omega (arith, over, short, long, more, here, whole)

-- what is too long once these are taken
pub over_taken : (most : ℕ) (o n : List ℕ) (a b : Bool) (ts : List Token) → text_taken n b ≡ after ts (text_taken o a) → most < length n
    → IsOver most (after ts (text_taken o a))
unfolding after print_from
over_taken most o n a b ts e over =
    let same : length n ≡ length (n ++ []) = ap (λ (v : List ℕ). length v) (sym (append-nil n)) in
    let now : most < length (n ++ []) = omega (arith, same, over) in
    subst (λ (x : Taken). IsOver most x) e now

-- what is too long behind some tokens
pub over_behind : (most : ℕ) (o : List ℕ) (a : Bool) (mid : Taken) (before own : List Token) → mid ≡ after before (text_taken o a) → IsOver most (after own mid)
    → IsOver most (after (before ++ own) (text_taken o a))
over_behind most o a mid before own e over =
    subst (λ (x : Taken). IsOver most x) (ap (after own) e ∙ after_both before own (text_taken o a)) over

-- and before others
pub over_between : (most : ℕ) (o : List ℕ) (a : Bool) (mid : Taken) (before own behind : List Token) → mid ≡ after before (text_taken o a) → IsOver most (after own mid)
    → IsOver most (after (before ++ (own ++ behind)) (text_taken o a))
over_between most o a mid before own behind e over =
    subst (λ (ts : List Token). IsOver most (after ts (text_taken o a))) (append_assoc before own behind)
    (over_more most o a (before ++ own) behind (over_behind most o a mid before own e over))

-- Tokens that grow by some for each number

module _ (f g : ℕ → List Token) (grow : (n : ℕ) → f (suc n) ≡ f n ++ g n) where
  rest_of : (m n : ℕ) → m ≤ n → (rest : List Token) × (f n ≡ f m ++ rest)
  rest_of m zero le =
      let none : m ≡ 0 = omega (arith, le) in
      ([], ap f (sym none) ∙ sym (append-nil (f m)))
  rest_of m (suc n) le =
      elim (eq-or-lt_of_le le) as (λ _. (rest : List Token) × (f (suc n) ≡ f m ++ rest)) [
        | inl e ↦ ([], ap f (sym e) ∙ sym (append-nil (f m)))
        | inr lt ↦
            (let before = rest_of m n (omega (arith, lt)) in
            (before.0 ++ g n, grow n ∙ ap (λ (v : List Token). v ++ g n) before.1 ∙ append_assoc (f m) before.0 (g n)))
      ]

  -- what is too long with so many is so with more
  pub over_later : (most : ℕ) (o : List ℕ) (a : Bool) (m n : ℕ) → m ≤ n → IsOver most (after (f m) (text_taken o a)) → IsOver most (after (f n) (text_taken o a))
  over_later most o a m n le over =
      let rest = rest_of m n le in
      subst (λ (ts : List Token). IsOver most (after ts (text_taken o a))) (sym rest.1) (over_more most o a (f m) rest.0 over)

-- Each slot takes a byte at least

texts : List Token → ℕ
texts [] = 0
texts (t ∷ ts) = length (token_text t) + texts ts

texts-append : (ts us : List Token) → texts (ts ++ us) ≡ texts ts + texts us
unfolding texts
texts-append [] us = omega arith
texts-append (t ∷ ts) us = let more = texts-append ts us in omega (arith, more)

print_long : (a : Bool) (ts : List Token) → texts ts ≤ length (print_from a ts)
unfolding texts print_from
print_long a [] = omega arith
print_long a (t ∷ ts) =
    let more = print_long (ends t) ts in
    let own = length-append (token_text t) (print_from (ends t) ts) in
    let behind = length-append (separator a t) (token_text t ++ print_from (ends t) ts) in
    omega (arith, more, own, behind)

module _ (spans : Spans) (rows : List Row) (t : TableModel) where
  slots_long : (row n : ℕ) → n ≤ texts (slot_strings spans rows t row n)
  unfolding texts
  slots_long row zero = omega arith
  slots_long row (suc n) =
      let before = slots_long row n in
      let whole = texts-append (slot_strings spans rows t row n) (string (utf8_lossy (slot_words spans rows t n row)) ∷ []) in
      omega (arith, before, whole)

  row_long : (row : ℕ) → t.width ≤ texts (row_array spans rows t row)
  unfolding texts
  row_long row =
      let own = slots_long row t.width in
      let whole = texts-append (slot_strings spans rows t row t.width) (end_array ∷ []) in
      omega (arith, own, whole)

  rows_long : (n : ℕ) → n * t.width ≤ texts (row_arrays spans rows t n)
  unfolding texts
  rows_long zero = omega arith
  rows_long (suc n) =
      let before = rows_long n in
      let own = row_long n in
      let whole = texts-append (row_arrays spans rows t n) (row_array spans rows t n) in
      omega (arith, before, own, whole)

  array_long : length t.rows * t.width ≤ texts (array_of_rows spans rows t)
  unfolding texts
  array_long =
      let own = rows_long (length t.rows) in
      let whole = texts-append (row_arrays spans rows t (length t.rows)) (end_array ∷ []) in
      omega (arith, own, whole)

named_long : (file : Option (List ℕ)) (ts : List Token) → texts ts ≤ texts (with_file file ts)
unfolding texts
named_long None ts = omega arith
named_long (Some name) ts = let whole = texts-append ts (end_object ∷ []) in omega (arith, whole)

-- Lines

-- a byte for each slot
pub line_over : (file : Option (List ℕ)) (spans : Spans) (rows : List Row) (table limit : ℕ) → limit < length (table_of rows table).rows * (table_of rows table).width
    → limit < length (table_line file spans rows table)
line_over file spans rows table limit over =
    let t = table_of rows table in
    let ts : List Token = array_of_rows spans rows t in
    let own = array_long spans rows t in
    let named = named_long file ts in
    let printed = print_long false (with_file file ts) in
    let whole = length-append (print (with_file file ts)) (10 ∷ []) in
    omega (arith, over, own, named, printed, whole)

-- its tokens are too long behind what stood there
pub tokens_over : (start most : ℕ) (o : List ℕ) (a : Bool) (ts : List Token) → start ≡ length o → a ≡ false → IsOver (start + most) (after ts (text_taken o a))
    → most < length (print ts ++ 10 ∷ [])
unfolding after
tokens_over start most o a ts begun first over =
    let told : start + most < length (o ++ print_from false (ts ++ [])) = subst (λ (v : Bool). start + most < length (o ++ print_from v (ts ++ []))) first over in
    let here = length-append o (print_from false (ts ++ [])) in
    let same = ap (λ (v : List Token). length (print_from false v)) (append-nil ts) in
    let whole = length-append (print ts) (10 ∷ []) in
    omega (arith, begun, told, here, same, whole)

-- One slot more, and one row

module _ (spans : Spans) (rows : List Row) (t : TableModel) where
  pub slot_more : (row n : ℕ) (words : List ℕ) (x y z : Taken) → words ≡ slot_words spans rows t n row → y ≡ after (slot_strings spans rows t row n) x
      → z ≡ after (string (utf8_lossy words) ∷ []) y → z ≡ after (slot_strings spans rows t row (n + 1)) x
  slot_more row n words x y z said before own =
      let next : n + 1 ≡ suc n = omega arith in
      let here : z ≡ after (slot_strings spans rows t row n ++ string (utf8_lossy words) ∷ []) x =
      own ∙ ap (after (string (utf8_lossy words) ∷ [])) before ∙ after_both (slot_strings spans rows t row n) (string (utf8_lossy words) ∷ []) x in
      here
      ∙ ap (λ (w : List ℕ). after (slot_strings spans rows t row n ++ string (utf8_lossy w) ∷ []) x) said
      ∙ ap (λ (k : ℕ). after (slot_strings spans rows t row k) x) (sym next)

  pub slots_over : (most : ℕ) (o : List ℕ) (a : Bool) (row m n : ℕ) → m ≤ n → IsOver most (after (slot_strings spans rows t row m) (text_taken o a))
      → IsOver most (after (slot_strings spans rows t row n) (text_taken o a))
  slots_over most o a row m n le over =
      over_later (slot_strings spans rows t row) (λ k. string (utf8_lossy (slot_words spans rows t k row)) ∷ []) (λ k. refl) most o a m n le over

  pub row_more : (n : ℕ) (x y z : Taken) → y ≡ after (row_arrays spans rows t n) x → z ≡ after (row_array spans rows t n) y → z ≡ after (row_arrays spans rows t (n + 1)) x
  row_more n x y z before own =
      let next : n + 1 ≡ suc n = omega arith in
      own
      ∙ ap (after (row_array spans rows t n)) before
      ∙ after_both (row_arrays spans rows t n) (row_array spans rows t n) x
      ∙ ap (λ (k : ℕ). after (row_arrays spans rows t k) x) (sym next)

  pub rows_over : (most : ℕ) (o : List ℕ) (a : Bool) (mid : Taken) (m n : ℕ) → suc m ≤ n → mid ≡ after (row_arrays spans rows t m) (text_taken o a)
      → IsOver most (after (row_array spans rows t m) mid) → IsOver most (after (row_arrays spans rows t n) (text_taken o a))
  rows_over most o a mid m n le before over =
      over_later (row_arrays spans rows t) (row_array spans rows t) (λ k. refl) most o a (suc m) n le
      (over_behind most o a mid (row_arrays spans rows t m) (row_array spans rows t m) before over)
