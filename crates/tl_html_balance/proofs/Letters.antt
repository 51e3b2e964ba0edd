-- The rows of a name's first letter hold all that the rows say of it.
use Rattle.std.proofs.Common.{◌≡◌, ◌≢◌, ℕ, zero, suc, ◌+◌, ◌-◌, ◌<◌, ◌≤◌, nat_le, length, map, get_or, slice_get, Some, None, inl, inr, Bool, true, false, ◌&&◌, ◌==◌, List, [], ◌∷◌, ◌++◌, refl, ap, sym, ◌∙◌, arith, if◌then◌else◌}
use Rattle.std.specs.Borrow.{Bor}
use Rattle.std.specs.Char.{is_ascii_lowercase}
use Rattle.std.specs.Str.{bytes_eq}
use Rattle.std.proofs.lemmas.Bool.{and_cases, and_parts, cases_Bool, eqb-true, leb-false, leb-true, ne_eqb, false≢true}
use Rattle.tl_html_balance.specs.Classes.{Row, classes_in, classes_of, group_at, groups, joined, plain, rows_at}

abbrev begins_with : ℕ → List ℕ → Bool
begins_with c [] = false
begins_with c (b ∷ name) = b == c

abbrev all_begin_with : ℕ → List Row → Bool
all_begin_with c [] = true
all_begin_with c (row ∷ rows) = begins_with c row.0 && all_begin_with c rows

-- each group of rows has the letter after that of the one before
abbrev in_order : ℕ → List (List Row) → Bool
in_order c [] = true
in_order c (rows ∷ more) = all_begin_with c rows && in_order (suc c) more

another_letter : (c b : ℕ) (name word : List ℕ) → begins_with c word ≡ true → b ≢ c → bytes_eq (b ∷ name) word ≡ false
another_letter c b name [] h ne = absurd (false≢true h)
another_letter c b name (d ∷ word) h ne =
    ap (λ (v : Bool). v && bytes_eq name word) (ne_eqb b d (λ e. ne (e ∙ eqb-true d c h)))

-- rows of another letter say nothing
skipped : (c b : ℕ) (name : List ℕ) (rows more : List Row) → all_begin_with c rows ≡ true → b ≢ c → classes_in (rows ++ more) (b ∷ name) ≡ classes_in more (b ∷ name)
skipped c b name [] more h ne = refl
skipped c b name (row ∷ rows) more h ne =
    let here = and_parts (begins_with c row.0) (all_begin_with c rows) h in
    ap (λ (v : Bool). if v then row.1 else classes_in (rows ++ more) (b ∷ name)) (another_letter c b name row.0 here.0 ne)
    ∙ skipped c b name rows more here.1 ne

none_past : (c b : ℕ) (name : List ℕ) (gs : List (List Row)) → in_order c gs ≡ true → b < c → classes_in (joined gs) (b ∷ name) ≡ 0
none_past c b name [] h lt = refl
none_past c b name (rows ∷ gs) h lt =
    let here = and_parts (all_begin_with c rows) (in_order (suc c) gs) h in
    skipped c b name rows (joined gs) here.0 (omega arith) ∙ none_past (suc c) b name gs here.1 (omega arith)

-- what none of the later rows knows
first_rows : (name : List ℕ) (rows more : List Row) → classes_in more name ≡ 0 → classes_in (rows ++ more) name ≡ classes_in rows name
first_rows name [] more h = h
first_rows name (row ∷ rows) more h =
    ap (λ n. if bytes_eq name row.0 then row.1 else n) (first_rows name rows more h)

at_letter : (c b i : ℕ) (name : List ℕ) (gs : List (List Row)) → in_order c gs ≡ true → b ≡ c + i → classes_in (joined gs) (b ∷ name) ≡ classes_in (group_at gs i) (b ∷ name)
at_letter c b i name [] h e = refl
at_letter c b zero name (rows ∷ gs) h e =
    let here = and_parts (all_begin_with c rows) (in_order (suc c) gs) h in
    first_rows (b ∷ name) rows (joined gs) (none_past (suc c) b name gs here.1 (omega arith))
at_letter c b (suc i) name (rows ∷ gs) h e =
    let here = and_parts (all_begin_with c rows) (in_order (suc c) gs) h in
    skipped c b name rows (joined gs) here.0 (omega arith) ∙ at_letter (suc c) b i name gs here.1 (omega arith)

rows_in_order : in_order 97 groups ≡ true
rows_in_order = refl

none_past_end : (i : ℕ) (name : List ℕ) (gs : List (List Row)) → length gs ≤ i → classes_in (group_at gs i) name ≡ 0
none_past_end i name [] h = refl
none_past_end zero name (rows ∷ gs) h = absurd (omega arith)
none_past_end (suc i) name (rows ∷ gs) h = none_past_end i name gs (omega arith)

outside : (b : ℕ) (name : List ℕ) → is_ascii_lowercase b ≡ false → classes_in (joined groups) (b ∷ name) ≡ 0
outside b name h =
    elim (and_cases (nat_le 97 b) (nat_le b 122) h) [
      | inl low ↦ none_past 97 b name groups rows_in_order (leb-false 97 b low)
      | inr high ↦ (
          let above : 122 < b = leb-false b 122 high in
          let i : ℕ = b - 97 in
          let e : b ≡ 97 + i = omega arith in
          let past : 26 ≤ i = omega arith in
          at_letter 97 b i name groups rows_in_order e ∙ none_past_end i (b ∷ name) groups past)
    ]

inside : (b : ℕ) (name : List ℕ) → is_ascii_lowercase b ≡ true → classes_in (joined groups) (b ∷ name) ≡ classes_in (group_at groups (b - 97)) (b ∷ name)
inside b name h =
    let low : 97 ≤ b = leb-true 97 b (and_parts (nat_le 97 b) (nat_le b 122) h).0 in
    at_letter 97 b (b - 97) name groups rows_in_order (omega arith)

pub at_first_letter : (b : ℕ) (name : List ℕ) → classes_of (b ∷ name) ≡ classes_in (rows_at b) (b ∷ name)
unfolding classes_of rows_at
at_first_letter b name =
    elim (cases_Bool (is_ascii_lowercase b)) [
      | inl h ↦ inside b name h ∙ sym (ap (λ (v : Bool). classes_in (if v then group_at groups (b - 97) else []) (b ∷ name)) h)
      | inr h ↦ outside b name h ∙ sym (ap (λ (v : Bool). classes_in (if v then group_at groups (b - 97) else []) (b ∷ name)) h)
    ]

pub of_no_letter : classes_of [] ≡ 0
unfolding classes_of
of_no_letter = refl

pub rows-inside : (b i : ℕ) (rows : List Row) → rows ≡ group_at groups i → i ≡ b - 97 → is_ascii_lowercase b ≡ true → rows ≡ rows_at b
unfolding rows_at
rows-inside b i rows e at h =
    e ∙ ap (λ n. group_at groups n) at ∙ sym (ap (λ (v : Bool). if v then group_at groups (b - 97) else []) h)

pub rows-outside : (b : ℕ) → is_ascii_lowercase b ≡ false → [] ≡ rows_at b
unfolding rows_at
rows-outside b h = sym (ap (λ (v : Bool). if v then group_at groups (b - 97) else []) h)

pub by_first : (name : List ℕ) (letter : ℕ) → Some letter ≡ slice_get name 0 → classes_in (rows_at letter) name ≡ classes_of name
by_first [] letter e = absurd (cc)
by_first (b ∷ name) letter e =
    let same : letter ≡ b = cc in
    ap (λ c. classes_in (rows_at c) (b ∷ name)) same ∙ sym (at_first_letter b name)

pub by_none : (name : List ℕ) → None ≡ slice_get name 0 → 0 ≡ classes_of name
by_none [] e = sym of_no_letter
by_none (b ∷ name) e = absurd (cc)

abbrev pub Groups : Type 0
Groups = List (Bor (List (Bor (List ℕ) × ℕ)))

pub at_place : (gs : Groups) (i : ℕ) (found : Bor (List (Bor (List ℕ) × ℕ))) → i < length gs → found ≡ get_or gs i found → plain found.now ≡ group_at (map (λ rows. plain rows.now) gs) i
at_place [] i found h e = absurd (omega arith)
at_place (rows ∷ gs) zero found h e = ap (λ (r : Bor (List (Bor (List ℕ) × ℕ))). plain r.now) e
at_place (rows ∷ gs) (suc i) found h e = at_place gs i found (omega arith) e

pub at_no_place : (gs : Groups) (i : ℕ) → length gs ≤ i → [] ≡ group_at (map (λ rows. plain rows.now) gs) i
at_no_place [] i h = refl
at_no_place (rows ∷ gs) zero h = absurd (omega arith)
at_no_place (rows ∷ gs) (suc i) h = at_no_place gs i (omega arith)
