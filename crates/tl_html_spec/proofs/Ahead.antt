-- A name is looked for no further than the letters and digits after its `&`, and the `;` after them.
use Rattle.std.proofs.Common.{◌≡◌, ℕ, suc, ◌≤◌, Bool, true, false, ◌||◌, ◌&&◌, ◌==◌, List, [], ◌∷◌, ◌++◌, length, drop, Option, Some, None, ◌⊎◌, inl, inr, refl, ap, ap₂, sym, ◌∙◌, subst, arith, true≢false, if◌then◌else◌}
use Rattle.std.specs.Char.{is_ascii_alphanumeric}
use Rattle.std.specs.List.{list_all, starts_with}
use Rattle.std.proofs.lemmas.Bool.{and_parts, cases_Bool, eqb-true, false_from_ne_true}
use Rattle.tl_names.specs.References.{table_of}
use Rattle.tl_html_spec.specs.References.{Reference, Row, begins_with, ends_with_semicolon, first_row, is_left, named, named_reference, rows}
use Rattle.tl_html_spec.proofs.NameForms.{has_name, is_name, rows-named}

-- what a name may hold
abbrev pub is_name_byte : ℕ → Bool
is_name_byte b = is_ascii_alphanumeric b || (b == 59)

abbrev pub AreLetters : List ℕ → Type 0
AreLetters w = list_all is_ascii_alphanumeric w ≡ true

or_left : (a b : Bool) → a ≡ true → (a || b) ≡ true
or_left true b e = refl
or_left false b e = absurd (true≢false (sym e))

name-first : (b : ℕ) (n : List ℕ) → is_name (b ∷ n) ≡ true → is_name_byte b ≡ true
name-first b [] h = h
name-first b (c ∷ n) h = or_left (is_ascii_alphanumeric b) (b == 59) (and_parts (is_ascii_alphanumeric b) (is_name (c ∷ n)) h).0

name-rest : (b : ℕ) (n : List ℕ) → is_name (b ∷ n) ≡ true → is_name n ≡ true
name-rest b [] h = refl
name-rest b (c ∷ n) h = (and_parts (is_ascii_alphanumeric b) (is_name (c ∷ n)) h).1

-- two bytes that a test tells apart
pub apart : (test : ℕ → Bool) (b c : ℕ) → test b ≡ true → test c ≡ false → (b == c) ≡ false
apart test b c x y = false_from_ne_true (b == c) (λ e. true≢false (sym x ∙ ap test (eqb-true b c e) ∙ y))

-- no name stands where none begins
none-stands : (b : ℕ) (n t : List ℕ) → is_name (b ∷ n) ≡ true → begins_with is_name_byte t ≡ false → starts_with ◌==◌ t (b ∷ n) ≡ false
none-stands b n [] h fresh = refl
none-stands b n (c ∷ t) h fresh = rw (apart is_name_byte b c (name-first b n h) fresh) refl

-- after letters that end

pub letters-same : (w n t r : List ℕ) → is_name n ≡ true → begins_with is_name_byte t ≡ false → begins_with is_name_byte r ≡ false →
    starts_with ◌==◌ (w ++ t) n ≡ starts_with ◌==◌ (w ++ r) n
letters-same w [] t r h x y = refl
letters-same [] (b ∷ n) t r h x y = none-stands b n t h x ∙ sym (none-stands b n r h y)
letters-same (c ∷ w) (b ∷ n) t r h x y = ap (λ (e : Bool). (b == c) && e) (letters-same w n t r (name-rest b n h) x y)

pub letters-within : (w n t : List ℕ) → is_name n ≡ true → begins_with is_name_byte t ≡ false → starts_with ◌==◌ (w ++ t) n ≡ true → length n ≤ length w
letters-within w [] t h x e = omega arith
letters-within [] (b ∷ n) t h x e = absurd (true≢false (sym e ∙ none-stands b n t h x))
letters-within (c ∷ w) (b ∷ n) t h x e =
    let more = letters-within w n t (name-rest b n h) x (and_parts (b == c) (starts_with ◌==◌ (w ++ t) n) e).1 in omega arith

-- after letters and a `;`

pub semicolon-same : (w n t : List ℕ) → is_name n ≡ true → starts_with ◌==◌ (w ++ 59 ∷ t) n ≡ starts_with ◌==◌ (w ++ 59 ∷ []) n
semicolon-same w [] t h = refl
semicolon-same [] (b ∷ []) t h = refl
semicolon-same [] (b ∷ c ∷ n) t h = rw (apart is_ascii_alphanumeric b 59 (and_parts (is_ascii_alphanumeric b) (is_name (c ∷ n)) h).0 refl) refl
semicolon-same (c ∷ w) (b ∷ n) t h = ap (λ (e : Bool). (b == c) && e) (semicolon-same w n t (name-rest b n h))

ends-more : (b : ℕ) (n : List ℕ) → ends_with_semicolon n ≡ true → ends_with_semicolon (b ∷ n) ≡ true
ends-more b [] e = absurd (true≢false (sym e))
ends-more b (c ∷ n) e = e

pub semicolon-within : (w n t : List ℕ) → is_name n ≡ true → starts_with ◌==◌ (w ++ 59 ∷ t) n ≡ true →
    (length n ≤ length w) ⊎ ((ends_with_semicolon n ≡ true) × (length n ≡ suc (length w)))
semicolon-within w [] t h e = inl (omega arith)
semicolon-within [] (b ∷ []) t h e = inr ((and_parts (b == 59) true e).0, refl)
semicolon-within [] (b ∷ c ∷ n) t h e =
    absurd (true≢false (sym (and_parts (b == 59) (starts_with ◌==◌ t (c ∷ n)) e).0 ∙ apart is_ascii_alphanumeric b 59 (and_parts (is_ascii_alphanumeric b) (is_name (c ∷ n)) h).0 refl))
semicolon-within (c ∷ w) (b ∷ n) t h e =
    elim (semicolon-within w n t (name-rest b n h) (and_parts (b == c) (starts_with ◌==◌ (w ++ 59 ∷ t) n) e).1) [
      | inl k ↦ inl (omega arith)
      | inr k ↦ inr (ends-more b n k.0, omega arith)
    ]

-- the first row

pub first-same : (rs : List Row) (s t : List ℕ) → list_all has_name rs ≡ true →
    ((n : List ℕ) → is_name n ≡ true → starts_with ◌==◌ s n ≡ starts_with ◌==◌ t n) → first_row rs s ≡ first_row rs t
first-same [] s t h same = refl
first-same (row ∷ rs) s t h same =
    let here = and_parts (has_name row) (list_all has_name rs) h in
    ap₂ (λ (b : Bool) (o : Option Row). if b then Some row else o) (same row.0 here.0) (first-same rs s t here.1 same)

abbrev Stands : List ℕ → Row → Type 0
Stands s row = (is_name row.0 ≡ true) × (starts_with ◌==◌ s row.0 ≡ true)

first-stands : (rs : List Row) (s : List ℕ) (row : Row) → list_all has_name rs ≡ true → first_row rs s ≡ Some row → Stands s row
first-stands [] s row h e = cc
first-stands (q ∷ rs) s row h e =
    let here = and_parts (has_name q) (list_all has_name rs) h in
    elim (cases_Bool (starts_with ◌==◌ s q.0)) [
      | inl y ↦
          let is : Some q ≡ Some row = sym (ap (λ (b : Bool). if b then Some q else first_row rs s) y) ∙ e in
          let same : q ≡ row = cc in
          subst (Stands s) same (here.0, y)
      | inr y ↦ first-stands rs s row here.1 (sym (ap (λ (b : Bool). if b then Some q else first_row rs s) y) ∙ e)
    ]

-- a reference by its name

abbrev of_row : Bool → List ℕ → Option Row → Option Reference
of_row v s o =
    elim o as (λ _. Option Reference) [
      | None ↦ None
      | Some row ↦
          if v && is_left row.0 (drop (length row.0) s) then None
          else Some (record { gives = row.1; takes = length row.0 })
    ]

abbrev pub IsWithin : Option Reference → List ℕ → Type 0
IsWithin o u = (r : Reference) → o ≡ Some r → r.takes ≤ length u

-- two texts that begin with the same letters, and are alike to names
pub record Alike (u t r : List ℕ) : Type 0 where
  pub same : (n : List ℕ) → is_name n ≡ true → starts_with ◌==◌ (u ++ t) n ≡ starts_with ◌==◌ (u ++ r) n
  pub within : (n : List ℕ) → is_name n ≡ true → starts_with ◌==◌ (u ++ t) n ≡ true →
      (length n ≤ length u) × (is_left n (drop (length n) (u ++ t)) ≡ is_left n (drop (length n) (u ++ r)))

of-row-same : (v : Bool) (u t r : List ℕ) → Alike u t r → (o : Option Row) → ((row : Row) → o ≡ Some row → Stands (u ++ t) row) →
    of_row v (u ++ t) o ≡ of_row v (u ++ r) o
of-row-same v u t r alike None stands = refl
of-row-same v u t r alike (Some row) stands =
    let h = stands row refl in
    ap (λ (b : Bool). let o : Option Reference = if v && b then None else Some (record { gives = row.1; takes = length row.0 }) in o) (alike.within row.0 h.0 h.1).1

of-row-within : (v : Bool) (u t r : List ℕ) → Alike u t r → (o : Option Row) → ((row : Row) → o ≡ Some row → Stands (u ++ t) row) →
    IsWithin (of_row v (u ++ t) o) u
of-row-within v u t r alike None stands q e = cc
of-row-within v u t r alike (Some row) stands q e =
    let h = stands row refl in
    let short = (alike.within row.0 h.0 h.1).0 in
    here (v && is_left row.0 (drop (length row.0) (u ++ t))) e short
  where
    here : (b : Bool) → (if b then None else Some (record { gives = row.1; takes = length row.0 })) ≡ Some q → length row.0 ≤ length u → q.takes ≤ length u
    here true e short = cc
    here false e short = let is : length row.0 ≡ q.takes = cc in subst (λ n. n ≤ length u) is short

pub named-same : (v : Bool) (c : ℕ) (u t r : List ℕ) → Alike (c ∷ u) t r → named_reference v ((c ∷ u) ++ t) ≡ named_reference v ((c ∷ u) ++ r)
named-same v c u t r alike =
    of-row-same v (c ∷ u) t r alike (named ((c ∷ u) ++ t)) (λ row e. first-stands (rows (table_of c)) ((c ∷ u) ++ t) row (rows-named c) e)
    ∙ ap (of_row v ((c ∷ u) ++ r)) (first-same (rows (table_of c)) ((c ∷ u) ++ t) ((c ∷ u) ++ r) (rows-named c) alike.same)

pub named-within : (v : Bool) (c : ℕ) (u t r : List ℕ) → Alike (c ∷ u) t r → IsWithin (named_reference v ((c ∷ u) ++ t)) (c ∷ u)
named-within v c u t r alike =
    of-row-within v (c ∷ u) t r alike (named ((c ∷ u) ++ t)) (λ row e. first-stands (rows (table_of c)) ((c ∷ u) ++ t) row (rows-named c) e)
