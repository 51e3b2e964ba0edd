-- Rows in the order of their names, the last first: which of them a text can't begin with.
use Rattle.std.proofs.Common.{slice_index_or, ◌≡◌, ◌⊎◌, ℕ, zero, suc, ◌+◌, ◌-◌, ◌<◌, ◌≤◌, Bool, true, false, not, Option, ◌==◌, ◌&&◌, nat_lt, List, [], ◌∷◌, length, take, drop, Some, refl, ap, sym, subst, ◌∙◌, inl, inr, true≢false, one-add, arith, if◌then◌else◌}
use Rattle.std.specs.List.{common_prefix_len, list_all, prefix_len, starts_with, take_while}
use Rattle.std.proofs.lemmas.Bool.{and_parts, cases_Bool, cases_lt, cases_order, eq-eqb, eqb-true, le-ltb, lt-ltb, ne_eqb}
use Rattle.std.proofs.lemmas.List.{drop-drop}
use Rattle.std.proofs.Math.Seq.{drop-nil}
use Rattle.tl_names.specs.References.{table_of}
use Rattle.tl_html_spec.specs.References.{Row, first_row, not_equals, not_zero, rows}
use Rattle.tl_text.specs.Inner.Order.{are_in_order, is_past, is_past_first}
use Rattle.tl_text.proofs.Rows.{later_in, row_in, row_later, rows-step, shorter}

-- the first bytes of two words decide, or are the same

past_same : (a b : ℕ) (n s : List ℕ) → a ≡ b → is_past (a ∷ n) (b ∷ s) ≡ is_past n s
past_same a b n s e = rw (eq-eqb a b e) refl

past_less : (a b : ℕ) (n s : List ℕ) → b < a → is_past (a ∷ n) (b ∷ s) ≡ true
past_less a b n s l = rw (ne_eqb a b (λ e. omega arith)) (lt-ltb b a l)

not_past_less : (a b : ℕ) (n s : List ℕ) → a < b → is_past (a ∷ n) (b ∷ s) ≡ false
not_past_less a b n s l = rw (ne_eqb a b (λ e. omega arith)) (le-ltb b a (omega arith))

past_parts : (a b : ℕ) (n s : List ℕ) → is_past (a ∷ n) (b ∷ s) ≡ true → ((a ≡ b) × (is_past n s ≡ true)) ⊎ (b < a)
past_parts a b n s e = elim (cases_order a b) [
  | inl same ↦ inl (same, sym (past_same a b n s same) ∙ e)
  | inr (inl less) ↦ absurd (true≢false (sym e ∙ not_past_less a b n s less))
  | inr (inr more) ↦ inr more
]

not_past_parts : (a b : ℕ) (n s : List ℕ) → is_past (a ∷ n) (b ∷ s) ≡ false → ((a ≡ b) × (is_past n s ≡ false)) ⊎ (a < b)
not_past_parts a b n s e = elim (cases_order a b) [
  | inl same ↦ inl (same, sym (past_same a b n s same) ∙ e)
  | inr (inl less) ↦ inr less
  | inr (inr more) ↦ absurd (true≢false (sym (past_less a b n s more) ∙ e))
]

-- where the first difference stands

pub past_all : (n s : List ℕ) → length n ≤ common_prefix_len ◌==◌ n s → is_past n s ≡ false
past_all [] s h = refl
past_all (a ∷ n) [] h = absurd (omega arith)
past_all (a ∷ n) (b ∷ s) h = elim (cases_Bool (a == b)) [
  | inl y ↦ (let more : suc (length n) ≤ suc (common_prefix_len ◌==◌ n s) = rw (y, one-add) at h in rw y (past_all n s (omega arith)))
  | inr differ ↦ (let none : suc (length n) ≤ 0 = rw differ at h in absurd (omega arith))
]

pub past_short : (n s : List ℕ) → common_prefix_len ◌==◌ n s < length n → common_prefix_len ◌==◌ n s ≡ length s → is_past n s ≡ true
past_short [] s h e = absurd (omega arith)
past_short (a ∷ n) [] h e = refl
past_short (a ∷ n) (b ∷ s) h e = elim (cases_Bool (a == b)) [
  | inl y ↦
      let more : suc (common_prefix_len ◌==◌ n s) < suc (length n) = rw (y, one-add) at h in
      let is : suc (common_prefix_len ◌==◌ n s) ≡ suc (length s) = rw (y, one-add) at e in
      rw y (past_short n s (omega arith) (omega arith))
  | inr differ ↦ (let none : 0 ≡ suc (length s) = rw differ at e in absurd (omega arith))
]

pub past_at : (n s : List ℕ) → common_prefix_len ◌==◌ n s < length n → common_prefix_len ◌==◌ n s < length s →
    is_past n s ≡ nat_lt (slice_index_or s (common_prefix_len ◌==◌ n s) 0) (slice_index_or n (common_prefix_len ◌==◌ n s) 0)
past_at [] s h k = absurd (omega arith)
past_at (a ∷ n) [] h k = absurd (omega arith)
past_at (a ∷ n) (b ∷ s) h k = elim (cases_Bool (a == b)) [
  | inl y ↦
      let more : suc (common_prefix_len ◌==◌ n s) < suc (length n) = rw (y, one-add) at h in
      let less : suc (common_prefix_len ◌==◌ n s) < suc (length s) = rw (y, one-add) at k in
      rw (y, one-add) (past_at n s (omega arith) (omega arith))
  | inr differ ↦ rw differ refl
]

pub common_none : (n : List ℕ) → common_prefix_len {X = ℕ} {Y = ℕ} ◌==◌ n [] ≡ 0
common_none [] = refl
common_none (a ∷ n) = refl

-- what begins with a name doesn't stand before it
pub past_unfit : (n s : List ℕ) → is_past n s ≡ true → starts_with ◌==◌ s n ≡ false
past_unfit [] s e = absurd (true≢false (sym e))
past_unfit (a ∷ n) [] e = refl
past_unfit (a ∷ n) (b ∷ s) e = elim (past_parts a b n s e) [
  | inl same ↦ rw (eq-eqb a b same.0) (past_unfit n s same.1)
  | inr more ↦ rw (ne_eqb a b (λ e. omega arith)) refl
]

pub past_trans : (n m s : List ℕ) → is_past n m ≡ true → is_past m s ≡ true → is_past n s ≡ true
past_trans [] m s e f = absurd (true≢false (sym e))
past_trans (a ∷ n) [] s e f = absurd (true≢false (sym f))
past_trans (a ∷ n) (c ∷ m) [] e f = refl
past_trans (a ∷ n) (c ∷ m) (b ∷ s) e f = elim (past_parts a c n m e) [
  | inl p ↦ elim (past_parts c b m s f) [
    | inl q ↦ past_same a b n s (p.0 ∙ q.0) ∙ past_trans n m s p.1 q.1
    | inr more ↦ past_less a b n s (let e = p.0 in omega arith)
  ]
  | inr less ↦ elim (past_parts c b m s f) [
    | inl q ↦ past_less a b n s (let e = q.0 in omega arith)
    | inr more ↦ past_less a b n s (omega arith)
  ]
]

-- of what stands behind a name no more counts than what it shares with the name, for those before
pub shared_counts : (n m s : List ℕ) → is_past n m ≡ true → is_past n s ≡ false → starts_with ◌==◌ s n ≡ false →
    starts_with ◌==◌ s m ≡ starts_with ◌==◌ (take (common_prefix_len ◌==◌ n s) s) m
shared_counts [] m s p q u = absurd (true≢false u)
shared_counts (a ∷ n) m [] p q u = absurd (true≢false q)
shared_counts (a ∷ n) [] (b ∷ s) p q u = refl
shared_counts (a ∷ n) (c ∷ m) (b ∷ s) p q u = elim (not_past_parts a b n s q) [
  | inl same ↦
      let yes : (a == b) ≡ true = eq-eqb a b same.0 in
      let v : starts_with ◌==◌ s n ≡ false = rw yes at u in
      elim (past_parts a c n m p) [
        | inl like ↦ rw (yes, one-add) (ap (λ x. (c == b) && x) (shared_counts n m s like.1 same.1 v))
        | inr more ↦ rw (yes, one-add, ne_eqb c b (λ e. let d = same.0 in omega arith)) refl
      ]
  | inr less ↦
      elim (past_parts a c n m p) [
        | inl like ↦ rw (ne_eqb a b (λ e. omega arith), ne_eqb c b (λ e. let d = like.0 in omega arith)) refl
        | inr more ↦ rw (ne_eqb a b (λ e. omega arith), ne_eqb c b (λ e. omega arith)) refl
      ]
]

first_trans : (n m : List ℕ) (rs : List Row) → is_past n m ≡ true → is_past_first m rs ≡ true → is_past_first n rs ≡ true
first_trans n m [] e f = refl
first_trans n m (r ∷ rs) e f = past_trans n m r.0 e f

-- the same of all rows behind one
pub rest_counts : (rs : List Row) (n s : List ℕ) → are_in_order rs ≡ true → is_past_first n rs ≡ true → is_past n s ≡ false → starts_with ◌==◌ s n ≡ false →
    first_row rs s ≡ first_row rs (take (common_prefix_len ◌==◌ n s) s)
rest_counts [] n s o p q u = refl
rest_counts (r ∷ rs) n s o p q u =
    let own = and_parts (list_all not_zero r.0 && is_past_first r.0 rs) (are_in_order rs) o in
    let two = and_parts (list_all not_zero r.0) (is_past_first r.0 rs) own.0 in
    let here = shared_counts n r.0 s p q u in
    let there = rest_counts rs n s own.1 (first_trans n r.0 rs p two.1) q u in
    ap (λ (v : Bool). if v then Some r else first_row rs s) here
    ∙ ap (λ (x : Option Row). if starts_with ◌==◌ (take (common_prefix_len ◌==◌ n s) s) r.0 then Some r else x) there

is_equals : (b : ℕ) → not_equals b ≡ false → b ≡ 61
is_equals b e = elim (cases_Bool (b == 61)) [
  | inl y ↦ eqb-true b 61 y
  | inr n ↦ absurd (true≢false (ap not (sym n) ∙ e))
]

-- a row ends with its first byte 0
to_end : (t : List ℕ) → list_all not_zero (take_while not_equals t) ≡ true → later_in t ≡ drop (suc (prefix_len not_zero t)) t
to_end [] e = refl
to_end (b ∷ t) e = elim (cases_Bool (not_equals b)) [
  | inl more ↦
      let parts = and_parts (not_zero b) (list_all not_zero (take_while not_equals t)) (rw (more, one-add) at e) in
      let rest = to_end t parts.1 in
      rw (more, one-add, parts.0, one-add) rest
  | inr last ↦
      let is : b ≡ 61 = is_equals b last in
      let own : not_zero b ≡ true = ap not_zero is in
      rw (last, own, one-add) refl
]

-- what stands behind the first byte 0 from a place on
abbrev pub behind : ℕ → List ℕ → List ℕ
behind k t = drop (suc (prefix_len not_zero (drop k t))) (drop k t)

in_first : (k : ℕ) (t : List ℕ) → k ≤ prefix_len not_zero t → behind k t ≡ drop (suc (prefix_len not_zero t)) t
in_first zero t h = refl
in_first (suc k) [] h = refl
in_first (suc k) (b ∷ t) h = elim (cases_Bool (not_zero b)) [
  | inl more ↦
      let less : suc k ≤ 1 + prefix_len not_zero t = rw more at h in
      let rest = in_first k t (omega arith) in
      rw (more, one-add) rest
  | inr end ↦ (let none : suc k ≤ 0 = rw end at h in absurd (omega arith))
]

in_later : (k : ℕ) (t : List ℕ) → prefix_len not_zero t < k → behind k t ≡ behind (k - suc (prefix_len not_zero t)) (drop (suc (prefix_len not_zero t)) t)
in_later k t h =
    let z : ℕ = prefix_len not_zero t in
    let sum : suc z + (k - suc z) ≡ k = omega arith in
    ap (λ (x : List ℕ). drop (suc (prefix_len not_zero x)) x) (sym (drop-drop (k - suc z) (suc z) t ∙ ap (λ j. drop j t) sum))

behind_none : (k : ℕ) → behind k [] ≡ []
behind_none k = rw (drop-nil k) refl

before_later : (name l s : List ℕ) → is_past_first name (rows l) ≡ true → is_past (row_in l).0 s ≡ true → is_past name s ≡ true
before_later name [] s e f = absurd (true≢false (sym f))
before_later name (c ∷ l) s e f = past_trans name (row_in (c ∷ l)).0 s (sym (ap (is_past_first name) (rows-step c l)) ∙ e) f

pub record Passed (t u s : List ℕ) : Type 0 where
  pub row : first_row (rows t) s ≡ first_row (rows u) s
  pub order : are_in_order (rows u) ≡ true
  pub front : is_past (row_in t).0 s ≡ true

pub passed : (n : ℕ) (t s : List ℕ) (k : ℕ) → length t ≤ n → are_in_order (rows t) ≡ true → is_past (row_in (behind k t)).0 s ≡ true → Passed t (behind k t) s
passed n [] s k h o e = let no : false ≡ true = rw (behind_none k) at e in absurd (true≢false (sym no))
passed zero (b ∷ t) s k h o e = absurd (omega arith)
passed (suc n) (b ∷ t) s k h o e =
    let less = shorter b t in
    let row : Row = row_in (b ∷ t) in
    let l : List ℕ = later_in (b ∷ t) in
    let z : ℕ = prefix_len not_zero (b ∷ t) in
    let all : are_in_order (row ∷ rows l) ≡ true = sym (ap are_in_order (rows-step b t)) ∙ o in
    let own = and_parts (list_all not_zero row.0 && is_past_first row.0 (rows l)) (are_in_order (rows l)) all in
    let two = and_parts (list_all not_zero row.0) (is_past_first row.0 (rows l)) own.0 in
    let end : l ≡ drop (suc z) (b ∷ t) = to_end (b ∷ t) two.0 in
    elim (cases_lt z k) [
      | inr within ↦
          let is : behind k (b ∷ t) ≡ l = in_first k (b ∷ t) within ∙ sym end in
          let front : is_past row.0 s ≡ true = before_later row.0 l s two.1 (subst (λ x. is_past (row_in x).0 s ≡ true) is e) in
          record {
            row = row_later (b ∷ t) s (past_unfit row.0 s front) ∙ ap (λ x. first_row (rows x) s) (sym is);
            order = subst (λ x. are_in_order (rows x) ≡ true) (sym is) own.1;
            front = front;
          }
      | inl past ↦
          let j : ℕ = k - suc z in
          let is : behind k (b ∷ t) ≡ behind j l = in_later k (b ∷ t) past ∙ ap (behind j) (sym end) in
          let rest = passed n l s j (omega arith) own.1 (subst (λ x. is_past (row_in x).0 s ≡ true) is e) in
          let front : is_past row.0 s ≡ true = before_later row.0 l s two.1 rest.front in
          record {
            row = row_later (b ∷ t) s (past_unfit row.0 s front) ∙ rest.row ∙ ap (λ x. first_row (rows x) s) (sym is);
            order = subst (λ x. are_in_order (rows x) ≡ true) (sym is) rest.order;
            front = front;
          }
    ]

-- what one row of a table tells of those behind it

pub begins_shared : (n s : List ℕ) → starts_with ◌==◌ s n ≡ true → common_prefix_len ◌==◌ n s ≡ length n
begins_shared [] s e = refl
begins_shared (a ∷ n) [] e = absurd (true≢false (sym e))
begins_shared (a ∷ n) (b ∷ s) e =
    let parts = and_parts (a == b) (starts_with ◌==◌ s n) e in
    rw (parts.0, one-add) (ap suc (begins_shared n s parts.1))

pub shared_begins : (n s : List ℕ) → common_prefix_len ◌==◌ n s ≡ length n → starts_with ◌==◌ s n ≡ true
shared_begins [] s e = refl
shared_begins (a ∷ n) [] e = absurd (omega arith)
shared_begins (a ∷ n) (b ∷ s) e = elim (cases_Bool (a == b)) [
  | inl y ↦
      let is : suc (common_prefix_len ◌==◌ n s) ≡ suc (length n) = rw (y, one-add) at e in
      rw y (shared_begins n s (omega arith))
  | inr differ ↦ (let none : 0 ≡ suc (length n) = rw differ at e in absurd (omega arith))
]

pub unshared_unfit : (n s : List ℕ) → (common_prefix_len ◌==◌ n s ≡ length n → ⊥) → starts_with ◌==◌ s n ≡ false
unshared_unfit n s ne = elim (cases_Bool (starts_with ◌==◌ s n)) [ inl y ↦ absurd (ne (begins_shared n s y)) | inr differ ↦ differ ]

pub later_less : (t : List ℕ) → 0 < length t → length (later_in t) < length t
later_less [] h = absurd (omega arith)
later_less (b ∷ t) h = let less = shorter b t in omega arith

pub later_order : (t : List ℕ) → are_in_order (rows t) ≡ true → are_in_order (rows (later_in t)) ≡ true
later_order [] o = refl
later_order (b ∷ t) o =
    let row : Row = row_in (b ∷ t) in
    let l : List ℕ = later_in (b ∷ t) in
    (and_parts (list_all not_zero row.0 && is_past_first row.0 (rows l)) (are_in_order (rows l)) (sym (ap are_in_order (rows-step b t)) ∙ o)).1

pub past_row : (t s : List ℕ) → is_past (row_in t).0 s ≡ true → first_row (rows t) s ≡ first_row (rows (later_in t)) s
past_row t s e = row_later t s (past_unfit (row_in t).0 s e)

pub row_before : (t s : List ℕ) → are_in_order (rows t) ≡ true → is_past (row_in t).0 s ≡ false → starts_with ◌==◌ s (row_in t).0 ≡ false →
    first_row (rows t) s ≡ first_row (rows (later_in t)) (take (common_prefix_len ◌==◌ (row_in t).0 s) s)
row_before [] s o q u = absurd (true≢false u)
row_before (b ∷ t) s o q u =
    let row : Row = row_in (b ∷ t) in
    let l : List ℕ = later_in (b ∷ t) in
    let all = and_parts (list_all not_zero row.0 && is_past_first row.0 (rows l)) (are_in_order (rows l)) (sym (ap are_in_order (rows-step b t)) ∙ o) in
    let two = and_parts (list_all not_zero row.0) (is_past_first row.0 (rows l)) all.0 in
    row_later (b ∷ t) s u ∙ rest_counts (rows l) row.0 s all.1 two.1 q u

-- the tables

choose : (v : Bool) (x y : List ℕ) → are_in_order (rows x) ≡ true → are_in_order (rows y) ≡ true → are_in_order (rows (if v then x else y)) ≡ true
choose true x y h k = h
choose false x y h k = k

tables_are_in_order : (b : ℕ) → are_in_order (rows (table_of b)) ≡ true
tables_are_in_order b =
    (choose (b == 65) _ _ refl
    (choose (b == 66) _ _ refl
    (choose (b == 67) _ _ refl
    (choose (b == 68) _ _ refl
    (choose (b == 69) _ _ refl
    (choose (b == 70) _ _ refl
    (choose (b == 71) _ _ refl
    (choose (b == 72) _ _ refl
    (choose (b == 73) _ _ refl
    (choose (b == 74) _ _ refl
    (choose (b == 75) _ _ refl
    (choose (b == 76) _ _ refl
    (choose (b == 77) _ _ refl
    (choose (b == 78) _ _ refl
    (choose (b == 79) _ _ refl
    (choose (b == 80) _ _ refl
    (choose (b == 81) _ _ refl
    (choose (b == 82) _ _ refl
    (choose (b == 83) _ _ refl
    (choose (b == 84) _ _ refl
    (choose (b == 85) _ _ refl
    (choose (b == 86) _ _ refl
    (choose (b == 87) _ _ refl
    (choose (b == 88) _ _ refl
    (choose (b == 89) _ _ refl
    (choose (b == 90) _ _ refl
    (choose (b == 97) _ _ refl
    (choose (b == 98) _ _ refl
    (choose (b == 99) _ _ refl
    (choose (b == 100) _ _ refl
    (choose (b == 101) _ _ refl
    (choose (b == 102) _ _ refl
    (choose (b == 103) _ _ refl
    (choose (b == 104) _ _ refl
    (choose (b == 105) _ _ refl
    (choose (b == 106) _ _ refl
    (choose (b == 107) _ _ refl
    (choose (b == 108) _ _ refl
    (choose (b == 109) _ _ refl
    (choose (b == 110) _ _ refl
    (choose (b == 111) _ _ refl
    (choose (b == 112) _ _ refl
    (choose (b == 113) _ _ refl
    (choose (b == 114) _ _ refl
    (choose (b == 115) _ _ refl
    (choose (b == 116) _ _ refl
    (choose (b == 117) _ _ refl
    (choose (b == 118) _ _ refl
    (choose (b == 119) _ _ refl
    (choose (b == 120) _ _ refl
    (choose (b == 121) _ _ refl
    (choose (b == 122) _ _ refl
    refl))))))))))))))))))))))))))))))))))))))))))))))))))))

pub in_order_as : (t : List ℕ) (b : ℕ) → t ≡ table_of b → are_in_order (rows t) ≡ true
in_order_as t b e = ap (λ x. are_in_order (rows x)) e ∙ tables_are_in_order b
