-- What line feeds and characters come to of bytes, one part behind another.
use Rattle.std.proofs.Common.{Bool, List, None, Some, [], ap, ap₂, arith, drop, false, get_or, if◌then◌else◌, inl, inr, length, refl, suc, sym, take, true, zero, ℕ, ◌+◌, ◌*◌, ◌++◌, ◌<◌, ◌∙◌, ◌≡◌, ◌≤◌, ◌⊎◌, ◌||◌, ◌∷◌, add-one, zero-add}
use Rattle.memchr.specs.Find.{IsFirstByte, is_byte}
use Rattle.std.proofs.lemmas.Bool.{cases_Bool}
use Rattle.std.proofs.lemmas.List.{get_or_append_left, get_or_push, length-append}
use Rattle.std.specs.Prelude.{min, not}
use Rattle.tl_lines.specs.Inner.Marks.{AreMarks, at, column_behind}
use Rattle.tl_lines.specs.Lines.{characters, column_at, goes_on, has_line_feed, is_line_feed, last_line, line_at, line_feeds, one_if}
use Rattle.tl_lines.specs.declared.position.Position.{Position}

if-true : {A : Type 0} (b : Bool) (x y : A) → b ≡ true → (if b then x else y) ≡ x
if-true true x y e = refl
if-true false x y e = cc

if-false : {A : Type 0} (b : Bool) (x y : A) → b ≡ false → (if b then x else y) ≡ y
if-false true x y e = cc
if-false false x y e = refl

fails-not : (t : Bool) → ¬ (t ≡ true) → t ≡ false
fails-not true never = absurd (never refl)
fails-not false never = refl

one-most : (b : Bool) → one_if b ≤ 1
one-most true = omega arith
one-most false = omega arith

pub feeds-most : (s : List ℕ) → line_feeds s ≤ length s
feeds-most [] = omega arith
feeds-most (b ∷ s) = let h = feeds-most s in let o = one-most (is_line_feed b) in omega (arith, h, o)

pub characters-most : (s : List ℕ) → characters s ≤ length s
characters-most [] = omega arith
characters-most (b ∷ s) = let h = characters-most s in let o = one-most (not (goes_on b)) in omega (arith, h, o)

last-most : (s : List ℕ) → length (last_line s) ≤ length s
last-most [] = omega arith
last-most (b ∷ s) = elim (cases_Bool (has_line_feed (b ∷ s))) as (λ _. length (last_line (b ∷ s)) ≤ length (b ∷ s)) [
  | inl has ↦ (let h = last-most s in let e = ap (λ (l : List ℕ). length l) (if-true (has_line_feed (b ∷ s)) (last_line s) (b ∷ s) has) in omega (arith, h, e))
  | inr none ↦ (let e = ap (λ (l : List ℕ). length l) (if-false (has_line_feed (b ∷ s)) (last_line s) (b ∷ s) none) in omega (arith, e))
]

pub column-most : (s : List ℕ) → characters (last_line s) ≤ length s
column-most s = let h = last-most s in let c = characters-most (last_line s) in omega (arith, h, c)

last-plain : (s : List ℕ) → has_line_feed s ≡ false → last_line s ≡ s
last-plain [] e = refl
last-plain (b ∷ s) e = if-false (has_line_feed (b ∷ s)) (last_line s) (b ∷ s) e

-- behind the begin of a line
pub column-one : (s : List ℕ) → column_behind 1 s ≡ 1 + characters (last_line s)
column-one s = elim (cases_Bool (has_line_feed s)) [
  | inl has ↦ if-true (has_line_feed s) _ _ has
  | inr none ↦ if-false (has_line_feed s) _ _ none ∙ ap (λ l. 1 + characters l) (sym (last-plain s none))
]

pub column-none : (c : ℕ) (s : List ℕ) → has_line_feed s ≡ false → column_behind c s ≡ c + characters s
column-none c s plain = if-false (has_line_feed s) _ _ plain

pub column-some : (c : ℕ) (s : List ℕ) → has_line_feed s ≡ true → column_behind c s ≡ 1 + characters (last_line s)
column-some c s has = if-true (has_line_feed s) _ _ has

-- One part behind another

pub feeds-append : (a b : List ℕ) → line_feeds (a ++ b) ≡ line_feeds a + line_feeds b
feeds-append [] b = omega arith
feeds-append (x ∷ a) b = let h = feeds-append a b in omega (arith, h)

characters-append : (a b : List ℕ) → characters (a ++ b) ≡ characters a + characters b
characters-append [] b = omega arith
characters-append (x ∷ a) b = let h = characters-append a b in omega (arith, h)

has-append : (a b : List ℕ) → has_line_feed (a ++ b) ≡ has_line_feed a || has_line_feed b
has-append [] b = refl
has-append (x ∷ a) b = ap (λ t. is_line_feed x || t) (has-append a b) ∙ here (is_line_feed x) (has_line_feed a) (has_line_feed b)
  where
    here : (p q r : Bool) → p || (q || r) ≡ (p || q) || r
    here true q r = refl
    here false q r = refl

or-true : (p : Bool) → p || true ≡ true
or-true true = refl
or-true false = refl

or-none : (p : Bool) → p || false ≡ p
or-none true = refl
or-none false = refl

-- behind a part in which a line ends
last-later : (a b : List ℕ) → has_line_feed b ≡ true → last_line (a ++ b) ≡ last_line b
last-later [] b e = refl
last-later (x ∷ a) b e =
    if-true (has_line_feed (x ∷ (a ++ b))) (last_line (a ++ b)) (x ∷ (a ++ b)) (ap (λ t. is_line_feed x || t) (has-append a b ∙ ap (λ t. has_line_feed a || t) e ∙ or-true (has_line_feed a)) ∙ or-true (is_line_feed x))
    ∙ last-later a b e

-- behind one in which none ends
last-same : (a b : List ℕ) → has_line_feed b ≡ false → last_line (a ++ b) ≡ last_line a ++ b
last-same [] b e = last-plain b e
last-same (x ∷ a) b e =
    let same : has_line_feed (x ∷ (a ++ b)) ≡ has_line_feed (x ∷ a) = ap (λ t. is_line_feed x || t) (has-append a b ∙ ap (λ t. has_line_feed a || t) e ∙ or-none (has_line_feed a)) in
    elim (cases_Bool (has_line_feed (x ∷ a))) [
      | inl has ↦
          if-true (has_line_feed (x ∷ (a ++ b))) _ _ (same ∙ has)
          ∙ last-same a b e
          ∙ ap (λ l. l ++ b) (sym (if-true (has_line_feed (x ∷ a)) (last_line a) (x ∷ a) has))
      | inr none ↦
          if-false (has_line_feed (x ∷ (a ++ b))) _ _ (same ∙ none)
          ∙ ap (λ l. l ++ b) (sym (if-false (has_line_feed (x ∷ a)) (last_line a) (x ∷ a) none))
    ]

pub column-append : (a b : List ℕ) → 1 + characters (last_line (a ++ b)) ≡ column_behind (1 + characters (last_line a)) b
column-append a b = elim (cases_Bool (has_line_feed b)) [
  | inl has ↦ ap (λ l. 1 + characters l) (last-later a b has) ∙ sym (column-some (1 + characters (last_line a)) b has)
  | inr none ↦
      let h = ap (λ l. characters l) (last-same a b none) ∙ characters-append (last_line a) b in
      let e = column-none (1 + characters (last_line a)) b none in
      omega (arith, h, e)
]

-- Up to a line feed

first-feed : (s : List ℕ) (k : ℕ) → k < length s → ((j : ℕ) → j < k → is_line_feed (get_or s j 0) ≡ false) → is_line_feed (get_or s k 0) ≡ true →
    (line_feeds s ≡ 1 + line_feeds (drop (suc k) s)) × (has_line_feed s ≡ true) × (last_line s ≡ last_line (drop (suc k) s))
first-feed [] k l fails holds = absurd (omega (arith, l))
first-feed (b ∷ s) zero l fails holds = ((let e : one_if (is_line_feed b) ≡ 1 = ap one_if holds in omega (arith, e)), ap (λ t. t || has_line_feed s) holds, if-true (has_line_feed (b ∷ s)) (last_line s) (b ∷ s) (ap (λ t. t || has_line_feed s) holds))
first-feed (b ∷ s) (suc k) l fails holds =
    let h = first-feed s k (omega (arith, l)) (λ j m. fails (suc j) (omega (arith, m))) holds in
    let none : is_line_feed b ≡ false = fails 0 (omega arith) in
    let has : has_line_feed (b ∷ s) ≡ true = ap (λ t. is_line_feed b || t) h.1 ∙ or-true (is_line_feed b) in
    let e : one_if (is_line_feed b) ≡ 0 = ap one_if none in
    let f = h.0 in
    (omega (arith, e, f), has, if-true (has_line_feed (b ∷ s)) (last_line s) (b ∷ s) has ∙ h.2)

no-feed : (s : List ℕ) → ((j : ℕ) → j < length s → is_line_feed (get_or s j 0) ≡ false) → (line_feeds s ≡ 0) × (has_line_feed s ≡ false)
no-feed [] fails = (refl, refl)
no-feed (b ∷ s) fails =
    let h = no-feed s (λ j m. fails (suc j) (omega (arith, m))) in
    let none : is_line_feed b ≡ false = fails 0 (omega arith) in
    let e : one_if (is_line_feed b) ≡ 0 = ap one_if none in
    let f = h.0 in
    (omega (arith, e, f), ap (λ t. t || has_line_feed s) none ∙ h.1)

module _ (s : List ℕ) (k : ℕ) (found : IsFirstByte (is_byte 10) s (Some k)) where
  parts : (line_feeds s ≡ 1 + line_feeds (drop (suc k) s)) × (has_line_feed s ≡ true) × (last_line s ≡ last_line (drop (suc k) s))
  parts = first-feed s k found.0.high (λ j l. fails-not (is_line_feed (get_or s j 0)) (found.0.before j (omega arith) l)) found.1

  pub feeds-found : line_feeds s ≡ 1 + line_feeds (drop (k + 1) s)
  feeds-found = parts.0 ∙ ap (λ n. 1 + line_feeds (drop n s)) (sym (add-one k))

  pub column-found : (c : ℕ) → column_behind c s ≡ column_behind 1 (drop (k + 1) s)
  column-found c = column-some c s parts.1 ∙ ap (λ l. 1 + characters l) parts.2 ∙ sym (column-one (drop (suc k) s)) ∙ ap (λ n. column_behind 1 (drop n s)) (sym (add-one k))

module _ (s : List ℕ) (none : IsFirstByte (is_byte 10) s None) where
  nothing : (line_feeds s ≡ 0) × (has_line_feed s ≡ false)
  nothing = no-feed s (λ j l. fails-not (is_line_feed (get_or s j 0)) (none j (omega arith) l))

  pub feeds-none : line_feeds s ≡ 0
  feeds-none = nothing.0

  pub column-left : (c : ℕ) → column_behind c s ≡ c + characters s
  column-left c = column-none c s nothing.1

-- Positions

take-nil : {X : Type 0} (n : ℕ) → take {A = X} n [] ≡ []
take-nil zero = refl
take-nil (suc n) = refl

pub take-further : {X : Type 0} (s : List X) (m n : ℕ) → take (m + n) s ≡ take m s ++ take n (drop m s)
take-further s zero n = ap (λ m. take m s) (zero-add n)
take-further [] (suc m) n = take-nil (suc m + n) ∙ sym (take-nil n)
take-further (x ∷ s) (suc m) n =
    let place : suc m + n ≡ suc (m + n) = omega arith in
    ap (λ k. take k (x ∷ s)) place ∙ ap (λ l. x ∷ l) (take-further s m n)

drop-nil : {X : Type 0} (n : ℕ) → drop {A = X} n [] ≡ []
drop-nil zero = refl
drop-nil (suc n) = refl

pub drop-further : {X : Type 0} (s : List X) (m n : ℕ) → drop (m + n) s ≡ drop n (drop m s)
drop-further s zero n = ap (λ m. drop m s) (zero-add n)
drop-further [] (suc m) n = drop-nil (suc m + n) ∙ sym (drop-nil n)
drop-further (x ∷ s) (suc m) n =
    let place : suc m + n ≡ suc (m + n) = omega arith in
    ap (λ k. drop k (x ∷ s)) place ∙ drop-further s m n

pub line-further : (text : List ℕ) (m n : ℕ) → line_at text (m + n) ≡ line_at text m + line_feeds (take n (drop m text))
line-further text m n =
    let h = ap (λ l. line_feeds l) (take-further text m n) ∙ feeds-append (take m text) (take n (drop m text)) in
    omega (arith, h)

pub column-further : (text : List ℕ) (m n : ℕ) → column_at text (m + n) ≡ column_behind (column_at text m) (take n (drop m text))
column-further text m n = ap (λ l. 1 + characters (last_line l)) (take-further text m n) ∙ column-append (take m text) (take n (drop m text))

length-take-most : {X : Type 0} (s : List X) (n : ℕ) → length (take n s) ≤ n
length-take-most s zero = omega arith
length-take-most [] (suc n) = omega arith
length-take-most (x ∷ s) (suc n) = let h = length-take-most s n in omega (arith, h)

pub line-most : (text : List ℕ) (m : ℕ) → line_at text m ≤ 1 + m
line-most text m = let h = feeds-most (take m text) in let l = length-take-most text m in omega (arith, h, l)

pub column-at-most : (text : List ℕ) (m : ℕ) → column_at text m ≤ 1 + m
column-at-most text m = let h = column-most (take m text) in let l = length-take-most text m in omega (arith, h, l)

pub one-more : (step : ℕ) (text : List ℕ) (marks : List Position) (p : Position) → AreMarks step text marks → p ≡ at text (length marks * step) → AreMarks step text (marks ++ p ∷ [])
one-more step text marks p known e i l =
    elim (split i (length marks) (let n = length-append marks (p ∷ []) in omega (arith, l, n))) [
      | inl less ↦ get_or_append_left marks (p ∷ []) (at text 0) i less ∙ known i less
      | inr same ↦ get_or_push marks p (at text 0) i (sym same) ∙ e ∙ ap (λ k. at text (k * step)) (sym same)
    ]
  where
    split : (i n : ℕ) → i < n + 1 → (i < n) ⊎ (i ≡ n)
    split zero zero l = inr refl
    split zero (suc n) l = inl (omega arith)
    split (suc i) zero l = absurd (omega (arith, l))
    split (suc i) (suc n) l = elim (split i n (omega (arith, l))) [ inl less ↦ inl (omega (arith, less)) | inr same ↦ inr (ap (λ k. suc k) same) ]

pub take-least : (text : List ℕ) (offset : ℕ) → take (min offset (length text)) text ≡ take offset text
take-least [] zero = refl
take-least [] (suc n) = take-nil (min (suc n) 0) ∙ sym (take-nil (suc n))
take-least (x ∷ text) zero = ap (λ k. take k (x ∷ text)) none
  where
    none : min 0 (suc (length text)) ≡ 0
    none = omega arith
take-least (x ∷ text) (suc n) = ap (λ k. take k (x ∷ text)) (more n (length text)) ∙ ap (λ l. x ∷ l) (take-least text n)
  where
    more : (n l : ℕ) → min (suc n) (suc l) ≡ suc (min n l)
    more n l = omega arith

-- the position behind so many bytes more
pub behind-mark : (text : List ℕ) (m n : ℕ) (p q : Position) (front : List ℕ) → p ≡ at text m → front ≡ take n (drop m text) → q.line ≡ p.line + line_feeds front → q.column ≡ column_behind p.column front → q ≡ at text (m + n)
behind-mark text m n p q front here e line column =
    ap₂ (λ l k. record { line = l; column = k }) (
    line ∙ ap₂ (λ (v : Position) f. v.line + line_feeds f) here e ∙ sym (line-further text m n)
    ) (column ∙ ap₂ (λ (v : Position) f. column_behind v.column f) here e ∙ sym (column-further text m n))
