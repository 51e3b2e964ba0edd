-- The open elements of a writer.
use Rattle.std.proofs.Common.{Bool, List, None, Some, [], ap, arith, false, length, nat_le, refl, sym, true, ℕ, ◌+◌, ◌-◌, ◌++◌, ◌<◌, ◌∙◌, ◌≡◌, ◌∷◌}
use Rattle.std.proofs.lemmas.List.{reverse-append}
use Rattle.std.specs.Prelude.{reverse, slice_get}
use Rattle.tl_safe_fit.specs.Kinds.{is_preformatted}
use Rattle.tl_safe_fit.specs.Levels.{level_inside, outermost_level}
use Rattle.tl_safe_fit.specs.declared.kinds.Kind.{Kind}
use Rattle.tl_safe_fit.specs.declared.levels.Level.{Level}
use Rattle.tl_tree.specs.Rows.{Row}
use Rattle.tl_tree_safe.proofs.WalkSteps.{if-false, if-true}
use Rattle.tl_tree_safe.specs.Inner.Levels.{no_parts}
use Rattle.tl_tree_safe.specs.Inner.Walk.{Spot, begin, ended, ends_before, ends_written, innermost_end, inside, outside, outside_one}
use Rattle.tl_tree_safe.specs.declared.writer.Open.{Open}

-- The innermost one is the last

pub one_more : (xs : List Open) (o : Open) → reverse (xs ++ o ∷ []) ≡ o ∷ reverse xs
one_more xs o = reverse-append xs (o ∷ [])

-- a list that is not empty ends with an element
pub record Last (xs : List Open) : Type 0 where
  pub front : List Open
  pub last : Open
  pub are : xs ≡ front ++ last ∷ []

last_of : (x : Open) (xs : List Open) → Last (x ∷ xs)
last_of x [] = record { front = []; last = x; are = refl }
last_of x (y ∷ xs) =
    let more = last_of y xs in record { front = x ∷ more.front; last = more.last; are = ap (λ ys. x ∷ ys) more.are }

there : (front : List Open) (o : Open) → slice_get (front ++ o ∷ []) (length front) ≡ Some o
there [] o = refl
there (x ∷ front) o = there front o

count : (front : List Open) (o : Open) → length (front ++ o ∷ []) - 1 ≡ length front
count [] o = refl
count (x ∷ front) o = let more = longer front in omega (arith, more)
  where
    longer : (ys : List Open) → length (ys ++ o ∷ []) ≡ length ys + 1
    longer [] = refl
    longer (y ∷ ys) = let more = longer ys in omega (arith, more)

-- what is said of the last one, by its place
same : (a b : Open) → Some a ≡ Some b → a ≡ b
same a b e = cc

pub last_first : (xs : List Open) (o : Open) → Some o ≡ slice_get xs (length xs - 1) → (rest : List Open) × (reverse xs ≡ o ∷ rest)
last_first [] o e = absurd (none o e)
  where
    none : (o : Open) → Some o ≡ slice_get [] 0 → ⊥
    none o e = cc
last_first (x ∷ xs) o e =
    let l = last_of x xs in
    let place : slice_get (x ∷ xs) (length (x ∷ xs) - 1) ≡ Some l.last =
    ap (λ (ys : List Open). slice_get ys (length ys - 1)) l.are ∙ ap (slice_get (l.front ++ l.last ∷ [])) (count l.front l.last) ∙ there l.front l.last in
    let is : o ≡ l.last = same o l.last (e ∙ place) in
    (reverse l.front, ap reverse l.are ∙ one_more l.front l.last ∙ ap (λ (y : Open). y ∷ reverse l.front) (sym is))

pub none_first : (xs : List Open) → None ≡ slice_get xs (length xs - 1) → xs ≡ []
none_first [] e = refl
none_first (x ∷ xs) e =
    let l = last_of x xs in
    let place : slice_get (x ∷ xs) (length (x ∷ xs) - 1) ≡ Some l.last =
    ap (λ (ys : List Open). slice_get ys (length ys - 1)) l.are ∙ ap (slice_get (l.front ++ l.last ∷ [])) (count l.front l.last) ∙ there l.front l.last in
    absurd (never l.last (e ∙ place))
  where
    never : (o : Open) → None ≡ Some o → ⊥
    never o e = cc

-- One after the other

module _ (R : List Row) (n : ℕ) where
  pub one_written : (level : Level) (opens : List Open) → ends_before n opens ≡ true →
      ends_written R n opens ≡ innermost_end R opens ++ ends_written R n (outside_one level opens).opens
  one_written level [] h = refl
  one_written level (o ∷ opens) h = if-true (nat_le o.end n) _ _ h

  pub none_written : (opens : List Open) → ends_before n opens ≡ false → ends_written R n opens ≡ []
  none_written [] h = refl
  none_written (o ∷ opens) h = if-false (nat_le o.end n) _ _ h

pub one_left : (n : ℕ) (level : Level) (fresh : Bool) (opens : List Open) → ends_before n opens ≡ true →
    outside n level fresh opens ≡ ended n (outside_one level opens)
one_left n level fresh [] h = absurd (false_no h)
  where
    false_no : false ≡ true → ⊥
    false_no e = cc
one_left n level fresh (o ∷ opens) h = if-true (nat_le o.end n) _ _ h

pub all_left : (n : ℕ) (level : Level) (fresh : Bool) (opens : List Open) → ends_before n opens ≡ false →
    outside n level fresh opens ≡ record { level = level; fresh = fresh; opens = opens }
all_left n level fresh [] h = refl
all_left n level fresh (o ∷ opens) h = if-false (nat_le o.end n) _ _ h

pub fewer : (n : ℕ) (level : Level) (opens : List Open) → ends_before n opens ≡ true → length (outside_one level opens).opens < length opens
fewer n level [] h = absurd (false_no h)
  where
    false_no : false ≡ true → ⊥
    false_no e = cc
fewer n level (o ∷ opens) h = omega arith

-- One that begins

abbrev spot_by : Level → Bool → List Open → Spot
spot_by level fresh opens = record { level = level; fresh = fresh; opens = opens }

pub entered_spot : (level : Level) (fresh : Bool) (opens : List Open) (within : Level) (drops : Bool) (now : List Open) (number end : ℕ) (k : Kind) →
    now ≡ opens ++ record { number = number; end = end; outer = level } ∷ [] → within ≡ level_inside no_parts level k → drops ≡ is_preformatted k →
    spot_by within drops (reverse now) ≡ inside number end k (spot_by level fresh (reverse opens))
entered_spot level fresh opens within drops now number end k more at first =
    let o : Open = record { number = number; end = end; outer = level } in
    ap (λ (l : Level). spot_by l drops (reverse now)) at
    ∙ ap (λ (f : Bool). spot_by (level_inside no_parts level k) f (reverse now)) first
    ∙ ap (λ (os : List Open). spot_by (level_inside no_parts level k) (is_preformatted k) os) (ap reverse more ∙ one_more opens o)

-- Where none has begun

pub begin_spot : (level : Level) (opens : List Open) → level ≡ outermost_level no_parts → opens ≡ [] → spot_by level false (reverse opens) ≡ begin
begin_spot level opens at none =
    ap (λ (l : Level). spot_by l false (reverse opens)) at ∙ ap (λ (os : List Open). spot_by (outermost_level no_parts) false (reverse os)) none
