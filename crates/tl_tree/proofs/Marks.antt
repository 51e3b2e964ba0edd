-- Marks of frames that are gone, one of them changed.
use Rattle.std.proofs.Common.{ap, arith, sym, subst, ◌∙◌, ◌≡◌, ◌≢◌, ◌≤◌, ◌<◌, ◌+◌, ◌&&◌, ◌++◌, ◌∷◌, [], Bool, IsTrue, List, cond, drop, false, get_or, inl, inr, length, nat_eq, not, refl, set, suc, take, true, zero, ℕ}
use Rattle.std.proofs.lemmas.Bool.{and_from, and_parts, cases_lt, eq-eqb, false≢true, ne_eqb}
use Rattle.tl_tree.specs.Inner.Gone.{are_shut, gone_in, is_first_there, there, without}
use Rattle.tl_tree.specs.declared.frame.Frame.{Frame}

-- How many are gone

pub gone-last : (marks : List Bool) (n : ℕ) (last : Bool) → length marks ≡ suc n → get_or marks n last ≡ last → gone_in marks ≡ gone_in (take n marks) + cond last 1 0
gone-last [] n last long is = absurd (omega arith)
gone-last (gone ∷ []) zero last long is =
    ap (λ b. cond b 1 0) is ∙ omega arith
gone-last (gone ∷ other ∷ marks) zero last long is = absurd (omega arith)
gone-last (gone ∷ marks) (suc n) last long is =
    let rest = gone-last marks n last (omega arith) is in
    elim gone as (λ b. cond b (suc (gone_in marks)) (gone_in marks) ≡ cond b (suc (gone_in (take n marks))) (gone_in (take n marks)) + cond last 1 0) [
      | true ↦ omega arith
      | false ↦ rest
    ]

pub gone-most : (marks : List Bool) → gone_in marks ≤ length marks
gone-most [] = omega arith
gone-most (gone ∷ marks) =
    let rest = gone-most marks in
    elim gone as (λ b. cond b (suc (gone_in marks)) (gone_in marks) ≤ suc (length marks)) [
      | true ↦ omega arith
      | false ↦ omega arith
    ]

pub gone-push : (marks : List Bool) → gone_in (marks ++ false ∷ []) ≡ gone_in marks
gone-push [] = refl
gone-push (gone ∷ marks) =
    ap (λ n. cond gone (suc n) n) (gone-push marks)

pub gone-stands : (marks : List Bool) (n : ℕ) → get_or marks n false ≡ true → suc (gone_in (set marks n false)) ≡ gone_in marks
gone-stands [] n e = absurd (false≢true e)
gone-stands (gone ∷ marks) zero e =
    sym (ap (λ b. cond b (suc (gone_in marks)) (gone_in marks)) e)
gone-stands (gone ∷ marks) (suc n) e =
    let rest = gone-stands marks n e in
    elim gone as (λ b. suc (cond b (suc (gone_in (set marks n false))) (gone_in (set marks n false))) ≡ cond b (suc (gone_in marks)) (gone_in marks)) [
      | true ↦ ap suc rest
      | false ↦ rest
    ]

pub gone-leaves : (marks : List Bool) (n : ℕ) → get_or marks n false ≡ false → n < length marks → gone_in (set marks n true) ≡ suc (gone_in marks)
gone-leaves [] n e h = absurd (omega arith)
gone-leaves (gone ∷ marks) zero e h =
    sym (ap (λ b. suc (cond b (suc (gone_in marks)) (gone_in marks))) e)
gone-leaves (gone ∷ marks) (suc n) e h =
    let rest = gone-leaves marks n e (omega arith) in
    elim gone as (λ b. cond b (suc (gone_in (set marks n true))) (gone_in (set marks n true)) ≡ suc (cond b (suc (gone_in marks)) (gone_in marks))) [
      | true ↦ ap suc rest
      | false ↦ rest
    ]

-- The outermost one is there

pub first-take : (marks : List Bool) (n : ℕ) → IsTrue (is_first_there marks) → IsTrue (is_first_there (take n marks))
first-take [] zero h = refl
first-take [] (suc n) h = refl
first-take (gone ∷ marks) zero h = refl
first-take (gone ∷ marks) (suc n) h = h

pub first-push : (marks : List Bool) → IsTrue (is_first_there marks) → IsTrue (is_first_there (marks ++ false ∷ []))
first-push [] h = refl
first-push (gone ∷ marks) h = h

pub first-stands : (marks : List Bool) (n : ℕ) → IsTrue (is_first_there marks) → IsTrue (is_first_there (set marks n false))
first-stands [] n h = refl
first-stands (gone ∷ marks) zero h = refl
first-stands (gone ∷ marks) (suc n) h = h

pub first-leaves : (marks : List Bool) (n : ℕ) → 0 < n → IsTrue (is_first_there marks) → IsTrue (is_first_there (set marks n true))
first-leaves [] n some h = refl
first-leaves (gone ∷ marks) zero some h = absurd (omega arith)
first-leaves (gone ∷ marks) (suc n) some h = h

-- the first isn't the last that is gone
pub first-more : (marks : List Bool) (n : ℕ) → length marks ≡ suc n → IsTrue (is_first_there marks) → get_or marks n false ≡ true → 0 < n
first-more [] n long h e = absurd (omega arith)
first-more (true ∷ marks) zero long h e = absurd (false≢true h)
first-more (false ∷ marks) zero long h e = absurd (false≢true e)
first-more (gone ∷ marks) (suc n) long h e = omega arith

-- The innermost mark goes

pub there-less : {A : Type 0} (marks : List Bool) (xs : List A) (n : ℕ) → length marks ≡ suc n → get_or marks n false ≡ true → there marks (take (suc n) xs) ≡ there (take n marks) (take n xs)
there-less [] xs n long e = absurd (omega arith)
there-less (gone ∷ marks) [] zero long e = refl
there-less (gone ∷ []) (x ∷ xs) zero long e =
    ap (λ b. cond b [] (x ∷ [])) e
there-less (gone ∷ other ∷ marks) (x ∷ xs) zero long e = absurd (omega arith)
there-less (gone ∷ marks) [] (suc n) long e = refl
there-less (gone ∷ marks) (x ∷ xs) (suc n) long e =
    let rest = there-less marks xs n (omega arith) e in
    ap (λ all. cond gone all (x ∷ all)) rest

pub there-same : {A : Type 0} (marks : List Bool) (xs : List A) (n : ℕ) → length marks ≡ suc n → get_or marks n false ≡ false → there marks xs ≡ there (take n marks) xs
there-same [] xs n long e = absurd (omega arith)
there-same (gone ∷ []) [] zero long e = refl
there-same (gone ∷ []) (x ∷ xs) zero long e = ap (λ b. cond b xs (x ∷ xs)) e
there-same (gone ∷ other ∷ marks) xs zero long e = absurd (omega arith)
there-same (gone ∷ marks) [] (suc n) long e = refl
there-same (gone ∷ marks) (x ∷ xs) (suc n) long e =
    ap (λ all. cond gone all (x ∷ all)) (there-same marks xs n (omega arith) e)

-- A frame goes

pub without-push : (marks : List Bool) (n : ℕ) → length marks ≤ n → without n (marks ++ false ∷ []) ≡ without n marks
without-push [] zero h = refl
without-push [] (suc n) h = refl
without-push (gone ∷ marks) zero h = absurd (omega arith)
without-push (gone ∷ marks) (suc n) h =
    ap (λ rest. gone ∷ rest) (without-push marks n (omega arith))

pub own-push : (marks : List Bool) (n : ℕ) → length marks ≤ n → get_or (marks ++ false ∷ []) n false ≡ get_or marks n false
own-push [] zero h = refl
own-push [] (suc n) h = refl
own-push (gone ∷ marks) zero h = absurd (omega arith)
own-push (gone ∷ marks) (suc n) h = own-push marks n (omega arith)

-- what is the front of a front
pub take-again : (q ms all : List Bool) → q ≡ take (length q) ms → ms ≡ take (length ms) all → length q ≤ length ms → q ≡ take (length q) all
take-again q ms all e f le =
    e ∙ (ap (take (length q)) f ∙ less (length q) (length ms) all le)
  where
    less : (m n : ℕ) (xs : List Bool) → m ≤ n → take m (take n xs) ≡ take m xs
    less zero n xs h = refl
    less (suc m) zero xs h = absurd (omega arith)
    less (suc m) (suc n) [] h = refl
    less (suc m) (suc n) (x ∷ xs) h = ap (λ rest. x ∷ rest) (less m n xs (omega arith))

pub without-set : (marks : List Bool) (n : ℕ) → n < length marks → without n marks ≡ set marks n true
without-set [] n h = absurd (omega arith)
without-set (gone ∷ marks) zero h = refl
without-set (gone ∷ marks) (suc n) h =
    ap (λ rest. gone ∷ rest) (without-set marks n (omega arith))

without-own : (marks : List Bool) (n : ℕ) → get_or (without n marks) n false ≡ true
without-own [] zero = refl
without-own [] (suc n) = without-own [] n
without-own (gone ∷ marks) zero = refl
without-own (gone ∷ marks) (suc n) = without-own marks n

without-other : (marks : List Bool) (n i : ℕ) → i ≢ n → get_or (without n marks) i false ≡ get_or marks i false
without-other marks zero zero h = absurd (h refl)
without-other [] zero (suc i) h = refl
without-other (gone ∷ marks) zero (suc i) h = refl
without-other [] (suc n) zero h = refl
without-other (gone ∷ marks) (suc n) zero h = refl
without-other [] (suc n) (suc i) h = without-other [] n i (λ e. h (ap suc e))
without-other (gone ∷ marks) (suc n) (suc i) h = without-other marks n i (λ e. h (ap suc e))

pub without-at : (marks : List Bool) (n i : ℕ) → get_or (without n marks) i false ≡ cond (nat_eq i n) true (get_or marks i false)
without-at marks n i = elim (cases_lt i n) [
  | inl less ↦ other (λ e. absurd (omega arith))
  | inr least ↦ elim (cases_lt n i) [
    | inl more ↦ other (λ e. absurd (omega arith))
    | inr most ↦ (let same : i ≡ n = omega arith in
        ap (λ k. get_or (without n marks) k false) same
        ∙ (without-own marks n ∙ sym (ap (λ b. cond b true (get_or marks i false)) (eq-eqb i n same))))
  ]
]
  where
    other : (i ≢ n) → get_or (without n marks) i false ≡ cond (nat_eq i n) true (get_or marks i false)
    other h =
        without-other marks n i h ∙ sym (ap (λ b. cond b true (get_or marks i false)) (ne_eqb i n h))

pub without-drop : (marks : List Bool) (n : ℕ) → drop (suc n) (without n marks) ≡ drop (suc n) marks
without-drop [] zero = refl
without-drop [] (suc n) = without-drop-none n
  where
    without-drop-none : (k : ℕ) → drop (suc k) (without k []) ≡ []
    without-drop-none zero = refl
    without-drop-none (suc k) = without-drop-none k
without-drop (gone ∷ marks) zero = refl
without-drop (gone ∷ marks) (suc n) = without-drop marks n

-- fewer that are gone
pub shut-less : (marks : List Bool) (n : ℕ) (frames : List Frame) → IsTrue (are_shut (without n marks) frames) → IsTrue (are_shut marks frames)
shut-less [] n frames h = refl
shut-less (gone ∷ marks) n [] h = refl
shut-less (gone ∷ marks) zero (f ∷ frames) h =
    let p = and_parts (not (true && f.is_open)) (are_shut marks frames) h in
    and_from (not (gone && f.is_open)) (are_shut marks frames) (weaker gone f.is_open p.0) p.1
  where
    weaker : (b o : Bool) → IsTrue (not (true && o)) → IsTrue (not (b && o))
    weaker true o k = k
    weaker false o k = refl
shut-less (gone ∷ marks) (suc n) (f ∷ frames) h =
    let p = and_parts (not (gone && f.is_open)) (are_shut (without n marks) frames) h in
    and_from (not (gone && f.is_open)) (are_shut marks frames) p.0 (shut-less marks n frames p.1)

-- one that left the stack goes
pub shut-without : (marks : List Bool) (n : ℕ) (frames : List Frame) (f : Frame) → f ≡ get_or frames n f → n < length frames → f.is_open ≡ false → IsTrue (are_shut marks frames) → IsTrue (are_shut (without n marks) frames)
shut-without marks n [] f is h closed all = absurd (omega arith)
shut-without [] zero (g ∷ frames) f is h closed all =
    ap (λ b. not b && true) (sym (ap (λ (o : Frame). o.is_open) is) ∙ closed)
shut-without [] (suc n) (g ∷ frames) f is h closed all =
    shut-without [] n frames f is (omega arith) closed refl
shut-without (gone ∷ marks) zero (g ∷ frames) f is h closed all =
    let p = and_parts (not (gone && g.is_open)) (are_shut marks frames) all in
    and_from (not (true && g.is_open)) (are_shut marks frames) (ap not (sym (ap (λ (o : Frame). o.is_open) is) ∙ closed)) p.1
shut-without (gone ∷ marks) (suc n) (g ∷ frames) f is h closed all =
    let p = and_parts (not (gone && g.is_open)) (are_shut marks frames) all in
    and_from (not (gone && g.is_open)) (are_shut (without n marks) frames) p.0 (shut-without marks n frames f is (omega arith) closed p.1)

-- a frame stands at a place again
pub shut-stands : (marks : List Bool) (n : ℕ) (frames : List Frame) (f : Frame) → IsTrue (are_shut marks frames) → IsTrue (are_shut (set marks n false) (set frames n f))
shut-stands [] n frames f all = refl
shut-stands (gone ∷ marks) zero [] f all = refl
shut-stands (gone ∷ marks) (suc n) [] f all = refl
shut-stands (gone ∷ marks) zero (g ∷ frames) f all =
    (and_parts (not (gone && g.is_open)) (are_shut marks frames) all).1
shut-stands (gone ∷ marks) (suc n) (g ∷ frames) f all =
    let p = and_parts (not (gone && g.is_open)) (are_shut marks frames) all in
    and_from (not (gone && g.is_open)) (are_shut (set marks n false) (set frames n f)) p.0 (shut-stands marks n frames f p.1)
