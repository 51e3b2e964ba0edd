-- Tests of each element of a list, fronts of lists, and functions that agree on what passes.
use Rattle.std.proofs.Common.{ap, arith, sym, ◌∙◌, ◌≡◌, ◌+◌, ◌≤◌, ◌<◌, ◌++◌, ◌∷◌, [], Bool, false, true, IsTrue, List, cond, drop, get_or, length, length-append, length-drop, map, refl, suc, take, zero, ℕ}
use Rattle.std.proofs.Math.ListN.{get_or-append}
use Rattle.std.proofs.Math.Seq.{drop-append_seam, get_or-append_seam}
use Rattle.std.proofs.lemmas.Bool.{and_from, and_parts}
use Rattle.std.proofs.lemmas.List.{append-nil, append_assoc, drop-append-le, drop_all, length-map, map-append, take-append-le}
use Rattle.std.specs.List.{list_all}
use Rattle.tl_tree.specs.Inner.Store.{Begins}

pub all-drop : {A : Type 0} (test : A → Bool) (n : ℕ) (xs : List A) → IsTrue (list_all test xs) → IsTrue (list_all test (drop n xs))
all-drop test zero xs all = all
all-drop test (suc n) [] all = refl
all-drop test (suc n) (x ∷ xs) all = all-drop test n xs (and_parts (test x) (list_all test xs) all).1

pub all-take : {A : Type 0} (test : A → Bool) (n : ℕ) (xs : List A) → IsTrue (list_all test xs) → IsTrue (list_all test (take n xs))
all-take test zero xs all = refl
all-take test (suc n) [] all = refl
all-take test (suc n) (x ∷ xs) all =
    let p = and_parts (test x) (list_all test xs) all in
    and_from (test x) (list_all test (take n xs)) p.0 (all-take test n xs p.1)

-- what passes one test passes another
pub all-weaker : {A : Type 0} (test other : A → Bool) → ((x : A) → IsTrue (test x) → IsTrue (other x)) → (xs : List A) → IsTrue (list_all test xs) → IsTrue (list_all other xs)
all-weaker test other f [] all = refl
all-weaker test other f (x ∷ xs) all =
    let p = and_parts (test x) (list_all test xs) all in
    and_from (other x) (list_all other xs) (f x p.0) (all-weaker test other f xs p.1)

pub all-push : {A : Type 0} (test : A → Bool) (xs : List A) (x : A) → IsTrue (list_all test xs) → IsTrue (test x) → IsTrue (list_all test (xs ++ x ∷ []))
all-push test [] x all one = and_from (test x) true one refl
all-push test (y ∷ xs) x all one =
    let p = and_parts (test y) (list_all test xs) all in
    and_from (test y) (list_all test (xs ++ x ∷ [])) p.0 (all-push test xs x p.1 one)

-- one more, or none
pub all-pushed : {A : Type 0} (test : A → Bool) (r : Bool) (xs ys : List A) (x : A) → ys ≡ cond r (xs ++ x ∷ []) xs → IsTrue (list_all test xs) → IsTrue (test x) → IsTrue (list_all test ys)
all-pushed test r xs ys x e all one =
    rw e
    (elim r as (λ b. IsTrue (list_all test (cond b (xs ++ x ∷ []) xs))) [
      | true ↦ all-push test xs x all one
      | false ↦ all
    ])

-- more behind a list, or nothing
pub appended-longer : {A : Type 0} (r : Bool) (xs ys zs : List A) → ys ≡ cond r (xs ++ zs) xs → length xs ≤ length ys
appended-longer r xs ys zs e =
    rw e
    (elim r as (λ b. length xs ≤ length (cond b (xs ++ zs) xs)) [
      | true ↦ omega (arith, length-append xs zs)
      | false ↦ omega arith
    ])

pub appended-at_most : {A : Type 0} (r : Bool) (xs ys zs : List A) → ys ≡ cond r (xs ++ zs) xs → length ys ≤ length xs + length zs
appended-at_most r xs ys zs e =
    rw e
    (elim r as (λ b. length (cond b (xs ++ zs) xs) ≤ length xs + length zs) [
      | true ↦ omega (arith, length-append xs zs)
      | false ↦ omega arith
    ])

-- functions that agree on what passes a test map alike
pub map-same : {A B : Type 0} (test : A → Bool) (f g : A → B) → ((x : A) → IsTrue (test x) → f x ≡ g x) → (xs : List A) → IsTrue (list_all test xs) → map f xs ≡ map g xs
map-same test f g same [] all = refl
map-same test f g same (x ∷ xs) all =
    let p = and_parts (test x) (list_all test xs) all in
    ap (λ y. y ∷ map f xs) (same x p.0) ∙ ap (λ ys. g x ∷ ys) (map-same test f g same xs p.1)

-- a part of a front
pub part-front : {A : Type 0} (len start : ℕ) (front rest : List A) → start + len ≤ length front → take len (drop start (front ++ rest)) ≡ take len (drop start front)
part-front len start front rest h =
    let many = length-drop start front in
    ap (take len) (drop-append-le start front rest (omega arith))
    ∙ take-append-le len (drop start front) rest (omega arith)

-- the same place in a front, for functions that agree
pub mapped-front : {A B : Type 0} (test : A → Bool) (f g : A → B) → ((x : A) → IsTrue (test x) → f x ≡ g x) → (front all : List A) (n : ℕ) (d : B) → Begins front all → IsTrue (list_all test front) → n < length front → get_or (map f all) n d ≡ get_or (map g front) n d
mapped-front test f g same front all n d begins passes h =
    let rest = drop (length front) all in
    let many = length-map front f in
    ap (λ xs. get_or (map f xs) n d) begins
    ∙ ap (λ ys. get_or ys n d) (map-append f front rest)
    ∙ get_or-append (map f front) (map f rest) d n (omega arith)
    ∙ ap (λ ys. get_or ys n d) (map-same test f g same front passes)

-- what was put last
pub mapped-last : {A B : Type 0} (f : A → B) (xs : List A) (x : A) (d : B) → get_or (map f (xs ++ x ∷ [])) (length xs) d ≡ f x
mapped-last f xs x d =
    ap (λ ys. get_or ys (length xs) d) (map-append f xs (x ∷ []))
    ∙ ap (λ n. get_or (map f xs ++ f x ∷ []) n d) (sym (length-map xs f))
    ∙ get_or-append_seam (map f xs) (f x) [] d

pub begins-refl : {A : Type 0} (xs : List A) → Begins xs xs
begins-refl xs = sym (ap (λ ys. xs ++ ys) (drop_all (length xs) xs (omega arith)) ∙ append-nil xs)

pub begins-trans : {A : Type 0} (xs ys zs : List A) → Begins xs ys → Begins ys zs → Begins xs zs
begins-trans xs ys zs p q =
    let rest = drop (length xs) ys ++ drop (length ys) zs in
    let all : zs ≡ xs ++ rest = q ∙ ap (λ front. front ++ drop (length ys) zs) p ∙ append_assoc xs (drop (length xs) ys) (drop (length ys) zs) in
    all ∙ ap (λ more. xs ++ more) (sym (ap (drop (length xs)) all ∙ drop-append_seam xs rest))

pub begins-of : {A : Type 0} (xs ys rest : List A) → ys ≡ xs ++ rest → Begins xs ys
begins-of xs ys rest e =
    e ∙ ap (λ more. xs ++ more) (sym (ap (drop (length xs)) e ∙ drop-append_seam xs rest))

pub map-take : {A B : Type 0} (f : A → B) (n : ℕ) (xs : List A) → map f (take n xs) ≡ take n (map f xs)
map-take f zero xs = refl
map-take f (suc n) [] = refl
map-take f (suc n) (x ∷ xs) = ap (λ ys. f x ∷ ys) (map-take f n xs)

pub begins-longer : {A : Type 0} (xs ys : List A) → Begins xs ys → length xs ≤ length ys
begins-longer xs ys e =
    let many = ap length e ∙ length-append xs (drop (length xs) ys) in
    omega arith
