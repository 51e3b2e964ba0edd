-- Lists of which only what passes a test stays.
use Rattle.std.proofs.Common.{Bool, List, [], ap, ap₂, cond, false, filter, map, refl, true, true≢false, ◌&&◌, ◌∙◌, ◌∷◌, ◌≡◌, ◌||◌}
use Rattle.std.specs.List.{list_all, list_any}
use Rattle.std.proofs.lemmas.Bool.{and_from, and_parts}

pub filter_all : {A : Type 0} (test : A → Bool) (xs : List A) → list_all test (filter test xs) ≡ true
filter_all test [] = refl
filter_all test (x ∷ xs) = here (test x) refl (filter_all test xs)
  where
    here : (b : Bool) → test x ≡ b → list_all test (filter test xs) ≡ true → list_all test (cond b (x ∷ filter test xs) (filter test xs)) ≡ true
    here true e rest = and_from _ _ e rest
    here false e rest = rest

pub filter_also : {A : Type 0} (test other : A → Bool) (xs : List A) → list_all other xs ≡ true → list_all other (filter test xs) ≡ true
filter_also test other [] h = refl
filter_also test other (x ∷ xs) h =
    let parts = and_parts (other x) (list_all other xs) h in here (test x) parts.0 (filter_also test other xs parts.1)
  where
    here : (b : Bool) → other x ≡ true → list_all other (filter test xs) ≡ true → list_all other (cond b (x ∷ filter test xs) (filter test xs)) ≡ true
    here true e rest = and_from _ _ e rest
    here false e rest = rest

pub filter_same : {A : Type 0} (test : A → Bool) (xs : List A) → list_all test xs ≡ true → filter test xs ≡ xs
filter_same test [] h = refl
filter_same test (x ∷ xs) h =
    let parts = and_parts (test x) (list_all test xs) h in
    ap (λ (b : Bool). cond b (x ∷ filter test xs) (filter test xs)) parts.0 ∙ ap (λ ys. x ∷ ys) (filter_same test xs parts.1)

-- none passes of those that stay, where none passed
pub filter_none : {A : Type 0} (test other : A → Bool) (xs : List A) → list_any other xs ≡ false → list_any other (filter test xs) ≡ false
filter_none test other [] h = refl
filter_none test other (x ∷ xs) h =
    let parts = neither (other x) (list_any other xs) h in here (test x) parts.0 (filter_none test other xs parts.1)
  where
    neither : (a b : Bool) → a || b ≡ false → (a ≡ false) × (b ≡ false)
    neither false false e = (refl, refl)
    neither true b e = absurd (true≢false e)
    neither false true e = absurd (true≢false e)

    here : (b : Bool) → other x ≡ false → list_any other (filter test xs) ≡ false → list_any other (cond b (x ∷ filter test xs) (filter test xs)) ≡ false
    here true e rest = ap₂ (λ (a c : Bool). a || c) e rest
    here false e rest = rest

-- what holds of each that a function gives
pub map_all : {A B : Type 0} (f : A → B) (test : B → Bool) (xs : List A) → ((x : A) → test (f x) ≡ true) → list_all test (map f xs) ≡ true
map_all f test [] h = refl
map_all f test (x ∷ xs) h = and_from _ _ (h x) (map_all f test xs h)

pub all_also : {A : Type 0} (test other : A → Bool) (xs : List A) → ((x : A) → test x ≡ true → other x ≡ true) → list_all test xs ≡ true → list_all other xs ≡ true
all_also test other [] f h = refl
all_also test other (x ∷ xs) f h =
    let parts = and_parts (test x) (list_all test xs) h in and_from _ _ (f x parts.0) (all_also test other xs f parts.1)

pub both_all : {A : Type 0} (test other : A → Bool) (xs : List A) → list_all test xs ≡ true → list_all other xs ≡ true → list_all (λ x. test x && other x) xs ≡ true
both_all test other [] h k = refl
both_all test other (x ∷ xs) h k =
    let p = and_parts (test x) (list_all test xs) h in
    let q = and_parts (other x) (list_all other xs) k in
    and_from _ _ (and_from _ _ p.0 q.0) (both_all test other xs p.1 q.1)
