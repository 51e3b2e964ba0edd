-- Which lists of entries are sound: their numbers differ, and are at most the greatest one.
use Rattle.std.proofs.Common.{ap, arith, sym, subst, ◌∙◌, ◌≡◌, ◌≤◌, ◌<◌, ◌++◌, ◌∷◌, [], Bool, IsTrue, List, cond, drop, false, get_or, length, map, nat_eq, nat_le, not, refl, reverse, set, suc, take, true, ℕ}
use Rattle.std.proofs.lemmas.Bool.{and_from, and_parts, eq-eqb, eqb-true, false≢true, le-leb, leb-true, ne_eqb, not-true, or_from, or_parts}
use Rattle.std.proofs.lemmas.List.{append-nil, take-append-drop}
use Rattle.std.proofs.lemmas.List.Folds.{list_all-append, list_any-append}
use Rattle.std.specs.List.{insert, list_all, list_any, remove}
use Rattle.tl_dom_spec.specs.Builder as dom
use Rattle.tl_tree.proofs.Actives.{parted, set-parted}
use Rattle.tl_tree.proofs.Grown.{tag-at-grown}
use Rattle.tl_tree.proofs.Listed.{all-drop, all-take, all-weaker, map-same}
use Rattle.tl_tree.proofs.Written.{all-at}
use Rattle.tl_tree.specs.Inner.Active.{IsLatest, active_of, entry_of, seen}
use Rattle.tl_tree.specs.Inner.ActiveWithin.{are_distinct, entry_is_within, is_of, shares_number}
use Rattle.tl_tree.specs.Inner.Store.{Grows}
use Rattle.tl_tree.specs.declared.active.ActiveList.{ActiveList}
use Rattle.tl_tree.specs.declared.active_entry.Entry.{Entry}
use Rattle.tl_tree.specs.declared.active_entry.Entry.TheVariants.{Formatting, Marker}
use Rattle.tl_tree.specs.declared.store.Store.{Store}

-- What passes a test

all-with : (test : Entry → Bool) (xs ys : List Entry) (e : Entry) → IsTrue (list_all test xs) → IsTrue (test e) → IsTrue (list_all test ys) → IsTrue (list_all test (xs ++ e ∷ ys))
all-with test xs ys e p q r =
    list_all-append test xs (e ∷ ys)
    ∙ and_from (list_all test xs) (list_all test (e ∷ ys)) p (and_from (test e) (list_all test ys) q r)

any-with : (test : Entry → Bool) (xs ys : List Entry) (e : Entry) → list_any test (xs ++ ys) ≡ false → test e ≡ false → list_any test (xs ++ e ∷ ys) ≡ false
any-with test [] ys e h own = or_from (test e) (list_any test ys) own h
any-with test (x ∷ xs) ys e h own =
    let q = or_parts (test x) (list_any test (xs ++ ys)) h in
    or_from (test x) (list_any test (xs ++ e ∷ ys)) q.0 (any-with test xs ys e q.1 own)

any-without : (test : Entry → Bool) (xs ys : List Entry) (e : Entry) → list_any test (xs ++ e ∷ ys) ≡ false → list_any test (xs ++ ys) ≡ false
any-without test [] ys e h = (or_parts (test e) (list_any test ys) h).1
any-without test (x ∷ xs) ys e h =
    let q = or_parts (test x) (list_any test (xs ++ e ∷ ys)) h in
    or_from (test x) (list_any test (xs ++ ys)) q.0 (any-without test xs ys e q.1)

any-here : (test : Entry → Bool) (xs ys : List Entry) (e : Entry) → list_any test (xs ++ e ∷ ys) ≡ false → test e ≡ false
any-here test xs ys e h =
    (or_parts (test e) (list_any test ys) (or_parts (list_any test xs) (list_any test (e ∷ ys)) (sym (list_any-append test xs (e ∷ ys)) ∙ h)).1).0

-- Numbers that are at most the greatest one

pub within-more : (number tag more most : ℕ) → number ≤ more → tag ≤ most → (e : Entry) → IsTrue (entry_is_within number tag e) → IsTrue (entry_is_within more most e)
within-more number tag more most p q Marker h = refl
within-more number tag more most p q (Formatting n t) h =
    let r = and_parts (nat_le n number) (nat_le t tag) h in
    let x = leb-true n number r.0 in
    let y = leb-true t tag r.1 in
    and_from (nat_le n more) (nat_le t most) (le-leb n more (omega arith)) (le-leb t most (omega arith))

pub within-formatting : (number tag n t : ℕ) → n ≤ number → t ≤ tag → IsTrue (entry_is_within number tag (Formatting n t))
within-formatting number tag n t p q =
    and_from (nat_le n number) (nat_le t tag) (le-leb n number p) (le-leb t tag q)

-- the tag of one that is there
pub tag-within : (number tag n t : ℕ) (xs : List Entry) (place : ℕ) (e : Entry) → place < length xs → e ≡ get_or xs place e → e ≡ Formatting n t → IsTrue (list_all (entry_is_within number tag) xs) → t ≤ tag
tag-within number tag n t xs place e h is own all =
    let test = entry_is_within number tag in
    let at : IsTrue (test (Formatting n t)) = subst (λ (x : Entry). IsTrue (test x)) own (all-at test xs place e e is h all) in
    leb-true t tag (and_parts (nat_le n number) (nat_le t tag) at).1

-- a number greater than the greatest one is new

fresh : (number tag n : ℕ) (xs : List Entry) → number < n → IsTrue (list_all (entry_is_within number tag) xs) → list_any (is_of n) xs ≡ false
fresh number tag n [] h all = refl
fresh number tag n (Marker ∷ xs) h all = fresh number tag n xs h all
fresh number tag n (Formatting m t ∷ xs) h all =
    let p = and_parts (entry_is_within number tag (Formatting m t)) (list_all (entry_is_within number tag) xs) all in
    let q = and_parts (nat_le m number) (nat_le t tag) p.0 in
    let le = leb-true m number q.0 in
    or_from (nat_eq m n) (list_any (is_of n) xs) (ne_eqb m n (λ (same : m ≡ n). omega arith)) (fresh number tag n xs h p.1)

unshared : (number tag n own : ℕ) (xs : List Entry) → number < n → IsTrue (list_all (entry_is_within number tag) xs) → list_any (λ (x : Entry). shares_number x (Formatting n own)) xs ≡ false
unshared number tag n own [] h all = refl
unshared number tag n own (Marker ∷ xs) h all = unshared number tag n own xs h all
unshared number tag n own (Formatting m t ∷ xs) h all =
    let p = and_parts (entry_is_within number tag (Formatting m t)) (list_all (entry_is_within number tag) xs) all in
    let q = and_parts (nat_le m number) (nat_le t tag) p.0 in
    let le = leb-true m number q.0 in
    or_from (nat_eq n m) (list_any (λ (x : Entry). shares_number x (Formatting n own)) xs) (ne_eqb n m (λ (same : n ≡ m). omega arith)) (unshared number tag n own xs h p.1)

unshared-marker : (xs : List Entry) → list_any (λ (x : Entry). shares_number x Marker) xs ≡ false
unshared-marker [] = refl
unshared-marker (Marker ∷ xs) = unshared-marker xs
unshared-marker (Formatting n t ∷ xs) = unshared-marker xs

marker-shares : (xs : List Entry) → list_any (shares_number Marker) xs ≡ false
marker-shares [] = refl
marker-shares (x ∷ xs) = marker-shares xs

-- Numbers that differ

distinct-with : (xs ys : List Entry) (e : Entry) → IsTrue (are_distinct (xs ++ ys)) → list_any (λ (x : Entry). shares_number x e) xs ≡ false → list_any (shares_number e) ys ≡ false → IsTrue (are_distinct (xs ++ e ∷ ys))
distinct-with [] ys e h before behind =
    and_from (not (list_any (shares_number e) ys)) (are_distinct ys) (ap not behind) h
distinct-with (x ∷ xs) ys e h before behind =
    let p = and_parts (not (list_any (shares_number x) (xs ++ ys))) (are_distinct (xs ++ ys)) h in
    let q = or_parts (shares_number x e) (list_any (λ (y : Entry). shares_number y e) xs) before in
    and_from (not (list_any (shares_number x) (xs ++ e ∷ ys))) (are_distinct (xs ++ e ∷ ys))
    (ap not (any-with (shares_number x) xs ys e (not-true (list_any (shares_number x) (xs ++ ys)) p.0) q.0))
    (distinct-with xs ys e p.1 q.1 behind)

distinct-without : (xs ys : List Entry) (e : Entry) → IsTrue (are_distinct (xs ++ e ∷ ys)) → IsTrue (are_distinct (xs ++ ys))
distinct-without [] ys e h = (and_parts (not (list_any (shares_number e) ys)) (are_distinct ys) h).1
distinct-without (x ∷ xs) ys e h =
    let p = and_parts (not (list_any (shares_number x) (xs ++ e ∷ ys))) (are_distinct (xs ++ e ∷ ys)) h in
    and_from (not (list_any (shares_number x) (xs ++ ys))) (are_distinct (xs ++ ys))
    (ap not (any-without (shares_number x) xs ys e (not-true (list_any (shares_number x) (xs ++ e ∷ ys)) p.0)))
    (distinct-without xs ys e p.1)

apart : (k : ℕ) (x e : Entry) → shares_number x e ≡ false → IsTrue (is_of k e) → is_of k x ≡ false
apart k Marker e h own = refl
apart k (Formatting n t) Marker h own = absurd (false≢true own)
apart k (Formatting n t) (Formatting m other) h own =
    ne_eqb n k (λ (same : n ≡ k). false≢true (sym h ∙ eq-eqb m n (eqb-true m k own ∙ sym same)))

distinct-before : (k : ℕ) (xs ys : List Entry) (e : Entry) → IsTrue (are_distinct (xs ++ e ∷ ys)) → IsTrue (is_of k e) → list_any (is_of k) xs ≡ false
distinct-before k [] ys e h own = refl
distinct-before k (x ∷ xs) ys e h own =
    let p = and_parts (not (list_any (shares_number x) (xs ++ e ∷ ys))) (are_distinct (xs ++ e ∷ ys)) h in
    or_from (is_of k x) (list_any (is_of k) xs)
    (apart k x e (any-here (shares_number x) xs ys e (not-true (list_any (shares_number x) (xs ++ e ∷ ys)) p.0)) own)
    (distinct-before k xs ys e p.1 own)

-- no other one has the number
pub none-before : (k n : ℕ) (xs : List Entry) → IsTrue (are_distinct xs) → IsLatest k n xs → list_any (is_of k) (take n xs) ≡ false
none-before k n xs h at =
    distinct-before k (take n xs) (drop (suc n) xs) (get_or xs n Marker)
    (subst (λ (ys : List Entry). IsTrue (are_distinct ys)) (parted xs n Marker at.within) h) at.own

-- Lists that are changed

pub removed-within : (test : Entry → Bool) (n : ℕ) (xs : List Entry) → IsTrue (list_all test xs) → IsTrue (list_all test (remove xs n))
removed-within test n xs all =
    list_all-append test (take n xs) (drop (suc n) xs)
    ∙ and_from (list_all test (take n xs)) (list_all test (drop (suc n) xs)) (all-take test n xs all) (all-drop test (suc n) xs all)

pub removed-distinct : (n : ℕ) (xs : List Entry) → n < length xs → IsTrue (are_distinct xs) → IsTrue (are_distinct (remove xs n))
removed-distinct n xs h own =
    distinct-without (take n xs) (drop (suc n) xs) (get_or xs n Marker)
    (subst (λ (ys : List Entry). IsTrue (are_distinct ys)) (parted xs n Marker h) own)

pub inserted-within : (number tag n t : ℕ) (place : ℕ) (xs : List Entry) (more most : ℕ) → number ≤ more → tag ≤ most → n ≤ more → t ≤ most → IsTrue (list_all (entry_is_within number tag) xs) → IsTrue (list_all (entry_is_within more most) (insert xs place (Formatting n t)))
inserted-within number tag n t place xs more most p q r u all =
    let test = entry_is_within more most in
    let wide = all-weaker (entry_is_within number tag) test (within-more number tag more most p q) xs all in
    all-with test (take place xs) (drop place xs) (Formatting n t) (all-take test place xs wide) (within-formatting more most n t r u) (all-drop test place xs wide)

pub inserted-distinct : (number tag n t place : ℕ) (xs : List Entry) → number < n → IsTrue (list_all (entry_is_within number tag) xs) → IsTrue (are_distinct xs) → IsTrue (are_distinct (insert xs place (Formatting n t)))
inserted-distinct number tag n t place xs h all own =
    let test = entry_is_within number tag in
    distinct-with (take place xs) (drop place xs) (Formatting n t)
    (subst (λ (ys : List Entry). IsTrue (are_distinct ys)) (sym (take-append-drop place xs)) own)
    (unshared number tag n t (take place xs) h (all-take test place xs all))
    (fresh number tag n (drop place xs) h (all-drop test place xs all))

marked-distinct : (xs : List Entry) → IsTrue (are_distinct xs) → IsTrue (are_distinct (xs ++ Marker ∷ []))
marked-distinct xs own =
    distinct-with xs [] Marker (distinct-nil xs own) (unshared-marker xs) (marker-shares [])
  where
    distinct-nil : (ys : List Entry) → IsTrue (are_distinct ys) → IsTrue (are_distinct (ys ++ []))
    distinct-nil ys h = subst (λ (zs : List Entry). IsTrue (are_distinct zs)) (sym (append-nil ys)) h

pub marked-pushed : (r : Bool) (xs ys : List Entry) → ys ≡ cond r (xs ++ Marker ∷ []) xs → IsTrue (are_distinct xs) → IsTrue (are_distinct ys)
marked-pushed r xs ys e own =
    rw e
    (elim r as (λ b. IsTrue (are_distinct (cond b (xs ++ Marker ∷ []) xs))) [
      | true ↦ marked-distinct xs own
      | false ↦ own
    ])

pub set-within : (number tag more n t place : ℕ) (xs : List Entry) → place < length xs → number ≤ more → n ≤ more → t ≤ tag → IsTrue (list_all (entry_is_within number tag) xs) → IsTrue (list_all (entry_is_within more tag) (set xs place (Formatting n t)))
set-within number tag more n t place xs h p q r all =
    let test = entry_is_within more tag in
    let wide = all-weaker (entry_is_within number tag) test (within-more number tag more tag p (omega arith)) xs all in
    subst (λ (ys : List Entry). IsTrue (list_all test ys)) (sym (set-parted xs place (Formatting n t) h))
    (all-with test (take place xs) (drop (suc place) xs) (Formatting n t) (all-take test place xs wide) (within-formatting more tag n t q r) (all-drop test (suc place) xs wide))

pub set-distinct : (number tag n t place : ℕ) (xs : List Entry) → place < length xs → number < n → IsTrue (list_all (entry_is_within number tag) xs) → IsTrue (are_distinct xs) → IsTrue (are_distinct (set xs place (Formatting n t)))
set-distinct number tag n t place xs h new all own =
    let test = entry_is_within number tag in
    subst (λ (ys : List Entry). IsTrue (are_distinct ys)) (sym (set-parted xs place (Formatting n t) h))
    (distinct-with (take place xs) (drop (suc place) xs) (Formatting n t)
    (removed-distinct place xs h own)
    (unshared number tag n t (take place xs) new (all-take test place xs all))
    (fresh number tag n (drop (suc place) xs) new (all-drop test (suc place) xs all)))

-- As the store grows

entry-grown : (s t : Store) → Grows s t → (number tag : ℕ) → tag < length s.tags.items → (e : Entry) → IsTrue (entry_is_within number tag e) → entry_of t e ≡ entry_of s e
entry-grown s t g number tag h Marker w = refl
entry-grown s t g number tag h (Formatting n own) w =
    let p = and_parts (nat_le n number) (nat_le own tag) w in
    let le = leb-true own tag p.1 in
    ap (dom.formatting n) (tag-at-grown s t g own (omega arith))

pub entries-grown : (s t : Store) → Grows s t → (number tag : ℕ) → tag < length s.tags.items → (xs : List Entry) → IsTrue (list_all (entry_is_within number tag) xs) → map (entry_of t) xs ≡ map (entry_of s) xs
entries-grown s t g number tag h xs all =
    map-same (entry_is_within number tag) (entry_of t) (entry_of s) (entry-grown s t g number tag h) xs all

pub seen-grown : (s t : Store) → Grows s t → (number tag : ℕ) → tag < length s.tags.items → (xs : List Entry) → IsTrue (list_all (entry_is_within number tag) xs) → seen t xs ≡ seen s xs
unfolding seen
seen-grown s t g number tag h xs all = ap reverse (entries-grown s t g number tag h xs all)

-- the list stands for the same in each store that begins with one that has its tags
pub active-grown : (s t : Store) → Grows s t → (a : ActiveList) → a.greatest_tag < length s.tags.items → active_of t a ≡ active_of s a
active-grown s t g a h = seen-grown s t g a.greatest_number a.greatest_tag h a.entries.items a.within
