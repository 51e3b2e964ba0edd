-- The list of active formatting elements, which is kept with the latest entry last and seen with
-- the latest first.
use Rattle.std.proofs.Common.{ap, arith, sym, subst, ◌∙◌, ◌≡◌, ◌+◌, ◌-◌, ◌≤◌, ◌<◌, ◌++◌, ◌&&◌, ◌||◌, ◌∷◌, [], Bool, IsTrue, List, Option, None, Some, IfSome, IsNone, is_some, cond, drop, false, get_or, length, map, nat_eq, nat_lt, refl, reverse, set, suc, take, true, ℕ}
use Rattle.std.proofs.Math.Bool.{or-true}
use Rattle.std.proofs.Math.Seq.{drop-cons, set-append_seam, take-suc}
use Rattle.std.proofs.lemmas.Bool.{and_from, and_right, cond-false, cond-true, eq-eqb, false≢true, le-ltb, lt-ltb, ne_eqb, or_from, or_parts}
use Rattle.std.proofs.lemmas.List.{append_assoc, drop_all, get_or_read, length-take, map-append, reverse-append, take-append-drop, take_all}
use Rattle.std.proofs.lemmas.List.Folds.{list_any-append}
use Rattle.std.specs.List.{insert, list_any, remove}
use Rattle.std.specs.Option.{option_map}
use Rattle.std.specs.Str.{bytes_eq}
use Rattle.tl_dom_spec.specs.Builder as dom
use Rattle.tl_dom_spec.specs.Formatting.{alike_count, is_alike, is_entry, listed, listed_behind, relisted, unlisted, with_room, without_earliest}
use Rattle.tl_dom_spec.specs.Tags as tags
use Rattle.tl_tree.specs.Inner.Active.{AreAlike, IsLatest, entry_of, listed_of, seen}
use Rattle.tl_tree.specs.Inner.ActiveWithin.{is_of}
use Rattle.tl_tree.specs.Inner.Store.{tag_at}
use Rattle.tl_tree.specs.declared.active_entry.Alike.{Alike}
use Rattle.tl_tree.specs.declared.active_entry.Entry.{Entry}
use Rattle.tl_tree.specs.declared.active_entry.Entry.TheVariants.{Formatting, Marker}
use Rattle.tl_tree.specs.declared.store.Store.{Store}

-- What is seen of a list in parts

pub seen-none : (s : Store) → seen s [] ≡ []
unfolding seen
seen-none s = refl

pub seen-append : (s : Store) (xs ys : List Entry) → seen s (xs ++ ys) ≡ seen s ys ++ seen s xs
unfolding seen
seen-append s xs ys =
    ap reverse (map-append (entry_of s) xs ys) ∙ reverse-append (map (entry_of s) xs) (map (entry_of s) ys)

pub seen-front : (s : Store) (e : Entry) (ys : List Entry) → seen s (e ∷ ys) ≡ seen s ys ++ entry_of s e ∷ []
unfolding seen
seen-front s e ys = reverse-append (entry_of s e ∷ []) (map (entry_of s) ys)

pub seen-around : (s : Store) (xs ys : List Entry) (e : Entry) → seen s (xs ++ e ∷ ys) ≡ seen s ys ++ entry_of s e ∷ seen s xs
seen-around s xs ys e =
    seen-append s xs (e ∷ ys)
    ∙ (ap (λ all. all ++ seen s xs) (seen-front s e ys)
    ∙ append_assoc (seen s ys) (entry_of s e ∷ []) (seen s xs))

pub seen-push : (s : Store) (xs : List Entry) (e : Entry) → seen s (xs ++ e ∷ []) ≡ entry_of s e ∷ seen s xs
seen-push s xs e =
    seen-around s xs [] e ∙ ap (λ none. none ++ entry_of s e ∷ seen s xs) (seen-none s)

pub parted : {A : Type 0} (xs : List A) (n : ℕ) (d : A) → n < length xs → xs ≡ take n xs ++ get_or xs n d ∷ drop (suc n) xs
parted xs n d h = sym (take-append-drop n xs) ∙ ap (λ rest. take n xs ++ rest) (drop-cons xs n d h)

pub parted-at : (xs : List Entry) (n : ℕ) (e : Entry) → n < length xs → e ≡ get_or xs n e → xs ≡ take n xs ++ e ∷ drop (suc n) xs
parted-at xs n e h is =
    parted xs n e h ∙ ap (λ own. take n xs ++ own ∷ drop (suc n) xs) (sym is)

-- the latest of so many entries
pub seen-latest : (s : Store) (xs : List Entry) (n : ℕ) (e : Entry) → n < length xs → e ≡ get_or xs n e → seen s (take (suc n) xs) ≡ entry_of s e ∷ seen s (take n xs)
seen-latest s xs n e h is =
    ap (seen s) (take-suc xs n e h)
    ∙ (seen-push s (take n xs) (get_or xs n e)
    ∙ ap (λ own. entry_of s own ∷ seen s (take n xs)) (sym is))

-- tests of what is seen
seen-any : (s : Store) (p : dom.Entry → Bool) (q : Entry → Bool) → ((e : Entry) → p (entry_of s e) ≡ q e) → (xs : List Entry) → list_any p (seen s xs) ≡ list_any q xs
seen-any s p q same [] = ap (list_any p) (seen-none s)
seen-any s p q same (e ∷ xs) =
    ap (list_any p) (seen-front s e xs)
    ∙ (list_any-append p (seen s xs) (entry_of s e ∷ [])
    ∙ (ap (λ b. b || (p (entry_of s e) || false)) (seen-any s p q same xs)
    ∙ (ap (λ b. list_any q xs || (b || false)) (same e) ∙ swapped (list_any q xs) (q e))))
  where
    swapped : (x y : Bool) → (x || (y || false)) ≡ (y || x)
    swapped true true = refl
    swapped true false = refl
    swapped false true = refl
    swapped false false = refl

of-number : (s : Store) (k : ℕ) (e : Entry) → is_entry k (entry_of s e) ≡ is_of k e
of-number s k Marker = refl
of-number s k (Formatting n tag) = refl

pub seen-listed : (s : Store) (k : ℕ) (xs : List Entry) → list_any (is_entry k) (seen s xs) ≡ list_any (is_of k) xs
seen-listed s k xs = seen-any s (is_entry k) (is_of k) (of-number s k) xs

-- One entry of a number

unlisted-none : (k : ℕ) (xs : List dom.Entry) → list_any (is_entry k) xs ≡ false → unlisted k xs ≡ xs
unlisted-none k [] h = refl
unlisted-none k (x ∷ xs) h =
    let p = or_parts (is_entry k x) (list_any (is_entry k) xs) h in
    cond-false (is_entry k x) (unlisted k xs) (x ∷ unlisted k xs) p.0
    ∙ ap (λ rest. x ∷ rest) (unlisted-none k xs p.1)

unlisted-one : (k : ℕ) (xs ys : List dom.Entry) (e : dom.Entry) → list_any (is_entry k) xs ≡ false → is_entry k e ≡ true → list_any (is_entry k) ys ≡ false → unlisted k (xs ++ e ∷ ys) ≡ xs ++ ys
unlisted-one k [] ys e none own rest =
    cond-true (is_entry k e) (unlisted k ys) (e ∷ unlisted k ys) own ∙ unlisted-none k ys rest
unlisted-one k (x ∷ xs) ys e none own rest =
    let p = or_parts (is_entry k x) (list_any (is_entry k) xs) none in
    let all = xs ++ e ∷ ys in
    cond-false (is_entry k x) (unlisted k all) (x ∷ unlisted k all) p.0
    ∙ ap (λ more. x ∷ more) (unlisted-one k xs ys e p.1 own rest)

relisted-none : (k new : ℕ) (xs : List dom.Entry) → list_any (is_entry k) xs ≡ false → relisted k new xs ≡ xs
relisted-none k new [] h = refl
relisted-none k new (dom.marker ∷ xs) h = ap (λ rest. dom.marker ∷ rest) (relisted-none k new xs h)
relisted-none k new (dom.formatting n tag ∷ xs) h =
    let p = or_parts (nat_eq n k) (list_any (is_entry k) xs) h in
    ap (λ (m : ℕ). dom.formatting m tag ∷ relisted k new xs) (cond-false (nat_eq n k) new n p.0)
    ∙ ap (λ rest. dom.formatting n tag ∷ rest) (relisted-none k new xs p.1)

relisted-one : (k new n : ℕ) (tag : tags.Tag) (xs ys : List dom.Entry) → list_any (is_entry k) xs ≡ false → nat_eq n k ≡ true → list_any (is_entry k) ys ≡ false → relisted k new (xs ++ dom.formatting n tag ∷ ys) ≡ xs ++ dom.formatting new tag ∷ ys
relisted-one k new n tag [] ys none own rest =
    ap (λ (m : ℕ). dom.formatting m tag ∷ relisted k new ys) (cond-true (nat_eq n k) new n own)
    ∙ ap (λ all. dom.formatting new tag ∷ all) (relisted-none k new ys rest)
relisted-one k new n tag (dom.marker ∷ xs) ys none own rest =
    ap (λ all. dom.marker ∷ all) (relisted-one k new n tag xs ys none own rest)
relisted-one k new n tag (dom.formatting m other ∷ xs) ys none own rest =
    let p = or_parts (nat_eq m k) (list_any (is_entry k) xs) none in
    let all = relisted k new (xs ++ dom.formatting n tag ∷ ys) in
    ap (λ (own : ℕ). dom.formatting own other ∷ all) (cond-false (nat_eq m k) new m p.0)
    ∙ ap (λ more. dom.formatting m other ∷ more) (relisted-one k new n tag xs ys p.1 own rest)

behind-none : (k : ℕ) (new : dom.Entry) (xs : List dom.Entry) → list_any (is_entry k) xs ≡ false → listed_behind k new xs ≡ xs
behind-none k new [] h = refl
behind-none k new (x ∷ xs) h =
    let p = or_parts (is_entry k x) (list_any (is_entry k) xs) h in
    cond-false (is_entry k x) (new ∷ x ∷ xs) (x ∷ listed_behind k new xs) p.0
    ∙ ap (λ rest. x ∷ rest) (behind-none k new xs p.1)

behind-one : (k : ℕ) (new e : dom.Entry) (xs ys : List dom.Entry) → list_any (is_entry k) xs ≡ false → is_entry k e ≡ true → listed_behind k new (xs ++ e ∷ ys) ≡ xs ++ new ∷ e ∷ ys
behind-one k new e [] ys none own =
    cond-true (is_entry k e) (new ∷ e ∷ ys) (e ∷ listed_behind k new ys) own
behind-one k new e (x ∷ xs) ys none own =
    let p = or_parts (is_entry k x) (list_any (is_entry k) xs) none in
    let all = xs ++ e ∷ ys in
    cond-false (is_entry k x) (new ∷ x ∷ all) (x ∷ listed_behind k new all) p.0
    ∙ ap (λ more. x ∷ more) (behind-one k new e xs ys p.1 own)

-- The same of the list that is kept

pub unlist-none : (s : Store) (k : ℕ) (xs : List Entry) → list_any (is_of k) xs ≡ false → seen s xs ≡ unlisted k (seen s xs)
unlist-none s k xs h = sym (unlisted-none k (seen s xs) (seen-listed s k xs ∙ h))

pub relist-none : (s : Store) (k new : ℕ) (xs : List Entry) → list_any (is_of k) xs ≡ false → seen s xs ≡ relisted k new (seen s xs)
relist-none s k new xs h = sym (relisted-none k new (seen s xs) (seen-listed s k xs ∙ h))

pub list-behind-none : (s : Store) (k : ℕ) (new : dom.Entry) (xs : List Entry) → list_any (is_of k) xs ≡ false → seen s xs ≡ listed_behind k new (seen s xs)
list-behind-none s k new xs h = sym (behind-none k new (seen s xs) (seen-listed s k xs ∙ h))

latest-parted : (k n : ℕ) (xs : List Entry) → IsLatest k n xs → xs ≡ take n xs ++ get_or xs n Marker ∷ drop (suc n) xs
latest-parted k n xs at = parted xs n Marker at.within

seen-parted : (s : Store) (k n : ℕ) (xs : List Entry) → IsLatest k n xs → seen s xs ≡ seen s (drop (suc n) xs) ++ entry_of s (get_or xs n Marker) ∷ seen s (take n xs)
seen-parted s k n xs at =
    ap (seen s) (latest-parted k n xs at)
    ∙ seen-around s (take n xs) (drop (suc n) xs) (get_or xs n Marker)

pub unlist-one : (s : Store) (k n : ℕ) (xs : List Entry) → IsLatest k n xs → list_any (is_of k) (take n xs) ≡ false → seen s (remove xs n) ≡ unlisted k (seen s xs)
unlist-one s k n xs at before =
    let e = get_or xs n Marker in
    let front = take n xs in
    let back = drop (suc n) xs in
    seen-append s front back
    ∙ sym (ap (unlisted k) (seen-parted s k n xs at)
    ∙ unlisted-one k (seen s back) (seen s front) (entry_of s e) (seen-listed s k back ∙ at.none) (of-number s k e ∙ at.own) (seen-listed s k front ∙ before))

pub set-parted : (xs : List Entry) (n : ℕ) (e : Entry) → n < length xs → set xs n e ≡ take n xs ++ e ∷ drop (suc n) xs
set-parted xs n e h =
    let front = take n xs in
    let back = drop (suc n) xs in
    let least = length-take n xs in
    let many : n ≡ length front = omega arith in
    ap (λ all. set all n e) (parted xs n e h)
    ∙ (ap (λ i. set (front ++ get_or xs n e ∷ back) i e) many
    ∙ set-append_seam front (get_or xs n e) back e)

pub relist-one : (s : Store) (k new n m tag : ℕ) (xs : List Entry) → IsLatest k n xs → list_any (is_of k) (take n xs) ≡ false → get_or xs n Marker ≡ Formatting m tag → seen s (set xs n (Formatting new tag)) ≡ relisted k new (seen s xs)
relist-one s k new n m tag xs at before is =
    let front = take n xs in
    let back = drop (suc n) xs in
    let own : IsTrue (is_of k (Formatting m tag)) = subst (λ (e : Entry). IsTrue (is_of k e)) is at.own in
    ap (seen s) (set-parted xs n (Formatting new tag) at.within)
    ∙ (seen-around s front back (Formatting new tag)
    ∙ sym (ap (relisted k new) (seen-parted s k n xs at ∙ ap (λ e. seen s back ++ entry_of s e ∷ seen s front) is)
    ∙ relisted-one k new m (tag_at s tag) (seen s back) (seen s front) (seen-listed s k back ∙ at.none) own (seen-listed s k front ∙ before)))

pub list-behind-one : (s : Store) (k n m : ℕ) (new : Entry) (xs : List Entry) → IsLatest k n xs → m ≡ suc n → seen s (insert xs m new) ≡ listed_behind k (entry_of s new) (seen s xs)
list-behind-one s k n m new xs at next =
    let e = get_or xs n Marker in
    let front = take n xs in
    let back = drop (suc n) xs in
    ap (λ i. seen s (insert xs i new)) next
    ∙ (seen-around s (take (suc n) xs) back new
    ∙ (ap (λ all. seen s back ++ entry_of s new ∷ all) (ap (seen s) (take-suc xs n Marker at.within) ∙ seen-push s front e)
    ∙ sym (ap (listed_behind k (entry_of s new)) (seen-parted s k n xs at)
    ∙ behind-one k (entry_of s new) (entry_of s e) (seen s back) (seen s front) (seen-listed s k back ∙ at.none) (of-number s k e ∙ at.own))))

-- an entry behind all the others
pub put-last : (s : Store) (n : ℕ) (xs : List Entry) (e : Entry) → n ≡ length xs → seen s (insert xs n e) ≡ entry_of s e ∷ seen s xs
put-last s n xs e is =
    seen-around s (take n xs) (drop n xs) e
    ∙ (ap (λ back. seen s back ++ entry_of s e ∷ seen s (take n xs)) (drop_all n xs (omega arith))
    ∙ (ap (λ none. none ++ entry_of s e ∷ seen s (take n xs)) (seen-none s)
    ∙ ap (λ front. entry_of s e ∷ seen s front) (take_all n xs (omega arith))))

-- the entry at a place
pub entry-at : (xs : List Entry) (n : ℕ) (e own : Entry) → n < length xs → e ≡ get_or xs n e → e ≡ own → get_or xs n Marker ≡ own
entry-at xs n e own h is same = sym (get_or_read xs n e h is Marker) ∙ same

latest-any : (k n : ℕ) (xs : List Entry) → IsLatest k n xs → list_any (is_of k) xs ≡ true
latest-any k n xs at =
    ap (list_any (is_of k)) (latest-parted k n xs at)
    ∙ (list_any-append (is_of k) (take n xs) (get_or xs n Marker ∷ drop (suc n) xs)
    ∙ (ap (λ b. list_any (is_of k) (take n xs) || (b || list_any (is_of k) (drop (suc n) xs))) at.own
    ∙ or-true (list_any (is_of k) (take n xs))))

pub listed-if : (s : Store) (k : ℕ) (xs : List Entry) (r : Option ℕ) → IfSome r (λ n. IsLatest k n xs) → (IsNone r → list_any (is_of k) xs ≡ false) → is_some r ≡ list_any (is_entry k) (seen s xs)
listed-if s k xs None some none = sym (seen-listed s k xs ∙ none refl)
listed-if s k xs (Some n) some none = sym (seen-listed s k xs ∙ latest-any k n xs some)

-- From the latest on

pub latest-step : (p : Entry → Bool) (n : ℕ) (xs : List Entry) (e : Entry) → n < length xs → e ≡ get_or xs n e → p e ≡ false → list_any p (drop (suc n) xs) ≡ false → list_any p (drop n xs) ≡ false
latest-step p n xs e h is other none =
    ap (list_any p) (drop-cons xs n e h)
    ∙ or_from (p (get_or xs n e)) (list_any p (drop (suc n) xs)) (ap p (sym is) ∙ other) none

pub marker-of : (e : Entry) → ((number tag : ℕ) → e ≡ Formatting number tag → ⊥) → e ≡ Marker
marker-of Marker h = refl
marker-of (Formatting number tag) h = absurd (h number tag refl)

pub none-of : (r : Option ℕ) → ((n : ℕ) → r ≡ Some n → ⊥) → IsNone r
none-of None h = refl
none-of (Some n) h = absurd (h n refl)

pub one-less : (n : ℕ) → 0 < n → n ≡ suc (n - 1)
one-less n h = omega arith

-- the latest entry of a name
pub listed-marker : (s : Store) (name : List ℕ) (n : ℕ) (xs : List Entry) (e : Entry) → n < length xs → e ≡ get_or xs n e → e ≡ Marker → listed name (seen s xs) ≡ listed name (seen s (take (suc n) xs)) → None ≡ listed name (seen s xs)
listed-marker s name n xs e h is marked so_far =
    sym (so_far ∙ ap (listed name) (seen-latest s xs n e h is ∙ ap (λ own. entry_of s own ∷ seen s (take n xs)) marked))

listed-next : (s : Store) (name : List ℕ) (n k tag : ℕ) (xs : List Entry) (e : Entry) → n < length xs → e ≡ get_or xs n e → e ≡ Formatting k tag → listed name (seen s xs) ≡ listed name (seen s (take (suc n) xs)) → listed name (seen s xs) ≡ cond (bytes_eq name (tag_at s tag).name) (Some (record { number = k; tag = tag_at s tag })) (listed name (seen s (take n xs)))
listed-next s name n k tag xs e h is own so_far =
    so_far ∙ ap (listed name) (seen-latest s xs n e h is ∙ ap (λ x. entry_of s x ∷ seen s (take n xs)) own)

pub listed-found : (s : Store) (name : List ℕ) (n k tag : ℕ) (xs : List Entry) (e : Entry) → n < length xs → e ≡ get_or xs n e → e ≡ Formatting k tag → bytes_eq name (tag_at s tag).name ≡ true → listed name (seen s xs) ≡ listed name (seen s (take (suc n) xs)) → option_map (listed_of s) (Some (record { number = k; tag = tag })) ≡ listed name (seen s xs)
listed-found s name n k tag xs e h is own named so_far =
    sym (listed-next s name n k tag xs e h is own so_far
    ∙ cond-true (bytes_eq name (tag_at s tag).name) (Some (record { number = k; tag = tag_at s tag })) (listed name (seen s (take n xs))) named)

pub listed-step : (s : Store) (name : List ℕ) (n k tag : ℕ) (xs : List Entry) (e : Entry) → n < length xs → e ≡ get_or xs n e → e ≡ Formatting k tag → bytes_eq name (tag_at s tag).name ≡ false → listed name (seen s xs) ≡ listed name (seen s (take (suc n) xs)) → listed name (seen s xs) ≡ listed name (seen s (take n xs))
listed-step s name n k tag xs e h is own named so_far =
    listed-next s name n k tag xs e h is own so_far
    ∙ cond-false (bytes_eq name (tag_at s tag).name) (Some (record { number = k; tag = tag_at s tag })) (listed name (seen s (take n xs))) named

-- the last marker
pub cleared-marker : (s : Store) (n : ℕ) (xs : List Entry) (e : Entry) → n < length xs → e ≡ get_or xs n e → e ≡ Marker → dom.without_last_marker (seen s xs) ≡ dom.without_last_marker (seen s (take (suc n) xs)) → dom.without_last_marker (seen s xs) ≡ seen s (take n xs)
cleared-marker s n xs e h is marked so_far =
    so_far ∙ ap dom.without_last_marker (seen-latest s xs n e h is ∙ ap (λ own. entry_of s own ∷ seen s (take n xs)) marked)

pub cleared-step : (s : Store) (n k tag : ℕ) (xs : List Entry) (e : Entry) → n < length xs → e ≡ get_or xs n e → e ≡ Formatting k tag → dom.without_last_marker (seen s xs) ≡ dom.without_last_marker (seen s (take (suc n) xs)) → dom.without_last_marker (seen s xs) ≡ dom.without_last_marker (seen s (take n xs))
cleared-step s n k tag xs e h is own so_far =
    so_far ∙ ap dom.without_last_marker (seen-latest s xs n e h is ∙ ap (λ x. entry_of s x ∷ seen s (take n xs)) own)

pub cleared-none : (s : Store) (xs : List Entry) → dom.without_last_marker (seen s (take 0 xs)) ≡ seen s (take 0 xs)
cleared-none s xs = ap dom.without_last_marker (seen-none s) ∙ sym (seen-none s)

-- The Noah's Ark clause

abbrev is_marked : dom.Entry → Bool
is_marked dom.marker = true
is_marked (dom.formatting k tag) = false

abbrev pub is_marker : Entry → Bool
is_marker Marker = true
is_marker (Formatting k tag) = false

marked : (s : Store) (e : Entry) → is_marked (entry_of s e) ≡ is_marker e
marked s Marker = refl
marked s (Formatting k tag) = refl

counted-some : (own tag : tags.Tag) (k : ℕ) (xs ys : List dom.Entry) → list_any is_marked xs ≡ false → is_alike own tag ≡ true → 0 < alike_count own (xs ++ dom.formatting k tag ∷ ys)
counted-some own tag k [] ys none alike =
    subst (λ (n : ℕ). 0 < n) (sym (cond-true (is_alike own tag) (suc (alike_count own ys)) (alike_count own ys) alike)) (omega arith)
counted-some own tag k (dom.marker ∷ xs) ys none alike = absurd (false≢true (sym none))
counted-some own tag k (dom.formatting m other ∷ xs) ys none alike =
    let rest = alike_count own (xs ++ dom.formatting k tag ∷ ys) in
    let some : 0 < rest = counted-some own tag k xs ys none alike in
    elim (is_alike own other) as (λ (b : Bool). 0 < cond b (suc rest) rest) [
      | true ↦ omega arith
      | false ↦ some
    ]

earliest-gone : (own tag : tags.Tag) (k : ℕ) (xs ys : List dom.Entry) → list_any is_marked xs ≡ false → is_alike own tag ≡ true → alike_count own ys ≡ 0 → without_earliest own (xs ++ dom.formatting k tag ∷ ys) ≡ xs ++ ys
earliest-gone own tag k [] ys none alike zero_left =
    cond-true (is_alike own tag && nat_eq (alike_count own ys) 0) ys (dom.formatting k tag ∷ without_earliest own ys)
    (and_from (is_alike own tag) (nat_eq (alike_count own ys) 0) alike (eq-eqb (alike_count own ys) 0 zero_left))
earliest-gone own tag k (dom.marker ∷ xs) ys none alike zero_left = absurd (false≢true (sym none))
earliest-gone own tag k (dom.formatting m other ∷ xs) ys none alike zero_left =
    let all = xs ++ dom.formatting k tag ∷ ys in
    let some : 0 < alike_count own all = counted-some own tag k xs ys none alike in
    cond-false (is_alike own other && nat_eq (alike_count own all) 0) all (dom.formatting m other ∷ without_earliest own all)
    (and_right (is_alike own other) (nat_eq (alike_count own all) 0) (ne_eqb (alike_count own all) 0 (λ (none_left : alike_count own all ≡ 0). omega arith)))
    ∙ ap (λ rest. dom.formatting m other ∷ rest) (earliest-gone own tag k xs ys none alike zero_left)

-- what the loop over the entries knows, from the latest on
pub record AlikeSoFar (s : Store) (own : tags.Tag) (xs : List Entry) (left : ℕ) (a : Alike) : Type 0 where
  pub bound : a.count + left ≤ length xs
  pub unmarked : list_any is_marker (drop left xs) ≡ false
  pub counted : alike_count own (seen s xs) ≡ a.count + alike_count own (seen s (take left xs))
  pub place : 0 < a.count → a.earliest < length xs
  pub gone : 0 < a.count → alike_count own (seen s (take left xs)) ≡ 0 → without_earliest own (seen s xs) ≡ seen s (remove xs a.earliest)

-- a marker, or the front of the list
alike-stop : (s : Store) (own : tags.Tag) (xs : List Entry) (left : ℕ) (a : Alike) → AlikeSoFar s own xs left a → alike_count own (seen s (take left xs)) ≡ 0 → AreAlike s own xs a
alike-stop s own xs left a so_far zero_left =
    let counted = so_far.counted in
    record {
      counted = omega arith;
      place = so_far.place;
      gone = λ h. so_far.gone h zero_left;
    }

pub alike-end : (s : Store) (own : tags.Tag) (xs : List Entry) (left : ℕ) (a : Alike) → left ≤ 0 → AlikeSoFar s own xs left a → AreAlike s own xs a
alike-end s own xs left a h so_far =
    let none : left ≡ 0 = omega arith in
    alike-stop s own xs left a so_far
    (ap (λ n. alike_count own (seen s (take n xs))) none ∙ ap (alike_count own) (seen-none s))

pub alike-marker : (s : Store) (own : tags.Tag) (xs : List Entry) (n : ℕ) (e : Entry) (a : Alike) → n < length xs → e ≡ get_or xs n e → e ≡ Marker → AlikeSoFar s own xs (suc n) a → AreAlike s own xs a
alike-marker s own xs n e a h is marker so_far =
    alike-stop s own xs (suc n) a so_far
    (ap (alike_count own) (seen-latest s xs n e h is ∙ ap (λ x. entry_of s x ∷ seen s (take n xs)) marker))

pub alike-step : (s : Store) (own : tags.Tag) (xs : List Entry) (n k tag : ℕ) (e : Entry) (a b : Alike) (same : Bool) → n < length xs → e ≡ get_or xs n e → e ≡ Formatting k tag → same ≡ is_alike own (tag_at s tag) → b ≡ cond same (record { count = a.count + 1; earliest = n }) a → AlikeSoFar s own xs (suc n) a → AlikeSoFar s own xs n b
alike-step s own xs n k tag e a b same h is own_entry alike one so_far =
    subst (AlikeSoFar s own xs n) (sym one) (by-test same alike)
  where
    left : ℕ
    left = alike_count own (seen s (take n xs))

    latest : seen s (take (suc n) xs) ≡ dom.formatting k (tag_at s tag) ∷ seen s (take n xs)
    latest = seen-latest s xs n e h is ∙ ap (λ x. entry_of s x ∷ seen s (take n xs)) own_entry

    count : (t : Bool) → t ≡ is_alike own (tag_at s tag) → alike_count own (seen s (take (suc n) xs)) ≡ cond t (suc left) left
    count t is_it = ap (alike_count own) latest ∙ ap (λ u. cond u (suc left) left) (sym is_it)

    unmarked : list_any is_marker (drop n xs) ≡ false
    unmarked = latest-step is_marker n xs e h is (ap is_marker own_entry) so_far.unmarked

    around : seen s xs ≡ seen s (drop (suc n) xs) ++ dom.formatting k (tag_at s tag) ∷ seen s (take n xs)
    around =
        ap (seen s) (parted-at xs n e h is)
        ∙ (seen-around s (take n xs) (drop (suc n) xs) e
        ∙ ap (λ x. seen s (drop (suc n) xs) ++ entry_of s x ∷ seen s (take n xs)) own_entry)

    by-test : (t : Bool) → t ≡ is_alike own (tag_at s tag) → AlikeSoFar s own xs n (cond t (record { count = a.count + 1; earliest = n }) a)
    by-test true is_it =
        let counted = so_far.counted in
        let more = count true is_it in
        let bound = so_far.bound in
        record {
          bound = omega arith;
          unmarked = unmarked;
          counted = omega arith;
          place = λ some. h;
          gone = λ some zero_left.
              ap (without_earliest own) around
              ∙ (earliest-gone own (tag_at s tag) k (seen s (drop (suc n) xs)) (seen s (take n xs))
              (seen-any s is_marked is_marker (marked s) (drop (suc n) xs) ∙ so_far.unmarked) (sym is_it) zero_left
              ∙ sym (seen-append s (take n xs) (drop (suc n) xs)));
        }
    by-test false is_it =
        let counted = so_far.counted in
        let same_count = count false is_it in
        let bound = so_far.bound in
        record {
          bound = omega arith;
          unmarked = unmarked;
          counted = omega arith;
          place = so_far.place;
          gone = λ some zero_left. so_far.gone some (same_count ∙ zero_left);
        }

pub room-made : (s : Store) (own : tags.Tag) (xs : List Entry) (a : Alike) → AreAlike s own xs a → 2 < a.count → seen s (remove xs a.earliest) ≡ with_room own (seen s xs)
room-made s own xs a alike h =
    let counted = alike.counted in
    sym (cond-true (nat_lt 2 (alike_count own (seen s xs))) (without_earliest own (seen s xs)) (seen s xs) (lt-ltb 2 (alike_count own (seen s xs)) (omega arith))
    ∙ alike.gone (omega arith))

pub room-had : (s : Store) (own : tags.Tag) (xs : List Entry) (a : Alike) → AreAlike s own xs a → a.count ≤ 2 → seen s xs ≡ with_room own (seen s xs)
room-had s own xs a alike h =
    let counted = alike.counted in
    sym (cond-false (nat_lt 2 (alike_count own (seen s xs))) (without_earliest own (seen s xs)) (seen s xs) (le-ltb 2 (alike_count own (seen s xs)) (omega arith)))
