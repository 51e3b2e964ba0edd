-- Names that are kept.
use Rattle.std.proofs.Common.{Bool, List, None, Option, Some, ap, arith, cond, false, length, refl, subst, suc, sym, true, zero, ℕ, ◌+◌, ◌-◌, ◌<◌, ◌||◌, ◌∙◌, ◌∷◌, ◌≡◌, ◌≤◌, inl, inr}
use Rattle.std.proofs.Math.Bool.{or-true}
use Rattle.std.proofs.Math.Nat.{add-suc, add-zero}
use Rattle.std.proofs.lemmas.Bool.{cases_lt}
use Rattle.std.proofs.lemmas.Bool.Decides.{eqb_tells}
use Rattle.std.proofs.lemmas.Slice.Eq.{bytes_eq-Decides}
use Rattle.std.specs.BTreeMap.{btree_map_len, get_by_text}
use Rattle.std.specs.Option.{is_some, option_map}
use Rattle.std.specs.Str.{bytes_eq}
use Rattle.tl_values.specs.Inner.Names.{AreKept}
use Rattle.tl_values.specs.Names.{free_number, is_used, numbered, unique, with_made, with_name}
use Rattle.tl_values.specs.declared.names.Names.{Names}

-- Numbers

opened : (used : List (List ℕ)) (name : List ℕ) (most n : ℕ) (v : Bool) → is_used used (numbered name n) ≡ v
    → free_number used name (suc most) n ≡ (elim v as (λ _. Option ℕ) [ true ↦ free_number used name most (n + 1) | false ↦ Some n ])
opened used name most n v h =
    ap (λ (b : Bool). elim b as (λ _. Option ℕ) [ true ↦ free_number used name most (n + 1) | false ↦ Some n ]) h

step : (used : List (List ℕ)) (name : List ℕ) (most n : ℕ) → is_used used (numbered name n) ≡ true → free_number used name (suc most) n ≡ free_number used name most (n + 1)
step used name most n h = opened used name most n true h

-- the number is not used, or the search goes on behind it
pub here-free : (used : List (List ℕ)) (name : List ℕ) (n end : ℕ) → n < end → is_used used (numbered name n) ≡ false → free_number used name (end - n) n ≡ Some n
here-free used name n end lt h =
    let one : end - n ≡ suc (end - (n + 1)) = omega (arith, lt) in
    ap (λ m. free_number used name m n) one ∙ opened used name (end - (n + 1)) n false h

pub here-used : (used : List (List ℕ)) (name : List ℕ) (n end : ℕ) → n < end → is_used used (numbered name n) ≡ true
    → free_number used name (end - n) n ≡ free_number used name (end - (n + 1)) (n + 1)
here-used used name n end lt h =
    let one : end - n ≡ suc (end - (n + 1)) = omega (arith, lt) in
    ap (λ m. free_number used name m n) one ∙ opened used name (end - (n + 1)) n true h

-- what is said of a name that is made
pub said : (m : Names) (used : List (List ℕ)) (name made : List ℕ) (number : ℕ) (b v : Bool) → AreKept m used → b ≡ is_some (get_by_text m.taken made)
    → made ≡ numbered name number → b ≡ v → is_used used (numbered name number) ≡ v
said m used name made number b v k is is-made e = ap (is_used used) (sym is-made) ∙ sym (k.kept made) ∙ sym is ∙ e

-- numbers that are used are passed over
pub skipped : (used : List (List ℕ)) (name : List ℕ) (d most n : ℕ) → ((k : ℕ) → n ≤ k → k < n + d → is_used used (numbered name k) ≡ true) →
    free_number used name (most + d) n ≡ free_number used name most (n + d)
skipped used name zero most n h = rw (add-zero most, add-zero n)
skipped used name (suc d) most n h =
    let here : is_used used (numbered name n) ≡ true = h n (omega arith) (omega arith) in
    let more : (k : ℕ) → n + 1 ≤ k → k < (n + 1) + d → is_used used (numbered name k) ≡ true = λ k lo hi. h k (omega arith) (omega arith) in
    let same : (n + 1) + d ≡ n + suc d = omega arith in
    ap (λ m. free_number used name m n) (add-suc most d) ∙ step used name (most + d) n here ∙ skipped used name d most (n + 1) more
    ∙ ap (free_number used name most) same

-- what is known of the first number
pub record IsFirst (used : List (List ℕ)) (name : List ℕ) (most n r : ℕ) : Type 0 where
  pub free : is_used used (numbered name r) ≡ false
  pub least : n ≤ r
  pub below : r < n + most
  pub before : (k : ℕ) → n ≤ k → k < r → is_used used (numbered name k) ≡ true

later : (used : List (List ℕ)) (name : List ℕ) (most n r : ℕ) → is_used used (numbered name n) ≡ true → IsFirst used name most (n + 1) r → IsFirst used name (suc most) n r
later used name most n r is rest =
    let least = rest.least in
    let below = rest.below in
    record {
      free = rest.free;
      least = omega (arith, least);
      below = omega (arith, below);
      before = λ k lo hi. elim (eqb_tells k n) [
        | inl p ↦ ap (λ j. is_used used (numbered name j)) p.1 ∙ is
        | inr p ↦ (let apart = p.1 in rest.before k (omega (arith, apart)) hi)
      ];
    }

at-once : (used : List (List ℕ)) (name : List ℕ) (most n r : ℕ) → is_used used (numbered name n) ≡ false → n ≡ r → IsFirst used name (suc most) n r
at-once used name most n r is same = record {
  free = ap (λ j. is_used used (numbered name j)) (sym same) ∙ is;
  least = omega arith;
  below = omega arith;
  before = λ k lo hi. absurd (omega arith);
}

by-test : (used : List (List ℕ)) (name : List ℕ) (most n r : ℕ) (b : Bool) → is_used used (numbered name n) ≡ b
    → (free_number used name most (n + 1) ≡ Some r → IsFirst used name most (n + 1) r)
    → (elim b as (λ _. Option ℕ) [ true ↦ free_number used name most (n + 1) | false ↦ Some n ]) ≡ Some r
    → IsFirst used name (suc most) n r
by-test used name most n r true is rec e = later used name most n r is (rec e)
by-test used name most n r false is rec e = let same : n ≡ r = cc in at-once used name most n r is same

pub first : (used : List (List ℕ)) (name : List ℕ) (most n r : ℕ) → free_number used name most n ≡ Some r → IsFirst used name most n r
first used name zero n r e = absurd (cc)
first used name (suc most) n r e = by-test used name most n r (is_used used (numbered name n)) refl (λ h. first used name most (n + 1) r h) e

-- Names

pub itself : (name : List ℕ) → bytes_eq name name ≡ true
itself name = (bytes_eq-Decides name name).1 refl

also : (used : List (List ℕ)) (name q : List ℕ) → is_used used q ≡ true → is_used (name ∷ used) q ≡ true
also used name q h = ap (λ v. bytes_eq name q || v) h ∙ or-true (bytes_eq name q)

-- one more is kept
pub kept_more : (m n : Names) (used : List (List ℕ)) (name : List ℕ) → AreKept m used → is_used used name ≡ false
    → ((q : List ℕ) → get_by_text n.taken q ≡ cond (bytes_eq name q) (Some 1) (get_by_text m.taken q))
    → btree_map_len n.taken ≡ btree_map_len m.taken + 1 → AreKept n (name ∷ used)
kept_more m n used name k free put len =
    let was = k.len in
    record {
      kept = λ q. ap is_some (put q) ∙ kept_at q (bytes_eq name q);
      least = λ q last e. least_at q last (bytes_eq name q) (sym (put q) ∙ e);
      most = λ q last e. most_at q last (bytes_eq name q) (sym (put q) ∙ e);
      tried = λ q last j e lo hi. tried_at q last j (bytes_eq name q) (sym (put q) ∙ e) lo hi;
      len = omega (arith, was, len);
    }
  where
    kept_at : (q : List ℕ) (b : Bool) → is_some (cond b (Some 1) (get_by_text m.taken q)) ≡ (b || is_used used q)
    kept_at q true = refl
    kept_at q false = k.kept q

    least_at : (q : List ℕ) (last : ℕ) (b : Bool) → cond b (Some 1) (get_by_text m.taken q) ≡ Some last → 1 ≤ last
    least_at q last true e = let same : 1 ≡ last = cc in omega arith
    least_at q last false e = k.least q last e

    most_at : (q : List ℕ) (last : ℕ) (b : Bool) → cond b (Some 1) (get_by_text m.taken q) ≡ Some last → last ≤ length (name ∷ used) + 1
    most_at q last true e = let same : 1 ≡ last = cc in omega arith
    most_at q last false e = let h = k.most q last e in omega (arith, h)

    tried_at : (q : List ℕ) (last j : ℕ) (b : Bool) → cond b (Some 1) (get_by_text m.taken q) ≡ Some last → 2 ≤ j → j ≤ last
        → is_used (name ∷ used) (numbered q j) ≡ true
    tried_at q last j true e lo hi = let same : 1 ≡ last = cc in absurd (omega arith)
    tried_at q last j false e lo hi = also used name (numbered q j) (k.tried q last j e lo hi)

-- another number is kept with one
pub kept_again : (m n : Names) (used : List (List ℕ)) (name : List ℕ) (number : ℕ) → AreKept m used → is_used used name ≡ true
    → 1 ≤ number → number ≤ length used + 1 → ((j : ℕ) → 2 ≤ j → j ≤ number → is_used used (numbered name j) ≡ true)
    → ((q : List ℕ) → get_by_text n.taken q ≡ cond (bytes_eq name q) (Some number) (get_by_text m.taken q))
    → btree_map_len n.taken ≡ btree_map_len m.taken → AreKept n used
kept_again m n used name number k there least most tried put len =
    record {
      kept = λ q. ap is_some (put q) ∙ kept_at q (bytes_eq name q) refl;
      least = λ q last e. least_at q last (bytes_eq name q) (sym (put q) ∙ e);
      most = λ q last e. most_at q last (bytes_eq name q) (sym (put q) ∙ e);
      tried = λ q last j e lo hi. tried_at q last j (bytes_eq name q) refl (sym (put q) ∙ e) lo hi;
      len = len ∙ k.len;
    }
  where
    kept_at : (q : List ℕ) (b : Bool) → bytes_eq name q ≡ b → is_some (cond b (Some number) (get_by_text m.taken q)) ≡ is_used used q
    kept_at q true is = sym (ap (is_used used) (sym ((bytes_eq-Decides name q).0 is)) ∙ there)
    kept_at q false is = k.kept q

    least_at : (q : List ℕ) (last : ℕ) (b : Bool) → cond b (Some number) (get_by_text m.taken q) ≡ Some last → 1 ≤ last
    least_at q last true e = let same : number ≡ last = cc in omega arith
    least_at q last false e = k.least q last e

    most_at : (q : List ℕ) (last : ℕ) (b : Bool) → cond b (Some number) (get_by_text m.taken q) ≡ Some last → last ≤ length used + 1
    most_at q last true e = let same : number ≡ last = cc in omega arith
    most_at q last false e = k.most q last e

    tried_at : (q : List ℕ) (last j : ℕ) (b : Bool) → bytes_eq name q ≡ b → cond b (Some number) (get_by_text m.taken q) ≡ Some last → 2 ≤ j → j ≤ last
        → is_used used (numbered q j) ≡ true
    tried_at q last j true is e lo hi =
        let same : number ≡ last = cc in
        ap (λ w. is_used used (numbered w j)) (sym ((bytes_eq-Decides name q).0 is)) ∙ tried j lo (omega arith)
    tried_at q last j false is e lo hi = k.tried q last j e lo hi

-- Names that are used

pub used_is : (m : Names) (used : List (List ℕ)) (name : List ℕ) (last : ℕ) → AreKept m used → get_by_text m.taken name ≡ Some last → is_used used name ≡ true
used_is m used name last k e = sym (k.kept name) ∙ ap is_some e

if_used : (used : List (List ℕ)) (name : List ℕ) → is_used used name ≡ true → unique used name ≡ option_map (numbered name) (free_number used name (length used) 2)
if_used used name h = rw h

pub if_free : (used : List (List ℕ)) (name : List ℕ) → is_used used name ≡ false → unique used name ≡ Some name
if_free used name h = rw h

-- the search begins behind the last number that was tried
pub from_last : (m : Names) (used : List (List ℕ)) (name : List ℕ) (last from end : ℕ) → AreKept m used → get_by_text m.taken name ≡ Some last
    → end ≡ btree_map_len m.taken + 2 → from ≡ last + 1 → unique used name ≡ option_map (numbered name) (free_number used name (end - from) from)
from_last m used name last from end k e is-end is-from =
    let least = k.least name last e in
    let most = k.most name last e in
    let len = k.len in
    let all : (end - from) + (last - 1) ≡ length used = omega (arith, least, most, len) in
    let begins : 2 + (last - 1) ≡ from = omega (arith, least) in
    let passed : (j : ℕ) → 2 ≤ j → j < 2 + (last - 1) → is_used used (numbered name j) ≡ true = λ j lo hi. k.tried name last j e lo (omega arith) in
    if_used used name (used_is m used name last k e)
    ∙ ap (λ o. option_map (numbered name) o)
    (ap (λ w. free_number used name w 2) (sym all) ∙ skipped used name (last - 1) (end - from) 2 passed ∙ ap (free_number used name (end - from)) begins)

-- none is free
pub none_made : (m : Names) (used : List (List ℕ)) (name : List ℕ) (last from end : ℕ) → AreKept m used → get_by_text m.taken name ≡ Some last
    → end ≡ btree_map_len m.taken + 2 → from ≡ last + 1 → free_number used name (end - from) from ≡ None → unique used name ≡ None
none_made m used name last from end k e is-end is-from none =
    from_last m used name last from end k e is-end is-from ∙ ap (λ o. option_map (numbered name) o) none

pub none_kept : (m : Names) (used : List (List ℕ)) (name : List ℕ) (last from end : ℕ) → AreKept m used → get_by_text m.taken name ≡ Some last
    → end ≡ btree_map_len m.taken + 2 → from ≡ last + 1 → free_number used name (end - from) from ≡ None → AreKept m (with_made used (unique used name))
none_kept m used name last from end k e is-end is-from none =
    subst (λ o. AreKept m (with_made used o)) (sym (none_made m used name last from end k e is-end is-from none)) k

-- one is
pub one_made : (m : Names) (used : List (List ℕ)) (name made : List ℕ) (last from end number : ℕ) → AreKept m used → get_by_text m.taken name ≡ Some last
    → end ≡ btree_map_len m.taken + 2 → from ≡ last + 1 → free_number used name (end - from) from ≡ Some number → made ≡ numbered name number
    → unique used name ≡ Some made
one_made m used name made last from end number k e is-end is-from found is-made =
    from_last m used name last from end k e is-end is-from ∙ ap (λ o. option_map (numbered name) o) found ∙ ap (λ t. Some t) (sym is-made)

-- a name that isn't used is kept
pub free_kept : (m n : Names) (used : List (List ℕ)) (name key : List ℕ) → AreKept m used → get_by_text m.taken name ≡ None → key ≡ name
    → ((q : List ℕ) → get_by_text n.taken q ≡ cond (bytes_eq key q) (Some 1) (get_by_text m.taken q))
    → btree_map_len n.taken ≡ btree_map_len m.taken + cond (is_some (get_by_text m.taken key)) 0 1
    → AreKept n (with_made used (unique used name))
free_kept m n used name key k e same put len =
    let free : is_used used name ≡ false = sym (k.kept name) ∙ ap is_some e in
    let key-free : is_used used key ≡ false = ap (is_used used) same ∙ free in
    let none : is_some (get_by_text m.taken key) ≡ false = k.kept key ∙ key-free in
    let one : AreKept n (key ∷ used) = kept_more m n used key k key-free put (len ∙ ap (λ b. btree_map_len m.taken + cond b 0 1) none) in
    subst (λ o. AreKept n (with_made used o)) (sym (if_free used name free)) (subst (λ t. AreKept n (t ∷ used)) same one)

-- one more name is kept, unless it is
pub added : (m n : Names) (used : List (List ℕ)) (name key : List ℕ) → AreKept m used → is_some (get_by_text m.taken name) ≡ false → key ≡ name
    → ((q : List ℕ) → get_by_text n.taken q ≡ cond (bytes_eq key q) (Some 1) (get_by_text m.taken q))
    → btree_map_len n.taken ≡ btree_map_len m.taken + cond (is_some (get_by_text m.taken key)) 0 1
    → AreKept n (with_name used name)
added m n used name key k none same put len =
    let free : is_used used name ≡ false = sym (k.kept name) ∙ none in
    let key-free : is_used used key ≡ false = ap (is_used used) same ∙ free in
    let key-none : is_some (get_by_text m.taken key) ≡ false = k.kept key ∙ key-free in
    let one : AreKept n (key ∷ used) = kept_more m n used key k key-free put (len ∙ ap (λ b. btree_map_len m.taken + cond b 0 1) key-none) in
    subst (λ (b : Bool). AreKept n (cond b used (name ∷ used))) (sym free) (subst (λ t. AreKept n (t ∷ used)) same one)

pub there : (m : Names) (used : List (List ℕ)) (name : List ℕ) → AreKept m used → is_some (get_by_text m.taken name) ≡ true → AreKept m (with_name used name)
there m used name k some =
    subst (λ (b : Bool). AreKept m (cond b used (name ∷ used))) (sym (sym (k.kept name) ∙ some)) k

-- what is kept once the name with the number is
pub kept_both : (m one two : Names) (used : List (List ℕ)) (name made : List ℕ) (last from end number : ℕ) → AreKept m used → get_by_text m.taken name ≡ Some last
    → end ≡ btree_map_len m.taken + 2 → from ≡ last + 1 → free_number used name (end - from) from ≡ Some number → made ≡ numbered name number
    → ((q : List ℕ) → get_by_text one.taken q ≡ cond (bytes_eq made q) (Some 1) (get_by_text m.taken q))
    → btree_map_len one.taken ≡ btree_map_len m.taken + cond (is_some (get_by_text m.taken made)) 0 1
    → ((q : List ℕ) → get_by_text two.taken q ≡ cond (bytes_eq name q) (Some number) (get_by_text one.taken q))
    → btree_map_len two.taken ≡ btree_map_len one.taken + cond (is_some (get_by_text one.taken name)) 0 1
    → AreKept two (with_made used (unique used name))
kept_both m one two used name made last from end number k e is-end is-from found is-made put len put-again len-again =
    let least = k.least name last e in
    let most = k.most name last e in
    let was = k.len in
    let f : IsFirst used name (end - from) from number = first used name (end - from) from number found in
    let lo = f.least in
    let hi = f.below in
    let free : is_used used made ≡ false = ap (is_used used) is-made ∙ f.free in
    let none : is_some (get_by_text m.taken made) ≡ false = k.kept made ∙ free in
    let len-one : btree_map_len one.taken ≡ btree_map_len m.taken + 1 = len ∙ ap (λ b. btree_map_len m.taken + cond b 0 1) none in
    let k1 : AreKept one (made ∷ used) = kept_more m one used made k free put len-one in
    let there : is_used (made ∷ used) name ≡ true = also used made name (used_is m used name last k e) in
    let some : is_some (get_by_text one.taken name) ≡ true = k1.kept name ∙ there in
    let len-two : btree_map_len two.taken ≡ btree_map_len one.taken = len-again ∙ ap (λ b. btree_map_len one.taken + cond b 0 1) some ∙ add-zero (btree_map_len one.taken) in
    let both : AreKept two (made ∷ used) = kept_again one two (made ∷ used) name number k1 there (omega (arith, lo)) (omega (arith, lo, hi, least, most, was)) tried put-again len-two in
    subst (λ o. AreKept two (with_made used o)) (sym (one_made m used name made last from end number k e is-end is-from found is-made)) both
  where
    tried : (j : ℕ) → 2 ≤ j → j ≤ number → is_used (made ∷ used) (numbered name j) ≡ true
    tried j two-le le = elim (eqb_tells j number) [
      | inl p ↦ ap (λ v. v || is_used used (numbered name j)) (ap (λ w. bytes_eq made w) (ap (numbered name) p.1 ∙ sym is-made) ∙ itself made)
      | inr p ↦ (
          let apart = p.1 in
          let f : IsFirst used name (end - from) from number = first used name (end - from) from number found in
          also used made (numbered name j) (elim (cases_lt j from) [
            | inl lt ↦ k.tried name last j e two-le (omega (arith, lt))
            | inr ge ↦ f.before j ge (omega (arith, apart))
          ]))
    ]
