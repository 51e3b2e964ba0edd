-- An element leaves, and a new one comes to stand inside of the one behind it: what is known of those further in.
use Rattle.std.proofs.Common.{ap, arith, inl, inr, sym, subst, ◌∙◌, ◌≡◌, ◌≢◌, ◌+◌, ◌≤◌, ◌<◌, ◌&&◌, ◌++◌, ◌==◌, ◌||◌, ◌∷◌, ◌⊎◌, [], Bool, IsTrue, List, add-one, drop, false, get_or, length, length-append, not, refl, set, suc, take, true, zero, ℕ}
use Rattle.std.proofs.Math.Seq.{take-append_seam, take-length}
use Rattle.std.proofs.lemmas.Bool.{and_from, and_parts, lt-ltb}
use Rattle.std.proofs.lemmas.Bool.Decides.{eqb_tells}
use Rattle.std.proofs.lemmas.List.{append-nil, append_assoc, get_or-set_other, get_or-set_same, length-map, length-set, length-take-le, map-append}
use Rattle.std.proofs.lemmas.List.Folds.{list_all-append}
use Rattle.std.specs.List.{list_all, list_any}
use Rattle.tl_tree.proofs.Listed.{all-drop}
use Rattle.tl_tree.proofs.Skips.{AreSound, ArePlaced, apart, name_kept_at, name_kept_of, kept-front, kept_at, kept_of, kind-raised, skips-front, skips-past}
use Rattle.tl_tree.specs.Inner.Entered.{turned, turned_after}
use Rattle.tl_tree.specs.Inner.Roles.{is_elsewhere, is_not_of, is_numbered, is_within}
use Rattle.tl_tree.specs.Inner.Scoped.{are_kept, elements, has_name, limit_at, numbers, raised, skips}
use Rattle.tl_tree.specs.declared.role.Entered.{Entered}
use Rattle.tl_tree.specs.declared.role.Kind.{Kind}
use Rattle.tl_tree.specs.declared.role.Kind.TheVariants.{Decisive, Html, ItemBound, Scope, Special}
use Rattle.tl_tree.specs.declared.role.Role.{Role}
use Rattle.tl_tree.specs.declared.scopes.Entry.{Entry}
use Rattle.tl_tree.specs.declared.scopes.Limits.{Limits}

-- What is left where all is cut away

turned-front : (outer : List Entered) (new : Entered) (rest : List Entered) → take (length outer) (turned_after outer new rest) ≡ outer
turned-front outer new [] = take-length outer
turned-front outer new (x ∷ rest) = take-append_seam outer (x ∷ new ∷ rest)

pub cut-turned : (place : ℕ) (new : Entered) (old left : List Entered) → left ≡ take place old → left ≡ take (length left) (turned place new old)
unfolding turned
cut-turned place new old left is =
    is ∙ sym (ap (λ (n : ℕ). take n (turned_after (take place old) new (drop (suc place) old))) (ap length is) ∙ turned-front (take place old) new (drop (suc place) old))

-- Limits, where the new one passes each test that the one before it passes

pub skips-turned : (test : Entered → Bool) (n : ℕ) (outer inner : List Entered) (gone inside own new : Entered) → (IsTrue (test inside) → IsTrue (test own)) → (IsTrue (test inside) → IsTrue (test new)) → IsTrue (skips test n (outer ++ gone ∷ inside ∷ inner)) → IsTrue (skips test n (outer ++ own ∷ new ∷ inner))
skips-turned test zero [] inner gone inside own new first passes all =
    let p = and_parts (test gone) (test inside && list_all test inner) all in
    let q = and_parts (test inside) (list_all test inner) p.1 in
    and_from (test own) (test new && list_all test inner) (first q.0) (and_from (test new) (list_all test inner) (passes q.0) q.1)
skips-turned test (suc zero) [] inner gone inside own new first passes all =
    let q = and_parts (test inside) (list_all test inner) all in
    and_from (test new) (list_all test inner) (passes q.0) q.1
skips-turned test (suc (suc n)) [] inner gone inside own new first passes all = all
skips-turned test zero (x ∷ outer) inner gone inside own new first passes all =
    let p = and_parts (test x) (list_all test (outer ++ gone ∷ inside ∷ inner)) all in
    and_from (test x) (list_all test (outer ++ own ∷ new ∷ inner)) p.0 (skips-turned test zero outer inner gone inside own new first passes p.1)
skips-turned test (suc n) (x ∷ outer) inner gone inside own new first passes all =
    skips-turned test n outer inner gone inside own new first passes all

-- a limit that lies further in
skips-further : (test : Entered → Bool) (n m : ℕ) (xs : List Entered) → n ≤ m → IsTrue (skips test n xs) → IsTrue (skips test m xs)
skips-further test zero m xs h all = all-drop test m xs all
skips-further test (suc n) zero xs h all = absurd (omega arith)
skips-further test (suc n) (suc m) [] h all = refl
skips-further test (suc n) (suc m) (x ∷ xs) h all = skips-further test n m xs (omega arith) all

inner-of : (outer inner : List Entered) (one other : Entered) → drop (suc (suc (length outer))) (outer ++ one ∷ other ∷ inner) ≡ inner
inner-of [] inner one other = refl
inner-of (x ∷ outer) inner one other = inner-of outer inner one other

-- from there on none is in the name of the new one
skips-inner : (test : Entered → Bool) (n : ℕ) (outer inner : List Entered) (gone inside : Entered) → n ≤ suc (suc (length outer)) → IsTrue (skips test n (outer ++ gone ∷ inside ∷ inner)) → IsTrue (list_all test inner)
skips-inner test n outer inner gone inside h all =
    subst (λ (xs : List Entered). IsTrue (list_all test xs)) (inner-of outer inner gone inside)
    (skips-further test n (suc (suc (length outer))) (outer ++ gone ∷ inside ∷ inner) h all)

skips-at : (test : Entered → Bool) (n : ℕ) (outer inner : List Entered) (inside new : Entered) → n ≡ suc (suc (length outer)) → IsTrue (list_all test inner) → IsTrue (skips test n (outer ++ inside ∷ new ∷ inner))
skips-at test n outer inner inside new is all =
    subst (λ (m : ℕ). IsTrue (skips test m (outer ++ inside ∷ new ∷ inner))) (sym is)
    (subst (λ (xs : List Entered). IsTrue (list_all test xs)) (sym (inner-of outer inner inside new)) all)

-- What entries keep

module _ (test : Entry → Entered → Bool) (limit : Entry → ℕ) where
  kept-behind : (outer : List Entered) (entries rest : List Entry) → IsTrue (are_kept test limit outer (entries ++ rest)) → IsTrue (are_kept test limit (outer ++ elements entries) rest)
  kept-behind outer [] rest all =
      subst (λ (xs : List Entered). IsTrue (are_kept test limit xs rest)) (sym (append-nil outer)) all
  kept-behind outer (x ∷ entries) rest all =
      let p = and_parts (skips (test x) (limit x) outer) (are_kept test limit (outer ++ x.own ∷ []) (entries ++ rest)) all in
      subst (λ (xs : List Entered). IsTrue (are_kept test limit xs rest)) (append_assoc outer (x.own ∷ []) (elements entries))
      (kept-behind (outer ++ x.own ∷ []) entries rest p.1)

  kept-joined : (outer : List Entered) (entries rest : List Entry) → IsTrue (are_kept test limit outer entries) → IsTrue (are_kept test limit (outer ++ elements entries) rest) → IsTrue (are_kept test limit outer (entries ++ rest))
  kept-joined outer [] rest front behind =
      subst (λ (xs : List Entered). IsTrue (are_kept test limit xs rest)) (append-nil outer) behind
  kept-joined outer (x ∷ entries) rest front behind =
      let p = and_parts (skips (test x) (limit x) outer) (are_kept test limit (outer ++ x.own ∷ []) entries) front in
      and_from (skips (test x) (limit x) outer) (are_kept test limit (outer ++ x.own ∷ []) (entries ++ rest)) p.0
      (kept-joined (outer ++ x.own ∷ []) entries rest p.1
      (subst (λ (xs : List Entered). IsTrue (are_kept test limit xs rest)) (sym (append_assoc outer (x.own ∷ []) (elements entries))) behind))

  -- those further in keep what they kept, where for each of them the new one passes
  kept-inner : (fits : Entered → Bool) (outer more : List Entered) (gone inside own new : Entered) (inner : List Entry) → ((e : Entry) → IsTrue (test e inside) → IsTrue (test e own)) → ((e : Entry) → IsTrue (fits e.own) → IsTrue (test e inside) → IsTrue (test e new)) → IsTrue (list_all fits (elements inner)) → IsTrue (are_kept test limit (outer ++ gone ∷ inside ∷ more) inner) → IsTrue (are_kept test limit (outer ++ own ∷ new ∷ more) inner)
  kept-inner fits outer more gone inside own new [] first passes all kept = refl
  kept-inner fits outer more gone inside own new (e ∷ inner) first passes all kept =
      let f = and_parts (fits e.own) (list_all fits (elements inner)) all in
      let p = and_parts (skips (test e) (limit e) (outer ++ gone ∷ inside ∷ more)) (are_kept test limit ((outer ++ gone ∷ inside ∷ more) ++ e.own ∷ []) inner) kept in
      and_from (skips (test e) (limit e) (outer ++ own ∷ new ∷ more)) (are_kept test limit ((outer ++ own ∷ new ∷ more) ++ e.own ∷ []) inner)
      (skips-turned (test e) (limit e) outer more gone inside own new (first e) (passes e f.0) p.0)
      (subst (λ (xs : List Entered). IsTrue (are_kept test limit xs inner)) (sym (append_assoc outer (own ∷ new ∷ more) (e.own ∷ [])))
      (kept-inner fits outer (more ++ e.own ∷ []) gone inside own new inner first passes f.1
      (subst (λ (xs : List Entered). IsTrue (are_kept test limit xs inner)) (append_assoc outer (gone ∷ inside ∷ more) (e.own ∷ [])) p.1)))

  pub kept-turned : (fits : Entered → Bool) (outer inner : List Entry) (gone inside a b : Entry) → ((e : Entry) → IsTrue (test e inside.own) → IsTrue (test e a.own)) → ((e : Entry) → IsTrue (fits e.own) → IsTrue (test e inside.own) → IsTrue (test e b.own)) → IsTrue (list_all fits (elements inner)) → IsTrue (are_kept test limit [] (outer ++ gone ∷ inside ∷ inner)) → (IsTrue (skips (test gone) (limit gone) (elements outer)) → IsTrue (skips (test inside) (limit inside) (elements outer ++ gone.own ∷ [])) → IsTrue (skips (test a) (limit a) (elements outer)) × IsTrue (skips (test b) (limit b) (elements outer ++ a.own ∷ []))) → IsTrue (are_kept test limit [] (outer ++ a ∷ b ∷ inner))
  kept-turned fits outer inner gone inside a b first passes all kept own =
      let xs = elements outer in
      let p = and_parts (skips (test gone) (limit gone) xs) (skips (test inside) (limit inside) (xs ++ gone.own ∷ []) && are_kept test limit ((xs ++ gone.own ∷ []) ++ inside.own ∷ []) inner) (kept-behind [] outer (gone ∷ inside ∷ inner) kept) in
      let q = and_parts (skips (test inside) (limit inside) (xs ++ gone.own ∷ [])) (are_kept test limit ((xs ++ gone.own ∷ []) ++ inside.own ∷ []) inner) p.1 in
      let ends = own p.0 q.0 in
      let old : IsTrue (are_kept test limit (xs ++ gone.own ∷ inside.own ∷ []) inner) = subst (λ (ys : List Entered). IsTrue (are_kept test limit ys inner)) (append_assoc xs (gone.own ∷ []) (inside.own ∷ [])) q.1 in
      let new : IsTrue (are_kept test limit ((xs ++ a.own ∷ []) ++ b.own ∷ []) inner) =
      subst (λ (ys : List Entered). IsTrue (are_kept test limit ys inner)) (sym (append_assoc xs (a.own ∷ []) (b.own ∷ [])))
      (kept-inner fits xs [] gone.own inside.own a.own b.own inner first passes all old) in
      kept-joined [] outer (a ∷ b ∷ inner) (kept-front test limit [] outer (gone ∷ inside ∷ inner) kept)
      (and_from (skips (test a) (limit a) xs) (skips (test b) (limit b) (xs ++ a.own ∷ []) && are_kept test limit ((xs ++ a.own ∷ []) ++ b.own ∷ []) inner) ends.0
      (and_from (skips (test b) (limit b) (xs ++ a.own ∷ [])) (are_kept test limit ((xs ++ a.own ∷ []) ++ b.own ∷ []) inner) ends.1 new))

-- Places

pub number-first : (outer inner : List Entry) (a b : Entry) → get_or (numbers (outer ++ a ∷ b ∷ inner)) (length outer) 0 ≡ a.own.number
number-first [] inner a b = refl
number-first (x ∷ outer) inner a b = number-first outer inner a b

pub number-second : (outer inner : List Entry) (a b : Entry) → get_or (numbers (outer ++ a ∷ b ∷ inner)) (suc (length outer)) 0 ≡ b.own.number
number-second [] inner a b = refl
number-second (x ∷ outer) inner a b = number-second outer inner a b

pub number-other : (outer inner : List Entry) (a b c d : Entry) (place : ℕ) → place ≢ length outer → place ≢ suc (length outer) → get_or (numbers (outer ++ a ∷ b ∷ inner)) place 0 ≡ get_or (numbers (outer ++ c ∷ d ∷ inner)) place 0
number-other [] inner a b c d zero first second = absurd (first refl)
number-other [] inner a b c d (suc zero) first second = absurd (second refl)
number-other [] inner a b c d (suc (suc place)) first second = refl
number-other (x ∷ outer) inner a b c d zero first second = refl
number-other (x ∷ outer) inner a b c d (suc place) first second =
    number-other outer inner a b c d place (λ (same : place ≡ length outer). first (ap suc same)) (λ (same : place ≡ suc (length outer)). second (ap suc same))

-- an element stands at a place, at the next one, or elsewhere
pub which : (place many : ℕ) → (place ≡ many) ⊎ ((place ≡ suc many) ⊎ ((place ≢ many) × (place ≢ suc many)))
which place many =
    elim (eqb_tells place many) [
      | inl same ↦ inl same.1
      | inr first ↦ elim (eqb_tells place (suc many)) [ inl same ↦ inr (inl same.1) | inr second ↦ inr (inr (first.1, second.1)) ]
    ]

pub length-turned : (outer inner : List Entry) (a b c d : Entry) → length (outer ++ a ∷ b ∷ inner) ≡ length (outer ++ c ∷ d ∷ inner)
length-turned [] inner a b c d = refl
length-turned (x ∷ outer) inner a b c d = ap suc (length-turned outer inner a b c d)

module _ (places : List ℕ) (outer inner : List Entry) (gone inside a b : Entry) (same : a.own.number ≡ inside.own.number) (other : b.own.number ≢ inside.own.number) (b-in : b.own.number < length places) (b-at : get_or places b.own.number 0 ≡ suc (length outer)) (old : ArePlaced places (outer ++ gone ∷ inside ∷ inner)) where
  inside-within : inside.own.number < length places
  inside-within =
      subst (λ (n : ℕ). n < length places) (number-second outer inner gone inside)
      (old.within (suc (length outer)) (omega (arith, length-append outer (gone ∷ inside ∷ inner))))

  inside-here : get_or places inside.own.number 0 ≡ suc (length outer)
  inside-here =
      ap (λ (n : ℕ). get_or places n 0) (sym (number-second outer inner gone inside))
      ∙ old.here (suc (length outer)) (omega (arith, length-append outer (gone ∷ inside ∷ inner)))

  other-apart : (place : ℕ) → place < length (outer ++ gone ∷ inside ∷ inner) → place ≢ suc (length outer) → get_or (numbers (outer ++ gone ∷ inside ∷ inner)) place 0 ≢ inside.own.number
  other-apart place h second is =
      second (sym (old.here place h) ∙ (ap (λ (n : ℕ). get_or places n 0) is ∙ inside-here))

  moved-within : (place : ℕ) → place < length (outer ++ a ∷ b ∷ inner) → get_or (numbers (outer ++ a ∷ b ∷ inner)) place 0 < length (set places inside.own.number (length outer))
  moved-within place h =
      subst (λ (n : ℕ). get_or (numbers (outer ++ a ∷ b ∷ inner)) place 0 < n) (sym (length-set places inside.own.number (length outer)))
      (elim (which place (length outer)) [
        | inl first ↦ subst (λ (n : ℕ). n < length places) (sym (ap (λ (n : ℕ). get_or (numbers (outer ++ a ∷ b ∷ inner)) n 0) first ∙ (number-first outer inner a b ∙ same))) inside-within
        | inr behind ↦ elim behind [
          | inl second ↦ subst (λ (n : ℕ). n < length places) (sym (ap (λ (n : ℕ). get_or (numbers (outer ++ a ∷ b ∷ inner)) n 0) second ∙ number-second outer inner a b)) b-in
          | inr far ↦ subst (λ (n : ℕ). n < length places) (sym (number-other outer inner a b gone inside place far.0 far.1))
              (old.within place (omega (arith, length-turned outer inner a b gone inside)))
        ]
      ])

  moved-here : (place : ℕ) → place < length (outer ++ a ∷ b ∷ inner) → get_or (set places inside.own.number (length outer)) (get_or (numbers (outer ++ a ∷ b ∷ inner)) place 0) 0 ≡ place
  moved-here place h =
      elim (which place (length outer)) [
        | inl first ↦ ap (λ (n : ℕ). get_or (set places inside.own.number (length outer)) n 0) (ap (λ (n : ℕ). get_or (numbers (outer ++ a ∷ b ∷ inner)) n 0) first ∙ (number-first outer inner a b ∙ same))
            ∙ (get_or-set_same places inside.own.number (length outer) 0 inside-within ∙ sym first)
        | inr behind ↦ elim behind [
          | inl second ↦ ap (λ (n : ℕ). get_or (set places inside.own.number (length outer)) n 0) (ap (λ (n : ℕ). get_or (numbers (outer ++ a ∷ b ∷ inner)) n 0) second ∙ number-second outer inner a b)
              ∙ (get_or-set_other places inside.own.number b.own.number (length outer) 0 other ∙ (b-at ∙ sym second))
          | inr far ↦ (let within : place < length (outer ++ gone ∷ inside ∷ inner) = omega (arith, length-turned outer inner a b gone inside) in
              ap (λ (n : ℕ). get_or (set places inside.own.number (length outer)) n 0) (number-other outer inner a b gone inside place far.0 far.1)
              ∙ (get_or-set_other places inside.own.number (get_or (numbers (outer ++ gone ∷ inside ∷ inner)) place 0) (length outer) 0 (other-apart place within far.1) ∙ old.here place within))
        ]
      ]

  placed-turned : ArePlaced (set places inside.own.number (length outer)) (outer ++ a ∷ b ∷ inner)
  placed-turned = record { within = moved-within; here = moved-here }

-- All of it

-- what comes to stand in place of the two: the inner one of them, and the new one
abbrev pub moved : Entry → Entry → Entry
moved gone inside = record { own = inside.own; limits = gone.limits; name = inside.name }

abbrev pub added : Entry → Entry → Entered → ℕ → Entry
added gone inside new place =
    record { own = new; limits = raised gone.limits inside.own.role (place + 1); name = place + 1 }

pub elements-two : (outer inner : List Entry) (a b : Entry) → elements (outer ++ a ∷ b ∷ inner) ≡ elements outer ++ a.own ∷ b.own ∷ elements inner
elements-two outer inner a b = map-append (λ (entry : Entry). entry.own) outer (a ∷ b ∷ inner)

pub all-true : (xs : List Entered) → IsTrue (list_all (λ (x : Entered). true) xs)
all-true [] = refl
all-true (x ∷ xs) = all-true xs

elsewhere-swap : (x new : Entered) → IsTrue (is_elsewhere new.role.name x) → IsTrue (is_elsewhere x.role.name new)
elsewhere-swap x new other =
    elim (eqb_tells new.role.name x.role.name) [
      | inl same ↦ subst (λ (n : ℕ). IsTrue (not (new.role.name == n))) same.1 (subst (λ (n : ℕ). IsTrue (not (n == new.role.name))) (sym same.1) other)
      | inr apart ↦ ap not apart.0
    ]

-- the element at a place leaves
pub sound-turned : (outer inner : List Entry) (gone inside : Entry) (new : Entered) (limits : Limits) (names places : List ℕ) (place : ℕ) → place ≡ length outer → ((kind : Kind) → IsTrue (is_not_of kind inside.own) → IsTrue (is_not_of kind new)) → get_or names new.role.name 0 ≤ place + 2 → new.role.name < length names → new.number < length places → get_or places new.number 0 ≡ place + 1 → list_any (is_numbered new.number) (elements (outer ++ gone ∷ inside ∷ inner)) ≡ false → AreSound (outer ++ gone ∷ inside ∷ inner) limits names places → AreSound (outer ++ moved gone inside ∷ added gone inside new place ∷ inner) limits (set names new.role.name (place + 2)) (set places inside.own.number place)
sound-turned outer inner gone inside new limits names places place deep fewer near name within at none old =
    let a = moved gone inside in
    let b = added gone inside new place in
    let xs = elements outer in
    let ys = elements inner in
    let deep-own : length xs ≡ place = length-map outer (λ (entry : Entry). entry.own) ∙ sym deep in
    let was = λ (test : Entered → Bool) (n : ℕ) (all : IsTrue (skips test n (elements (outer ++ gone ∷ inside ∷ inner)))). subst (λ (es : List Entered). IsTrue (skips test n es)) (elements-two outer inner gone inside) all in
    let is = λ (test : Entered → Bool) (n : ℕ) (all : IsTrue (skips test n (xs ++ inside.own ∷ new ∷ ys))). subst (λ (es : List Entered). IsTrue (skips test n es)) (sym (elements-two outer inner a b)) all in
    let none-inner : IsTrue (list_all (is_elsewhere new.role.name) ys) =
    skips-inner (is_elsewhere new.role.name) (get_or names new.role.name 0) xs ys gone.own inside.own (omega arith)
    (was (is_elsewhere new.role.name) (get_or names new.role.name 0) (old.sought new.role.name)) in
    let test = has_name (length names) in
    let split = and_parts (list_all test outer) (test gone && (test inside && list_all test inner)) (sym (list_all-append test outer (gone ∷ inside ∷ inner)) ∙ old.named) in
    let split-behind = and_parts (test inside) (list_all test inner) (and_parts (test gone) (test inside && list_all test inner) split.1).1 in
    let placed : ArePlaced (set places inside.own.number (length outer)) (outer ++ a ∷ b ∷ inner) =
    placed-turned places outer inner gone inside a b refl
    (λ (same : new.number ≡ inside.own.number).
    apart new.number (outer ++ gone ∷ inside ∷ inner) none (suc (length outer)) (omega (arith, length-append outer (gone ∷ inside ∷ inner))) (number-second outer inner gone inside ∙ sym same))
    within (omega arith) old.placed in
    record {
      named =
          subst (λ (count : ℕ). IsTrue (list_all (has_name count) (outer ++ a ∷ b ∷ inner))) (sym (length-set names new.role.name (place + 2)))
          (list_all-append test outer (a ∷ b ∷ inner)
          ∙ and_from (list_all test outer) (test a && (test b && list_all test inner)) split.0
          (and_from (test inside) (test b && list_all test inner) split-behind.0
          (and_from (test b) (list_all test inner) (lt-ltb new.role.name (length names) name) split-behind.1)));
      limited = λ kind.
          is (is_not_of kind) (limit_at kind limits)
          (skips-turned (is_not_of kind) (limit_at kind limits) xs ys gone.own inside.own inside.own new (λ is. is) (fewer kind) (was (is_not_of kind) (limit_at kind limits) (old.limited kind)));
      sought = λ n.
          elim (eqb_tells new.role.name n) [
            | inl same ↦ subst (λ (m : ℕ). IsTrue (skips (is_elsewhere m) (get_or (set names new.role.name (place + 2)) m 0) (elements (outer ++ a ∷ b ∷ inner)))) same.1
                (subst (λ (m : ℕ). IsTrue (skips (is_elsewhere new.role.name) m (elements (outer ++ a ∷ b ∷ inner)))) (sym (get_or-set_same names new.role.name (place + 2) 0 (omega arith)))
                (is (is_elsewhere new.role.name) (place + 2)
                (skips-at (is_elsewhere new.role.name) (place + 2) xs ys inside.own new (omega arith) none-inner)))
            | inr other ↦ subst (λ (m : ℕ). IsTrue (skips (is_elsewhere n) m (elements (outer ++ a ∷ b ∷ inner)))) (sym (get_or-set_other names new.role.name n (place + 2) 0 (λ (same : n ≡ new.role.name). other.1 (sym same))))
                (is (is_elsewhere n) (get_or names n 0)
                (skips-turned (is_elsewhere n) (get_or names n 0) xs ys gone.own inside.own inside.own new (λ is. is) (λ (_ : IsTrue (is_elsewhere n inside.own)). ap not other.0) (was (is_elsewhere n) (get_or names n 0) (old.sought n))))
          ];
      limits_kept = λ kind.
          kept-turned (kept_of kind) (kept_at kind) (λ (x : Entered). true) outer inner gone inside a b (λ (e : Entry) is. is) (λ (e : Entry) (_ : IsTrue true). fewer kind) (all-true ys) (old.limits_kept kind)
          (λ (first : IsTrue (skips (is_not_of kind) (limit_at kind gone.limits) xs)) (_ : IsTrue (skips (is_not_of kind) (limit_at kind inside.limits) (xs ++ gone.own ∷ []))).
          (first, subst (λ (n : ℕ). IsTrue (skips (is_not_of kind) (limit_at kind (raised gone.limits inside.own.role (n + 1))) (xs ++ inside.own ∷ []))) deep-own (kind-raised kind gone.limits xs inside.own first)));
      names_kept =
          kept-turned name_kept_of name_kept_at (is_elsewhere new.role.name) outer inner gone inside a b (λ (e : Entry) is. is)
          (λ (e : Entry) (other : IsTrue (is_elsewhere new.role.name e.own)) (_ : IsTrue (is_elsewhere e.own.role.name inside.own)). elsewhere-swap e.own new other)
          none-inner old.names_kept
          (λ (_ : IsTrue (skips (is_elsewhere gone.own.role.name) gone.name xs)) (second : IsTrue (skips (is_elsewhere inside.own.role.name) inside.name (xs ++ gone.own ∷ []))). (
            skips-front (is_elsewhere inside.own.role.name) inside.name xs (gone.own ∷ []) second,
            skips-past (is_elsewhere new.role.name) (place + 1) (xs ++ inside.own ∷ []) (omega (arith, length-append xs (inside.own ∷ []))),
          ));
      placed = subst (λ (n : ℕ). ArePlaced (set places inside.own.number n) (outer ++ a ∷ b ∷ inner)) (sym deep) placed;
    }

-- the entries of a place and of the next one
pub two-of : (entries : List Entry) (place : ℕ) (gone inside : Entry) → suc place < length entries → gone ≡ get_or entries place gone → inside ≡ get_or entries (suc place) inside → entries ≡ take place entries ++ gone ∷ inside ∷ drop (suc (suc place)) entries
two-of [] place gone inside h first second = absurd (omega arith)
two-of (x ∷ []) zero gone inside h first second = absurd (omega arith)
two-of (x ∷ y ∷ entries) zero gone inside h first second = cc
two-of (x ∷ entries) (suc place) gone inside h first second =
    ap (λ (rest : List Entry). x ∷ rest) (two-of entries place gone inside (omega arith) first second)

pub two-set : (entries : List Entry) (place : ℕ) (a b : Entry) → suc place < length entries → set (set entries place a) (suc place) b ≡ take place entries ++ a ∷ b ∷ drop (suc (suc place)) entries
two-set [] place a b h = absurd (omega arith)
two-set (x ∷ []) zero a b h = absurd (omega arith)
two-set (x ∷ y ∷ entries) zero a b h = refl
two-set (x ∷ entries) (suc place) a b h =
    ap (λ (rest : List Entry). x ∷ rest) (two-set entries place a b (omega arith))

-- what stands there then
pub all-turned : (outer inner : List Entry) (gone inside : Entry) (new : Entered) (place : ℕ) → place ≡ length outer → elements (outer ++ moved gone inside ∷ added gone inside new place ∷ inner) ≡ turned place new (elements (outer ++ gone ∷ inside ∷ inner))
unfolding turned
all-turned outer inner gone inside new place deep =
    let xs = elements outer in
    let ys = elements inner in
    let own : place ≡ length xs = deep ∙ sym (length-map outer (λ (entry : Entry). entry.own)) in
    let front : take place (elements (outer ++ gone ∷ inside ∷ inner)) ≡ xs =
    ap (take place) (elements-two outer inner gone inside) ∙ (ap (λ (n : ℕ). take n (xs ++ gone.own ∷ inside.own ∷ ys)) own ∙ take-append_seam xs (gone.own ∷ inside.own ∷ ys)) in
    let behind : drop (suc place) (elements (outer ++ gone ∷ inside ∷ inner)) ≡ inside.own ∷ ys =
    ap (drop (suc place)) (elements-two outer inner gone inside) ∙ (ap (λ (n : ℕ). drop (suc n) (xs ++ gone.own ∷ inside.own ∷ ys)) own ∙ behind-one xs gone.own (inside.own ∷ ys)) in
    elements-two outer inner (moved gone inside) (added gone inside new place)
    ∙ (sym (ap (λ (front : List Entered). turned_after front new (inside.own ∷ ys)) front)
    ∙ sym (ap (turned_after (take place (elements (outer ++ gone ∷ inside ∷ inner))) new) behind))
  where
    behind-one : (xs : List Entered) (x : Entered) (ys : List Entered) → drop (suc (length xs)) (xs ++ x ∷ ys) ≡ ys
    behind-one [] x ys = refl
    behind-one (y ∷ xs) x ys = behind-one xs x ys

-- where the new one is of no kind that the one before it isn't of
not-either : (own other : Bool) → IsTrue (not own || other) → IsTrue (not other) → IsTrue (not own)
not-either true true either past = past
not-either true false either past = either
not-either false other either past = refl

each-of : (a b c d e : Bool) → IsTrue (a && b && c && d && e) → IsTrue a × IsTrue b × IsTrue c × IsTrue d × IsTrue e
each-of a b c d e is =
    let p = and_parts (a && b && c && d) e is in
    let q = and_parts (a && b && c) d p.0 in
    let r = and_parts (a && b) c q.0 in
    let t = and_parts a b r.0 in
    (t.0, t.1, r.1, q.1, p.1)

fewer-kinds : (new inside : Role) → IsTrue (is_within new inside) → IsTrue (not new.is_scope || inside.is_scope) × IsTrue (not new.is_item_bound || inside.is_item_bound) × IsTrue (not new.is_special || inside.is_special) × IsTrue (not new.is_decisive || inside.is_decisive) × IsTrue (not new.is_html || inside.is_html)
fewer-kinds new inside is =
    each-of (not new.is_scope || inside.is_scope) (not new.is_item_bound || inside.is_item_bound) (not new.is_special || inside.is_special) (not new.is_decisive || inside.is_decisive) (not new.is_html || inside.is_html) is

within-kind : (kind : Kind) (new inside : Entered) → IsTrue (is_within new.role inside.role) → IsTrue (is_not_of kind inside) → IsTrue (is_not_of kind new)
within-kind Scope new inside is = not-either new.role.is_scope inside.role.is_scope (fewer-kinds new.role inside.role is).0
within-kind ItemBound new inside is = not-either new.role.is_item_bound inside.role.is_item_bound (fewer-kinds new.role inside.role is).1
within-kind Special new inside is = not-either new.role.is_special inside.role.is_special (fewer-kinds new.role inside.role is).2
within-kind Decisive new inside is = not-either new.role.is_decisive inside.role.is_decisive (fewer-kinds new.role inside.role is).3
within-kind Html new inside is = not-either new.role.is_html inside.role.is_html (fewer-kinds new.role inside.role is).4

-- the entries as they are written, one after the other
abbrev pub turned-entries : List Entry → ℕ → Entry → Entry → List Entry
turned-entries entries place a b = set (set entries place a) (place + 1) b

module _ (entries : List Entry) (place : ℕ) (gone inside : Entry) (new : Entered) (deep : place + 1 < length entries) (first : gone ≡ get_or entries place gone) (second : inside ≡ get_or entries (place + 1) inside) where
  was-two : entries ≡ take place entries ++ gone ∷ inside ∷ drop (suc (suc place)) entries
  was-two = two-of entries place gone inside (omega arith) first (rw add-one at second)

  is-two : turned-entries entries place (moved gone inside) (added gone inside new place) ≡ take place entries ++ moved gone inside ∷ added gone inside new place ∷ drop (suc (suc place)) entries
  is-two =
      ap (λ (n : ℕ). set (set entries place (moved gone inside)) n (added gone inside new place)) (add-one place)
      ∙ two-set entries place (moved gone inside) (added gone inside new place) (omega arith)

  front-length : place ≡ length (take place entries)
  front-length = sym (length-take-le place entries (omega arith))

  pub turned-sound : (limits : Limits) (names places : List ℕ) → IsTrue (is_within new.role inside.own.role) → get_or names new.role.name 0 ≤ place + 2 → new.role.name < length names → new.number < length places → get_or places new.number 0 ≡ place + 1 → list_any (is_numbered new.number) (elements entries) ≡ false → AreSound entries limits names places → AreSound (turned-entries entries place (moved gone inside) (added gone inside new place)) limits (set names new.role.name (place + 2)) (set places inside.own.number place)
  turned-sound limits names places fewer near name within at none old =
      subst (λ (es : List Entry). AreSound es limits (set names new.role.name (place + 2)) (set places inside.own.number place)) (sym is-two)
      (sound-turned (take place entries) (drop (suc (suc place)) entries) gone inside new limits names places place front-length
      (λ (kind : Kind). within-kind kind new inside.own fewer) near name within at
      (subst (λ (es : List Entry). list_any (is_numbered new.number) (elements es) ≡ false) was-two none)
      (subst (λ (es : List Entry). AreSound es limits names places) was-two old))

  pub turned-all : (left : List Entered) → left ≡ elements (turned-entries entries place (moved gone inside) (added gone inside new place)) → left ≡ take (length left) (turned place new (elements entries))
  turned-all left is =
      let all : left ≡ turned place new (elements entries) =
      is ∙ (ap elements is-two ∙ (all-turned (take place entries) (drop (suc (suc place)) entries) gone inside new place front-length
      ∙ ap (λ (es : List Entry). turned place new (elements es)) (sym was-two))) in
      sym (ap (take (length left)) (sym all) ∙ take-length left)
