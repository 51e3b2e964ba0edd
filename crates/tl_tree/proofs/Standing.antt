-- An element leaves, and a new one comes to stand at its place, which is to searches what the next one is: what is known of those further in.
use Rattle.std.proofs.Common.{ap, arith, inl, inr, sym, subst, ◌∙◌, ◌≡◌, ◌+◌, ◌≤◌, ◌<◌, ◌&&◌, ◌++◌, ◌∷◌, [], Bool, IsTrue, List, add-one, drop, get_or, length, length-append, refl, set, suc, take, true, ℕ}
use Rattle.std.proofs.Math.Seq.{take-append_seam, take-length}
use Rattle.std.proofs.lemmas.Bool.{and_from, and_parts}
use Rattle.std.proofs.lemmas.List.{length-map, length-take-le}
use Rattle.std.proofs.lemmas.List.Folds.{list_all-append}
use Rattle.std.specs.List.{list_all}
use Rattle.tl_tree.proofs.Skips.{AreSound, ArePlaced, kept_at, kept_of, kind-raised, name_kept_at, name_kept_of, skips-front, skips-past}
use Rattle.tl_tree.proofs.Turning.{all-true, elements-two, kept-turned, length-turned, number-first, number-other, number-second, skips-turned, two-of, two-set, which}
use Rattle.tl_tree.specs.Inner.Entered.{replaced, replaced_before}
use Rattle.tl_tree.specs.Inner.Roles.{is_elsewhere, is_not_of}
use Rattle.tl_tree.specs.Inner.Scoped.{elements, has_name, limit_at, numbers, raised, skips}
use Rattle.tl_tree.specs.declared.role.Entered.{Entered}
use Rattle.tl_tree.specs.declared.role.Kind.{Kind}
use Rattle.tl_tree.specs.declared.scopes.Entry.{Entry}
use Rattle.tl_tree.specs.declared.scopes.Limits.{Limits}

-- what comes to stand in place of the two: the new one, and the inner one of them
abbrev pub standing : Entry → Entry → ℕ → Entry
standing gone inside number =
    record { own = record { number = number; role = inside.own.role }; limits = gone.limits; name = inside.name }

abbrev pub raised-over : Entry → Entry → ℕ → Entry
raised-over gone inside place =
    record { own = inside.own; limits = raised gone.limits inside.own.role (place + 1); name = place + 1 }

-- Places

module _ (places : List ℕ) (outer inner : List Entry) (gone inside a b : Entry) (same : b.own.number ≡ inside.own.number) (a-in : a.own.number < length places) (a-at : get_or places a.own.number 0 ≡ length outer) (old : ArePlaced places (outer ++ gone ∷ inside ∷ inner)) where
  deep : suc (length outer) < length (outer ++ gone ∷ inside ∷ inner)
  deep = omega (arith, length-append outer (gone ∷ inside ∷ inner))

  second-is : get_or (numbers (outer ++ a ∷ b ∷ inner)) (suc (length outer)) 0 ≡ get_or (numbers (outer ++ gone ∷ inside ∷ inner)) (suc (length outer)) 0
  second-is =
      number-second outer inner a b ∙ (same ∙ sym (number-second outer inner gone inside))

  stands-within : (place : ℕ) → place < length (outer ++ a ∷ b ∷ inner) → get_or (numbers (outer ++ a ∷ b ∷ inner)) place 0 < length places
  stands-within place h =
      elim (which place (length outer)) [
        | inl first ↦ subst (λ (n : ℕ). n < length places) (sym (ap (λ (n : ℕ). get_or (numbers (outer ++ a ∷ b ∷ inner)) n 0) first ∙ number-first outer inner a b)) a-in
        | inr behind ↦ elim behind [
          | inl second ↦ subst (λ (n : ℕ). n < length places) (sym (ap (λ (n : ℕ). get_or (numbers (outer ++ a ∷ b ∷ inner)) n 0) second ∙ second-is)) (old.within (suc (length outer)) deep)
          | inr far ↦ subst (λ (n : ℕ). n < length places) (sym (number-other outer inner a b gone inside place far.0 far.1))
              (old.within place (omega (arith, length-turned outer inner a b gone inside)))
        ]
      ]

  stands-here : (place : ℕ) → place < length (outer ++ a ∷ b ∷ inner) → get_or places (get_or (numbers (outer ++ a ∷ b ∷ inner)) place 0) 0 ≡ place
  stands-here place h =
      elim (which place (length outer)) [
        | inl first ↦ ap (λ (n : ℕ). get_or places n 0) (ap (λ (n : ℕ). get_or (numbers (outer ++ a ∷ b ∷ inner)) n 0) first ∙ number-first outer inner a b) ∙ (a-at ∙ sym first)
        | inr behind ↦ elim behind [
          | inl second ↦ ap (λ (n : ℕ). get_or places n 0) (ap (λ (n : ℕ). get_or (numbers (outer ++ a ∷ b ∷ inner)) n 0) second ∙ second-is) ∙ (old.here (suc (length outer)) deep ∙ sym second)
          | inr far ↦ ap (λ (n : ℕ). get_or places n 0) (number-other outer inner a b gone inside place far.0 far.1) ∙ old.here place (omega (arith, length-turned outer inner a b gone inside))
        ]
      ]

  placed-standing : ArePlaced places (outer ++ a ∷ b ∷ inner)
  placed-standing = record { within = stands-within; here = stands-here }

-- All of it

sound-standing : (outer inner : List Entry) (gone inside : Entry) (number : ℕ) (limits : Limits) (names places : List ℕ) (place : ℕ) → place ≡ length outer → number < length places → get_or places number 0 ≡ place → AreSound (outer ++ gone ∷ inside ∷ inner) limits names places → AreSound (outer ++ standing gone inside number ∷ raised-over gone inside place ∷ inner) limits names places
sound-standing outer inner gone inside number limits names places place deep within at old =
    let a = standing gone inside number in
    let b = raised-over gone inside place in
    let xs = elements outer in
    let ys = elements inner in
    let deep-own : length xs ≡ place = length-map outer (λ (entry : Entry). entry.own) ∙ sym deep in
    let was = λ (test : Entered → Bool) (n : ℕ) (all : IsTrue (skips test n (elements (outer ++ gone ∷ inside ∷ inner)))). subst (λ (es : List Entered). IsTrue (skips test n es)) (elements-two outer inner gone inside) all in
    let is = λ (test : Entered → Bool) (n : ℕ) (all : IsTrue (skips test n (xs ++ a.own ∷ inside.own ∷ ys))). subst (λ (es : List Entered). IsTrue (skips test n es)) (sym (elements-two outer inner a b)) all in
    let test = has_name (length names) in
    let split = and_parts (list_all test outer) (test gone && (test inside && list_all test inner)) (sym (list_all-append test outer (gone ∷ inside ∷ inner)) ∙ old.named) in
    let split-behind = and_parts (test inside) (list_all test inner) (and_parts (test gone) (test inside && list_all test inner) split.1).1 in
    record {
      named =
          list_all-append test outer (a ∷ b ∷ inner)
          ∙ and_from (list_all test outer) (test a && (test b && list_all test inner)) split.0
          (and_from (test a) (test b && list_all test inner) split-behind.0
          (and_from (test b) (list_all test inner) split-behind.0 split-behind.1));
      limited = λ kind.
          is (is_not_of kind) (limit_at kind limits)
          (skips-turned (is_not_of kind) (limit_at kind limits) xs ys gone.own inside.own a.own inside.own (λ is. is) (λ is. is) (was (is_not_of kind) (limit_at kind limits) (old.limited kind)));
      sought = λ n.
          is (is_elsewhere n) (get_or names n 0)
          (skips-turned (is_elsewhere n) (get_or names n 0) xs ys gone.own inside.own a.own inside.own (λ is. is) (λ is. is) (was (is_elsewhere n) (get_or names n 0) (old.sought n)));
      limits_kept = λ kind.
          kept-turned (kept_of kind) (kept_at kind) (λ (x : Entered). true) outer inner gone inside a b (λ (e : Entry) is. is) (λ (e : Entry) (_ : IsTrue true) is. is) (all-true ys) (old.limits_kept kind)
          (λ (first : IsTrue (skips (is_not_of kind) (limit_at kind gone.limits) xs)) (_ : IsTrue (skips (is_not_of kind) (limit_at kind inside.limits) (xs ++ gone.own ∷ []))).
          (first, subst (λ (n : ℕ). IsTrue (skips (is_not_of kind) (limit_at kind (raised gone.limits inside.own.role (n + 1))) (xs ++ a.own ∷ []))) deep-own (kind-raised kind gone.limits xs a.own first)));
      names_kept =
          kept-turned name_kept_of name_kept_at (λ (x : Entered). true) outer inner gone inside a b (λ (e : Entry) is. is) (λ (e : Entry) (_ : IsTrue true) is. is) (all-true ys) old.names_kept
          (λ (_ : IsTrue (skips (is_elsewhere gone.own.role.name) gone.name xs)) (second : IsTrue (skips (is_elsewhere inside.own.role.name) inside.name (xs ++ gone.own ∷ []))). (
            skips-front (is_elsewhere inside.own.role.name) inside.name xs (gone.own ∷ []) second,
            skips-past (is_elsewhere inside.own.role.name) (place + 1) (xs ++ a.own ∷ []) (omega (arith, length-append xs (a.own ∷ []))),
          ));
      placed = placed-standing places outer inner gone inside a b refl within (at ∙ deep) old.placed;
    }

-- what stands there then
all-standing : (outer inner : List Entry) (gone inside : Entry) (number place : ℕ) → place ≡ length outer → elements (outer ++ standing gone inside number ∷ raised-over gone inside place ∷ inner) ≡ replaced place number (elements (outer ++ gone ∷ inside ∷ inner))
unfolding replaced
all-standing outer inner gone inside number place deep =
    let xs = elements outer in
    let ys = elements inner in
    let own : place ≡ length xs = deep ∙ sym (length-map outer (λ (entry : Entry). entry.own)) in
    let front : take place (elements (outer ++ gone ∷ inside ∷ inner)) ≡ xs =
    ap (take place) (elements-two outer inner gone inside) ∙ (ap (λ (n : ℕ). take n (xs ++ gone.own ∷ inside.own ∷ ys)) own ∙ take-append_seam xs (gone.own ∷ inside.own ∷ ys)) in
    let behind : drop (suc place) (elements (outer ++ gone ∷ inside ∷ inner)) ≡ inside.own ∷ ys =
    ap (drop (suc place)) (elements-two outer inner gone inside) ∙ (ap (λ (n : ℕ). drop (suc n) (xs ++ gone.own ∷ inside.own ∷ ys)) own ∙ behind-one xs gone.own (inside.own ∷ ys)) in
    elements-two outer inner (standing gone inside number) (raised-over gone inside place)
    ∙ (sym (ap (λ (front : List Entered). replaced_before front number (inside.own ∷ ys)) front)
    ∙ sym (ap (replaced_before (take place (elements (outer ++ gone ∷ inside ∷ inner))) number) behind))
  where
    behind-one : (xs : List Entered) (x : Entered) (ys : List Entered) → drop (suc (length xs)) (xs ++ x ∷ ys) ≡ ys
    behind-one [] x ys = refl
    behind-one (y ∷ xs) x ys = behind-one xs x ys

-- What is left where all is cut away

replaced-front : (outer : List Entered) (number : ℕ) (rest : List Entered) → take (length outer) (replaced_before outer number rest) ≡ outer
replaced-front outer number [] = take-length outer
replaced-front outer number (x ∷ rest) =
    take-append_seam outer (record { number = number; role = x.role } ∷ x ∷ rest)

pub cut-replaced : (place number : ℕ) (old left : List Entered) → left ≡ take place old → left ≡ take (length left) (replaced place number old)
unfolding replaced
cut-replaced place number old left is =
    is ∙ sym (ap (λ (n : ℕ). take n (replaced_before (take place old) number (drop (suc place) old))) (ap length is) ∙ replaced-front (take place old) number (drop (suc place) old))

-- the entries as they are written, one after the other
abbrev pub standing-entries : List Entry → ℕ → Entry → Entry → List Entry
standing-entries entries place a b = set (set entries place a) (place + 1) b

module _ (entries : List Entry) (place : ℕ) (gone inside : Entry) (number : ℕ) (deep : place + 1 < length entries) (first : gone ≡ get_or entries place gone) (second : inside ≡ get_or entries (place + 1) inside) where
  was-two : entries ≡ take place entries ++ gone ∷ inside ∷ drop (suc (suc place)) entries
  was-two = two-of entries place gone inside (omega arith) first (rw add-one at second)

  is-two : standing-entries entries place (standing gone inside number) (raised-over gone inside place) ≡ take place entries ++ standing gone inside number ∷ raised-over gone inside place ∷ drop (suc (suc place)) entries
  is-two =
      ap (λ (n : ℕ). set (set entries place (standing gone inside number)) n (raised-over gone inside place)) (add-one place)
      ∙ two-set entries place (standing gone inside number) (raised-over gone inside place) (omega arith)

  front-length : place ≡ length (take place entries)
  front-length = sym (length-take-le place entries (omega arith))

  pub standing-sound : (limits : Limits) (names places : List ℕ) → number < length places → get_or places number 0 ≡ place → AreSound entries limits names places → AreSound (standing-entries entries place (standing gone inside number) (raised-over gone inside place)) limits names places
  standing-sound limits names places within at old =
      subst (λ (es : List Entry). AreSound es limits names places) (sym is-two)
      (sound-standing (take place entries) (drop (suc (suc place)) entries) gone inside number limits names places place front-length within at
      (subst (λ (es : List Entry). AreSound es limits names places) was-two old))

  pub standing-all : (left : List Entered) → left ≡ elements (standing-entries entries place (standing gone inside number) (raised-over gone inside place)) → left ≡ take (length left) (replaced place number (elements entries))
  standing-all left is =
      let all : left ≡ replaced place number (elements entries) =
      is ∙ (ap elements is-two ∙ (all-standing (take place entries) (drop (suc (suc place)) entries) gone inside number place front-length
      ∙ ap (λ (es : List Entry). replaced place number (elements es)) (sym was-two))) in
      sym (ap (take (length left)) (sym all) ∙ take-length left)
