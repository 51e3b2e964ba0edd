-- Elements that are entered and go again: what limits say of them, and where they stand.
use Rattle.std.proofs.Common.{ap, arith, inl, inr, sym, subst, ◌∙◌, ◌≡◌, ◌≢◌, ◌+◌, ◌-◌, ◌≤◌, ◌<◌, ◌&&◌, ◌++◌, ◌==◌, ◌∷◌, ◌⊎◌, [], Bool, IsTrue, List, Some, cond, false, get_or, length, length-append, map, min, not, refl, set, slice_get, suc, take, true, zero, ℕ}
use Rattle.std.proofs.lemmas.Bool.{and_from, and_parts, eqb-false, lt-ltb, ltb-true, ne_eqb, or_from, or_parts}
use Rattle.std.proofs.lemmas.Bool.Decides.{eqb_tells}
use Rattle.std.proofs.lemmas.Grind.{get_or_default_zero}
use Rattle.std.proofs.lemmas.List.{append-nil, append_assoc, drop_all, drop_min, get_or-set_other, get_or-set_same, length-map, length-set, map-append}
use Rattle.std.proofs.lemmas.List.Folds.{list_all-append}
use Rattle.std.specs.List.{list_all, list_any}
use Rattle.tl_tree.proofs.Listed.{all-drop, all-pushed, all-weaker, map-take}
use Rattle.tl_tree.specs.Inner.Roles.{is_elsewhere, is_not_of, is_numbered}
use Rattle.tl_tree.specs.Inner.Scoped.{are_kept, elements, has_name, is_name_kept, is_limit_kept, limit_at, numbers, raised, skips}
use Rattle.tl_tree.specs.declared.role.Entered.{Entered}
use Rattle.tl_tree.specs.declared.role.Kind.{Kind}
use Rattle.tl_tree.specs.declared.role.Kind.TheVariants.{Decisive, Html, ItemBound, Scope, Special}
use Rattle.tl_tree.specs.declared.scopes.Entry.{Entry}
use Rattle.tl_tree.specs.declared.scopes.Limits.{Limits}
use Rattle.tl_tree.specs.declared.scopes.Scopes.{Scopes}

-- a number that was read of a list
pub read-number : (xs : List ℕ) (i x : ℕ) → i < length xs → x ≡ get_or xs i x → x ≡ get_or xs i 0
read-number xs i x h is = is ∙ get_or_default_zero xs i x h

-- and there is none
pub read-none : (xs : List ℕ) (i : ℕ) → length xs ≤ i → get_or xs i 0 ≡ 0
read-none [] i h = refl
read-none (x ∷ xs) zero h = absurd (omega arith)
read-none (x ∷ xs) (suc i) h = read-none xs i (omega arith)

-- Limits

-- at the end nothing is left
pub skips-past : (test : Entered → Bool) (n : ℕ) (xs : List Entered) → length xs ≤ n → IsTrue (skips test n xs)
skips-past test n xs h = ap (list_all test) (drop_all n xs h)

-- one more that passes
pub skips-push : (test : Entered → Bool) (n : ℕ) (xs : List Entered) (x : Entered) → IsTrue (skips test n xs) → IsTrue (test x) → IsTrue (skips test n (xs ++ x ∷ []))
skips-push test zero xs x all one = all-pushed test true xs (xs ++ x ∷ []) x refl all one
skips-push test (suc n) [] x all one = all-drop test n [] refl
skips-push test (suc n) (y ∷ xs) x all one = skips-push test n xs x all one

-- a limit that is raised where the new one doesn't pass
skips-raised : (test : Entered → Bool) (fails : Bool) (limit : ℕ) (xs : List Entered) (x : Entered) → test x ≡ not fails → IsTrue (skips test limit xs) → IsTrue (skips test (cond fails (length xs + 1) limit) (xs ++ x ∷ []))
skips-raised test true limit xs x own all =
    skips-past test (length xs + 1) (xs ++ x ∷ []) (omega (arith, length-append xs (x ∷ [])))
skips-raised test false limit xs x own all = skips-push test limit xs x all own

pub skips-front : (test : Entered → Bool) (n : ℕ) (xs rest : List Entered) → IsTrue (skips test n (xs ++ rest)) → IsTrue (skips test n xs)
skips-front test zero xs rest all =
    (and_parts (list_all test xs) (list_all test rest) (sym (list_all-append test xs rest) ∙ all)).0
skips-front test (suc n) [] rest all = refl
skips-front test (suc n) (y ∷ xs) rest all = skips-front test n xs rest all

-- a limit that ends with the elements
pub skips-min : (test : Entered → Bool) (limit many least : ℕ) (xs : List Entered) → least ≡ min limit many → many ≡ length xs → IsTrue (skips test limit xs) → IsTrue (skips test least xs)
skips-min test limit many least xs is length-is all =
    subst (λ (n : ℕ). IsTrue (skips test n xs)) (sym (is ∙ ap (min limit) length-is))
    (ap (list_all test) (drop_min limit xs) ∙ all)

pub kind-raised : (kind : Kind) (limits : Limits) (xs : List Entered) (x : Entered) → IsTrue (skips (is_not_of kind) (limit_at kind limits) xs) → IsTrue (skips (is_not_of kind) (limit_at kind (raised limits x.role (length xs + 1))) (xs ++ x ∷ []))
kind-raised Scope limits xs x all = skips-raised (is_not_of Scope) x.role.is_scope limits.scope xs x refl all
kind-raised ItemBound limits xs x all = skips-raised (is_not_of ItemBound) x.role.is_item_bound limits.item_bound xs x refl all
kind-raised Special limits xs x all = skips-raised (is_not_of Special) x.role.is_special limits.special xs x refl all
kind-raised Decisive limits xs x all = skips-raised (is_not_of Decisive) x.role.is_decisive limits.decisive xs x refl all
kind-raised Html limits xs x all = skips-raised (is_not_of Html) x.role.is_html limits.html xs x refl all

name-raised : (names : List ℕ) (xs : List Entered) (x : Entered) (b : ℕ) → x.role.name < length names → IsTrue (skips (is_elsewhere b) (get_or names b 0) xs) → IsTrue (skips (is_elsewhere b) (get_or (set names x.role.name (length xs + 1)) b 0) (xs ++ x ∷ []))
name-raised names xs x b within all =
    elim (eqb_tells x.role.name b) [
      | inl same ↦ (let end : get_or (set names x.role.name (length xs + 1)) b 0 ≡ length xs + 1 = ap (λ (n : ℕ). get_or (set names x.role.name (length xs + 1)) n 0) (sym same.1) ∙ get_or-set_same names x.role.name (length xs + 1) 0 within in
          skips-past (is_elsewhere b) (get_or (set names x.role.name (length xs + 1)) b 0) (xs ++ x ∷ []) (omega (arith, end, length-append xs (x ∷ []))))
      | inr other ↦ (let stays : get_or (set names x.role.name (length xs + 1)) b 0 ≡ get_or names b 0 = get_or-set_other names x.role.name b (length xs + 1) 0 (λ (e : b ≡ x.role.name). other.1 (sym e)) in
          subst (λ (n : ℕ). IsTrue (skips (is_elsewhere b) n (xs ++ x ∷ []))) (sym stays)
          (skips-push (is_elsewhere b) (get_or names b 0) xs x all (ap not other.0)))
    ]

-- What entries keep

module _ (test : Entry → Entered → Bool) (limit : Entry → ℕ) where
  kept-push : (outer : List Entered) (entries : List Entry) (e : Entry) → IsTrue (are_kept test limit outer entries) → IsTrue (skips (test e) (limit e) (outer ++ elements entries)) → IsTrue (are_kept test limit outer (entries ++ e ∷ []))
  kept-push outer [] e all one =
      and_from (skips (test e) (limit e) outer) true (subst (λ (xs : List Entered). IsTrue (skips (test e) (limit e) xs)) (append-nil outer) one) refl
  kept-push outer (x ∷ entries) e all one =
      let p = and_parts (skips (test x) (limit x) outer) (are_kept test limit (outer ++ x.own ∷ []) entries) all in
      and_from (skips (test x) (limit x) outer) (are_kept test limit (outer ++ x.own ∷ []) (entries ++ e ∷ [])) p.0
      (kept-push (outer ++ x.own ∷ []) entries e p.1
      (subst (λ (xs : List Entered). IsTrue (skips (test e) (limit e) xs)) (sym (append_assoc outer (x.own ∷ []) (elements entries))) one))

  pub kept-front : (outer : List Entered) (entries rest : List Entry) → IsTrue (are_kept test limit outer (entries ++ rest)) → IsTrue (are_kept test limit outer entries)
  kept-front outer [] rest all = refl
  kept-front outer (x ∷ entries) rest all =
      let p = and_parts (skips (test x) (limit x) outer) (are_kept test limit (outer ++ x.own ∷ []) (entries ++ rest)) all in
      and_from (skips (test x) (limit x) outer) (are_kept test limit (outer ++ x.own ∷ []) entries) p.0
      (kept-front (outer ++ x.own ∷ []) entries rest p.1)

  kept-last : (outer : List Entered) (entries : List Entry) (e : Entry) → IsTrue (are_kept test limit outer (entries ++ e ∷ [])) → IsTrue (skips (test e) (limit e) (outer ++ elements entries))
  kept-last outer [] e all =
      subst (λ (xs : List Entered). IsTrue (skips (test e) (limit e) xs)) (sym (append-nil outer)) (and_parts (skips (test e) (limit e) outer) true all).0
  kept-last outer (x ∷ entries) e all =
      let p = and_parts (skips (test x) (limit x) outer) (are_kept test limit (outer ++ x.own ∷ []) (entries ++ e ∷ [])) all in
      subst (λ (xs : List Entered). IsTrue (skips (test e) (limit e) xs)) (append_assoc outer (x.own ∷ []) (elements entries))
      (kept-last (outer ++ x.own ∷ []) entries e p.1)

-- Places

-- each element stands where its number says
pub record ArePlaced (places : List ℕ) (entries : List Entry) : Type 0 where
  pub within : (place : ℕ) → place < length entries → get_or (numbers entries) place 0 < length places
  pub here : (place : ℕ) → place < length entries → get_or places (get_or (numbers entries) place 0) 0 ≡ place

pub apart : (number : ℕ) (entries : List Entry) → list_any (is_numbered number) (elements entries) ≡ false → (place : ℕ) → place < length entries → get_or (numbers entries) place 0 ≢ number
apart number [] none place h same = omega arith
apart number (x ∷ entries) none zero h same =
    eqb-false x.own.number number (or_parts (x.own.number == number) (list_any (is_numbered number) (elements entries)) none).0 same
apart number (x ∷ entries) none (suc place) h same =
    apart number entries (or_parts (x.own.number == number) (list_any (is_numbered number) (elements entries)) none).1 place (omega arith) same

-- the place of a number that is new
placed-other : (places new : List ℕ) (number : ℕ) (entries : List Entry) → length places ≤ length new → ((n : ℕ) → n < length places → n ≢ number → get_or new n 0 ≡ get_or places n 0) → list_any (is_numbered number) (elements entries) ≡ false → ArePlaced places entries → ArePlaced new entries
placed-other places new number entries longer others none old = record {
  within = λ place h. (let own = old.within place h in omega arith);
  here = λ place h. others (get_or (numbers entries) place 0) (old.within place h) (apart number entries none place h) ∙ old.here place h;
}

number-front : (entries : List Entry) (e : Entry) (place : ℕ) → place < length entries → get_or (numbers (entries ++ e ∷ [])) place 0 ≡ get_or (numbers entries) place 0
number-front [] e place h = absurd (omega arith)
number-front (x ∷ entries) e zero h = refl
number-front (x ∷ entries) e (suc place) h = number-front entries e place (omega arith)

number-last : (entries : List Entry) (e : Entry) → get_or (numbers (entries ++ e ∷ [])) (length entries) 0 ≡ e.own.number
number-last [] e = refl
number-last (x ∷ entries) e = number-last entries e

last-or : (place many : ℕ) → place < many + 1 → (place < many) ⊎ (place ≡ many)
last-or place many h =
    elim (eqb_tells place many) [ inl same ↦ inr same.1 | inr other ↦ inl (let apart = other.1 in omega arith) ]

placed-push : (places : List ℕ) (entries : List Entry) (e : Entry) → e.own.number < length places → get_or places e.own.number 0 ≡ length entries → ArePlaced places entries → ArePlaced places (entries ++ e ∷ [])
placed-push places entries e within own old = record {
  within = λ place h.
      elim (last-or place (length entries) (omega (arith, length-append entries (e ∷ [])))) [
        | inl before ↦ (let at = number-front entries e place before in let lt = old.within place before in omega arith)
        | inr last ↦ (let at : get_or (numbers (entries ++ e ∷ [])) place 0 ≡ e.own.number = ap (λ (n : ℕ). get_or (numbers (entries ++ e ∷ [])) n 0) last ∙ number-last entries e in omega arith)
      ];
  here = λ place h.
      elim (last-or place (length entries) (omega (arith, length-append entries (e ∷ [])))) [
        | inl before ↦ ap (λ (n : ℕ). get_or places n 0) (number-front entries e place before) ∙ old.here place before
        | inr last ↦ (let at : get_or (numbers (entries ++ e ∷ [])) place 0 ≡ e.own.number = ap (λ (n : ℕ). get_or (numbers (entries ++ e ∷ [])) n 0) last ∙ number-last entries e in
            ap (λ (n : ℕ). get_or places n 0) at ∙ (own ∙ sym last))
      ];
}

placed-front : (places : List ℕ) (entries : List Entry) (e : Entry) → ArePlaced places (entries ++ e ∷ []) → ArePlaced places entries
placed-front places entries e all =
    let many = length-append entries (e ∷ []) in
    record {
      within = λ place h. subst (λ (n : ℕ). n < length places) (number-front entries e place h) (all.within place (omega arith));
      here = λ place h. ap (λ (n : ℕ). get_or places n 0) (sym (number-front entries e place h)) ∙ all.here place (omega arith);
    }

-- the number of an element at a place
pub number-at : (entries : List Entry) (place : ℕ) (e : Entry) → place < length entries → e ≡ get_or entries place e → get_or (numbers entries) place 0 ≡ e.own.number
number-at [] place e h is = absurd (omega arith)
number-at (x ∷ entries) zero e h is = ap (λ (y : Entry). y.own.number) (sym is)
number-at (x ∷ entries) (suc place) e h is = number-at entries place e (omega arith) is

pub number-found : (entries : List Entry) (place : ℕ) (e : Entry) → place < length entries → e ≡ get_or entries place e → slice_get (map (λ (x : Entered). x.number) (elements entries)) place ≡ Some e.own.number
number-found [] place e h is = absurd (omega arith)
number-found (x ∷ entries) zero e h is = ap (λ (y : Entry). Some y.own.number) (sym is)
number-found (x ∷ entries) (suc place) e h is = number-found entries place e (omega arith) is

none-of : (number : ℕ) (entries : List Entry) → ((place : ℕ) → place < length entries → get_or (numbers entries) place 0 ≢ number) → list_any (is_numbered number) (elements entries) ≡ false
none-of number [] others = refl
none-of number (x ∷ entries) others =
    or_from (x.own.number == number) (list_any (is_numbered number) (elements entries))
    (ne_eqb x.own.number number (others zero (omega arith)))
    (none-of number entries (λ place h. others (suc place) (omega arith)))

-- All of it

pub record AreSound (entries : List Entry) (limits : Limits) (names at : List ℕ) : Type 0 where
  pub named : IsTrue (list_all (has_name (length names)) entries)
  pub limited : (kind : Kind) → IsTrue (skips (is_not_of kind) (limit_at kind limits) (elements entries))
  pub sought : (name : ℕ) → IsTrue (skips (is_elsewhere name) (get_or names name 0) (elements entries))
  pub limits_kept : (kind : Kind) → IsTrue (is_limit_kept kind entries)
  pub names_kept : IsTrue (is_name_kept entries)
  pub placed : ArePlaced at entries

pub sound-of : (s : Scopes) → AreSound s.entries.items s.limits s.names.items s.places.items
sound-of s = record {
  named = s.named;
  limited = s.limited;
  sought = s.sought;
  limits_kept = s.limits_kept;
  names_kept = s.names_kept;
  placed = record { within = s.numbered; here = s.placed };
}

-- a number that has no place
pub none-placed : (s : Scopes) (number : ℕ) → length s.places.items ≤ number → list_any (is_numbered number) (elements s.entries.items) ≡ false
none-placed s number past =
    none-of number s.entries.items (λ place h same. (let within = s.numbered place h in omega arith))

-- the place of a number has another one, or none
pub none-there : (s : Scopes) (number place : ℕ) → number < length s.places.items → place ≡ get_or s.places.items number place → (place < length s.entries.items → get_or (numbers s.entries.items) place 0 ≢ number) → list_any (is_numbered number) (elements s.entries.items) ≡ false
none-there s number place within is other =
    none-of number s.entries.items
    (λ at h same.
    (let here : place ≡ at = read-number s.places.items number place within is ∙ (ap (λ (n : ℕ). get_or s.places.items n 0) (sym same) ∙ s.placed at h) in
    other (omega arith) (ap (λ (n : ℕ). get_or (numbers s.entries.items) n 0) here ∙ same)))

abbrev pub kept_of : Kind → Entry → Entered → Bool
kept_of kind entry = is_not_of kind

abbrev pub kept_at : Kind → Entry → ℕ
kept_at kind entry = limit_at kind entry.limits

abbrev pub name_kept_of : Entry → Entered → Bool
name_kept_of entry = is_elsewhere entry.own.role.name

abbrev pub name_kept_at : Entry → ℕ
name_kept_at entry = entry.name

pub elements-push : (entries : List Entry) (e : Entry) → elements (entries ++ e ∷ []) ≡ elements entries ++ e.own ∷ []
elements-push entries e = map-append (λ (entry : Entry). entry.own) entries (e ∷ [])

-- the last element goes
pub sound-left : (entries all : List Entry) (e : Entry) (limits : Limits) (names places : List ℕ) → all ≡ entries ++ e ∷ [] → AreSound all limits names places → AreSound entries e.limits (set names e.own.role.name e.name) places
sound-left entries all e limits names places is sound =
    let old : AreSound (entries ++ e ∷ []) limits names places = subst (λ (xs : List Entry). AreSound xs limits names places) is sound in
    let test = has_name (length names) in
    let own = and_parts (list_all test entries) (test e && true) (sym (list_all-append test entries (e ∷ [])) ∙ old.named) in
    let name = ltb-true e.own.role.name (length names) (and_parts (test e) true own.1).0 in
    record {
      named = subst (λ (count : ℕ). IsTrue (list_all (has_name count) entries)) (sym (length-set names e.own.role.name e.name)) own.0;
      limited = λ kind. kept-last (kept_of kind) (kept_at kind) [] entries e (old.limits_kept kind);
      sought = λ b.
          name-left names (elements entries) e b (omega arith) (kept-last name_kept_of name_kept_at [] entries e old.names_kept)
          (subst (λ (xs : List Entered). IsTrue (skips (is_elsewhere b) (get_or names b 0) xs)) (elements-push entries e) (old.sought b));
      limits_kept = λ kind. kept-front (kept_of kind) (kept_at kind) [] entries (e ∷ []) (old.limits_kept kind);
      names_kept = kept-front name_kept_of name_kept_at [] entries (e ∷ []) old.names_kept;
      placed = placed-front places entries e old.placed;
    }
  where
    name-left : (names : List ℕ) (xs : List Entered) (e : Entry) (b : ℕ) → e.own.role.name < length names → IsTrue (skips (is_elsewhere e.own.role.name) e.name xs) → IsTrue (skips (is_elsewhere b) (get_or names b 0) (xs ++ e.own ∷ [])) → IsTrue (skips (is_elsewhere b) (get_or (set names e.own.role.name e.name) b 0) xs)
    name-left names xs e b within kept all =
        elim (eqb_tells e.own.role.name b) [
          | inl same ↦ subst (λ (n : ℕ). IsTrue (skips (is_elsewhere n) (get_or (set names e.own.role.name e.name) n 0) xs)) same.1
              (subst (λ (n : ℕ). IsTrue (skips (is_elsewhere e.own.role.name) n xs)) (sym (get_or-set_same names e.own.role.name e.name 0 within)) kept)
          | inr other ↦ subst (λ (n : ℕ). IsTrue (skips (is_elsewhere b) n xs)) (sym (get_or-set_other names e.own.role.name b e.name 0 (λ (same : b ≡ e.own.role.name). other.1 (sym same))))
              (skips-front (is_elsewhere b) (get_or names b 0) xs (e.own ∷ []) all)
        ]

-- a new number gets a place
pub sound-place : (entries : List Entry) (limits : Limits) (names places new : List ℕ) (number : ℕ) → length places ≤ length new → ((n : ℕ) → n < length places → n ≢ number → get_or new n 0 ≡ get_or places n 0) → list_any (is_numbered number) (elements entries) ≡ false → AreSound entries limits names places → AreSound entries limits names new
sound-place entries limits names places new number longer others none old = record {
  named = old.named;
  limited = old.limited;
  sought = old.sought;
  limits_kept = old.limits_kept;
  names_kept = old.names_kept;
  placed = placed-other places new number entries longer others none old.placed;
}

-- there are more limits, which are 0
more-named : (count more : ℕ) → count ≤ more → (entries : List Entry) → IsTrue (list_all (has_name count) entries) → IsTrue (list_all (has_name more) entries)
more-named count more h entries all =
    all-weaker (has_name count) (has_name more)
    (λ e own. lt-ltb e.own.role.name more (more-than e.own.role.name (ltb-true e.own.role.name count own)))
    entries all
  where
    more-than : (n : ℕ) → n < count → n < more
    more-than n within = omega (arith, within, h)

pub sound-longer : (entries : List Entry) (limits : Limits) (names new places : List ℕ) → length names ≤ length new → ((n : ℕ) → get_or new n 0 ≡ get_or names n 0) → AreSound entries limits names places → AreSound entries limits new places
sound-longer entries limits names new places longer same old = record {
  named = more-named (length names) (length new) longer entries old.named;
  limited = old.limited;
  sought = λ name. subst (λ (n : ℕ). IsTrue (skips (is_elsewhere name) n (elements entries))) (sym (same name)) (old.sought name);
  limits_kept = old.limits_kept;
  names_kept = old.names_kept;
  placed = old.placed;
}

-- an element comes, whose number has its place
pub sound-entered : (entries all : List Entry) (e : Entry) (limits : Limits) (names places : List ℕ) (many : ℕ) → all ≡ entries ++ e ∷ [] → e.limits ≡ limits → e.name ≡ get_or names e.own.role.name 0 → e.own.role.name < length names → e.own.number < length places → get_or places e.own.number 0 ≡ many → many ≡ length entries → AreSound entries limits names places → AreSound all (raised limits e.own.role (many + 1)) (set names e.own.role.name (many + 1)) places
sound-entered entries all e limits names places many is kept name within number place deep old =
    let xs = elements entries in
    let length-is = sym (deep ∙ sym (length-map entries (λ (entry : Entry). entry.own))) in
    let own = e.own.role in
    subst (λ (new : List Entry). AreSound new (raised limits own (many + 1)) (set names own.name (many + 1)) places) (sym is)
    (record {
      named =
          subst (λ (count : ℕ). IsTrue (list_all (has_name count) (entries ++ e ∷ []))) (sym (length-set names own.name (many + 1)))
          (all-pushed (has_name (length names)) true entries (entries ++ e ∷ []) e refl old.named (lt-ltb own.name (length names) within));
      limited = λ kind.
          subst (λ (new : List Entered). IsTrue (skips (is_not_of kind) (limit_at kind (raised limits own (many + 1))) new)) (sym (elements-push entries e))
          (subst (λ (n : ℕ). IsTrue (skips (is_not_of kind) (limit_at kind (raised limits own (n + 1))) (xs ++ e.own ∷ []))) length-is
          (kind-raised kind limits xs e.own (old.limited kind)));
      sought = λ b.
          subst (λ (new : List Entered). IsTrue (skips (is_elsewhere b) (get_or (set names own.name (many + 1)) b 0) new)) (sym (elements-push entries e))
          (subst (λ (n : ℕ). IsTrue (skips (is_elsewhere b) (get_or (set names own.name (n + 1)) b 0) (xs ++ e.own ∷ []))) length-is
          (name-raised names xs e.own b (omega arith) (old.sought b)));
      limits_kept = λ kind.
          kept-push (kept_of kind) (kept_at kind) [] entries e (old.limits_kept kind)
          (subst (λ (before : Limits). IsTrue (skips (is_not_of kind) (limit_at kind before) xs)) (sym kept) (old.limited kind));
      names_kept =
          kept-push name_kept_of name_kept_at [] entries e old.names_kept
          (subst (λ (n : ℕ). IsTrue (skips (is_elsewhere own.name) n xs)) (sym name) (old.sought own.name));
      placed = placed-push places entries e number (place ∙ deep) old.placed;
    })

-- what is left of the elements
pub elements-left : (entries all : List Entry) (many : ℕ) → entries ≡ take (many - 1) all → many ≡ length all → elements entries ≡ take (length (elements all) - 1) (elements all)
elements-left entries all many is length-is =
    ap elements is
    ∙ (map-take (λ (entry : Entry). entry.own) (many - 1) all
    ∙ ap (λ (n : ℕ). take (n - 1) (elements all)) (length-is ∙ sym (length-map all (λ (entry : Entry). entry.own))))
