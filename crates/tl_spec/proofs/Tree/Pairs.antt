-- What edits of a list of pairs leave true of it.
use Rattle.std.proofs.Common.{◌≡◌, ℕ, zero, suc, ◌++◌, ◌+◌, ◌-◌, ◌<◌, ◌≤◌, Bool, true, false, cond, not, nat_lt, if◌then◌else◌, List, [], ◌∷◌, length, map, position, Option, Some, None, is_some, refl, sym, ap, ◌∙◌, subst, arith}
use Rattle.std.specs.Cmp.{IsEquivalence}
use Rattle.std.specs.List.{AllByRecursion, IsDistinct, list_any, prefix_len, swap_remove}
use Rattle.std.specs.Option.{option_map_or}
use Rattle.std.specs.Map.{keys_of, lookup, set_value}
use Rattle.std.proofs.lemmas.Bool.{cond_both}
use Rattle.std.proofs.lemmas.List.{length-map, map-append}
use Rattle.std.proofs.lemmas.Map.Keys.{IsDistinct-push}
use Rattle.std.proofs.lemmas.Map.Made.{is_some-lookup}
use Rattle.std.proofs.lemmas.List.Elements.{All-from_recursion, recursion_from_All, All-set, All-take}
use Rattle.indexmap.specs.IndexMap.{insert_entry, set_value_at, swap_remove_entry}
use Rattle.indexmap.proofs.MapLemmas.{Found-position, Missing-position, absent_from_lookup, insert_entry-absent, insert_entry-first}

-- a search of images is a search by them
pub position-map : {X Y : Type 0} (t : Y → Bool) (f : X → Y) (xs : List X) → position t (map f xs) ≡ position (λ x. t (f x)) xs
position-map {X} t f xs = λ i. cond (nat_lt (passed xs i) (length-map xs f i)) (Some (passed xs i)) None
  where
    passed : (ys : List X) → prefix_len (λ y. not (t y)) (map f ys) ≡ prefix_len (λ x. not (t (f x))) ys
    passed [] = refl
    passed (y ∷ ys) = ap (λ n. cond (not (t (f y))) (1 + n) 0) (passed ys)

module _ {K V : Type 0} (eq : K → K → Bool) where
  -- a new key makes one pair more
  pub length-insert_entry : (es : List (K × V)) (k : K) (v : V) → length (insert_entry eq es k v) ≡ cond (is_some (lookup (eq k) es)) (length es) (suc (length es))
  length-insert_entry [] k v = refl
  length-insert_entry (e ∷ es) k v = by (eq k e.0) (length-insert_entry es k v)
    where
      more : (there : Bool) (n : ℕ) → suc (cond there n (suc n)) ≡ cond there (suc n) (suc (suc n))
      more true n = refl
      more false n = refl

      by : (b : Bool) → length (insert_entry eq es k v) ≡ cond (is_some (lookup (eq k) es)) (length es) (suc (length es))
          → length (if b then (e.0, v) ∷ es else e ∷ insert_entry eq es k v) ≡ cond (is_some (cond b (Some e.1) (lookup (eq k) es))) (suc (length es)) (suc (suc (length es)))
      by true later = refl
      by false later = ap suc later ∙ more (is_some (lookup (eq k) es)) (length es)

  pub length-insert_entry-le : (es : List (K × V)) (k : K) (v : V) → length (insert_entry eq es k v) ≤ 1 + length es
  length-insert_entry-le es k v =
      let P : ℕ → Type 0 = λ n. n ≤ 1 + length es in
      subst P (sym (length-insert_entry es k v)) (cond_both (is_some (lookup (eq k) es)) _ _ P (λ _. omega arith) (λ _. omega arith))

  -- a new key goes last
  pub insert_new : (es : List (K × V)) (k : K) (v : V) → lookup (eq k) es ≡ None → insert_entry eq es k v ≡ es ++ (k, v) ∷ []
  insert_new es k v none = insert_entry-absent eq k v es (absent_from_lookup (eq k) es none)

  -- a key that is there keeps its place
  pub insert_present : (es : List (K × V)) (k : K) (v : V) (i : ℕ) → Some i ≡ position (eq k) (keys_of es) → insert_entry eq es k v ≡ set_value_at es i v
  insert_present es k v i index = insert_entry-first eq k v es i (Found-position (eq k) es i (sym index)).first

  pub keys-set_value_at : (es : List (K × V)) (i : ℕ) (w : V) → keys_of (set_value_at es i w) ≡ keys_of es
  keys-set_value_at [] i w = refl
  keys-set_value_at (e ∷ es) zero w = refl
  keys-set_value_at (e ∷ es) (suc i) w = ap (λ l. e.0 ∷ l) (keys-set_value_at es i w)

  -- an insert keeps the keys distinct
  pub distinct_insert : IsEquivalence eq → (es : List (K × V)) (k : K) (v : V) → IsDistinct eq (keys_of es) → IsDistinct eq (keys_of (insert_entry eq es k v))
  distinct_insert o es k v s = by (position (eq k) (keys_of es)) refl
    where
      by : (r : Option ℕ) → position (eq k) (keys_of es) ≡ r → IsDistinct eq (keys_of (insert_entry eq es k v))
      by (Some i) e = subst (IsDistinct eq) (sym (ap keys_of (insert_present es k v i (sym e)) ∙ keys-set_value_at es i v)) s
      by None e =
          let none = (Missing-position (eq k) es e).value in
          let apart : list_any (eq k) (keys_of es) ≡ false = sym (is_some-lookup (eq k) es) ∙ ap is_some none in
          subst (IsDistinct eq) (sym (ap keys_of (insert_new es k v none) ∙ map-append (λ e. e.0) es ((k, v) ∷ []))) (IsDistinct-push o (keys_of es) k s apart)

-- what is true of each pair
module _ {K V : Type 0} (P : K × V → Type 0) where
  by_test : (b : Bool) (e : K × V) (v : V) (es fs : List (K × V)) → P (e.0, v) → AllByRecursion P (e ∷ es) → AllByRecursion P fs
      → AllByRecursion P (cond b ((e.0, v) ∷ es) (e ∷ fs))
  by_test true e v es fs new h later = (new, h.1)
  by_test false e v es fs new h later = (h.0, later)

  -- after an insert
  pub all-insert_entry : (eq : K → K → Bool) (es : List (K × V)) (k : K) (v : V) → ((e : K × V) → P e → P (e.0, v)) → P (k, v)
      → AllByRecursion P es → AllByRecursion P (insert_entry eq es k v)
  all-insert_entry eq [] k v stays new h = (new, tt)
  all-insert_entry eq (e ∷ es) k v stays new h = by_test (eq k e.0) e v es (insert_entry eq es k v) (stays e h.0) h (all-insert_entry eq es k v stays new h.1)

  -- after a write of a value
  pub all-set_value : (t : K → Bool) (es : List (K × V)) (v : V) → ((e : K × V) → P e → P (e.0, v)) → AllByRecursion P es → AllByRecursion P (set_value t es v)
  all-set_value t [] v stays h = tt
  all-set_value t (e ∷ es) v stays h = by_test (t e.0) e v es (set_value t es v) (stays e h.0) h (all-set_value t es v stays h.1)

  -- after a removal
  pub all-swap_remove_entry : (t : K → Bool) (es : List (K × V)) → AllByRecursion P es → AllByRecursion P (swap_remove_entry t es)
  all-swap_remove_entry t [] h = tt
  all-swap_remove_entry t (e ∷ es) h = by (position t (keys_of (e ∷ es)))
    where
      by : (r : Option ℕ) → AllByRecursion P (option_map_or (λ i. swap_remove (e ∷ es) i e) r (e ∷ es))
      by None = h
      by (Some i) =
          let all = All-from_recursion P (e ∷ es) h in
          let within : length (e ∷ es) - 1 < length (e ∷ es) = omega arith in
          recursion_from_All P _ (All-take P (length (e ∷ es) - 1) _ (All-set P (e ∷ es) i _ (all (length (e ∷ es) - 1) e within) all))
